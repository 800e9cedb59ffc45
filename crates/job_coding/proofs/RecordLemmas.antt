-- What a reader of records stands for behind one more frame.
use Rattle.std.proofs.Common.{◌≡◌, ℕ, List, [], ◌∷◌, ◌++◌, map, Option, refl, sym, ap, ap₂, ◌∙◌, subst}
use Rattle.std.proofs.lemmas.List.{map-append}
use Rattle.mv_terms.specs.declared.frame_header.FrameHeader.{FrameHeader}
use Rattle.rec_legal.specs.FoundRecord.{FoundRecord}
use Rattle.rec_legal.specs.Conditions.{file_size}
use Rattle.rec_legal.specs.Found.{found}
use Rattle.rec_reader.specs.Summaries.{summary_of}
use Rattle.plan_window.specs.declared.summary.Summary.{Summary}
use Rattle.plan_window.specs.Numbers.{AreNumbered, without_context}
use Rattle.plan_window.specs.Plan.{ahead}
use Rattle.plan_numbers.specs.Stands.{NumbersAgree, StandsFor as HasNumbered}
use Rattle.plan_numbers.specs.Numbered.{NumbersPlan}
use Rattle.job_coding.specs.declared.records.Records.{Records}
use Rattle.job_coding.specs.Stands.{StandsFor, contexts_of, known_of}

-- what the plan knows of a frame
abbrev known_in : FrameHeader → List ℕ → Summary
known_in header frame = summary_of (found (file_size header) frame)

-- the context of a summary
abbrev context_in : Summary → List ℕ
context_in s = s.context

-- One more frame, with what was found in it, and a summary that tells this but for the context, which was numbered.
pub one_more : (old new : Records) (header : FrameHeader) (frames : List (List ℕ)) (numbered : List Summary) (frame : List ℕ) (o : Option FoundRecord) (t : Summary) → StandsFor old header frames numbered → new.reader ≡ old.reader
    → o ≡ found (file_size old.reader) frame → without_context t ≡ without_context (summary_of o)
    → HasNumbered new.numbers (contexts_of (known_of header frames) ++ (summary_of o).context ∷ []) (contexts_of numbered ++ t.context ∷ [])
    → StandsFor new header (frames ++ frame ∷ []) (numbered ++ t ∷ [])
one_more old new header frames numbered frame o t stands same found_is tells has = record {
  header_is = same ∙ stands.header_is;
  is_header = stands.is_header;
  rest =
      ap (λ (l : List Summary). map without_context l) known_more
      ∙ map-append without_context (known_of header frames) (summary_of o ∷ [])
      ∙ ap₂ (λ (l : List Summary) (s : Summary). l ++ s ∷ []) stands.rest (sym tells)
      ∙ sym (map-append without_context numbered (t ∷ []));
  contexts =
      subst (λ (l : List (List ℕ)). HasNumbered new.numbers l (contexts_of (numbered ++ t ∷ []))) (sym (ap contexts_of known_more ∙ map-append context_in (known_of header frames) (summary_of o ∷ [])))
      (subst (λ (l : List (List ℕ)). HasNumbered new.numbers (contexts_of (known_of header frames) ++ (summary_of o).context ∷ []) l) (sym (map-append context_in numbered (t ∷ []))) has);
}
  where
    known : known_in header frame ≡ summary_of o
    known = ap (λ (h : FrameHeader). known_in h frame) (sym stands.header_is) ∙ ap summary_of (sym found_is)

    known_more : known_of header (frames ++ frame ∷ []) ≡ known_of header frames ++ summary_of o ∷ []
    known_more =
        map-append (known_in header) frames (frame ∷ [])
        ∙ ap (λ (s : Summary). known_of header frames ++ s ∷ []) known

-- The numbers serve as the contexts do.
pub are_numbered : NumbersAgree → NumbersPlan → (records : Records) (header : FrameHeader) (frames : List (List ℕ)) (numbered : List Summary) → StandsFor records header frames numbered → AreNumbered ahead (known_of header frames) numbered
are_numbered agree plan records header frames numbered stands =
    plan (known_of header frames) numbered (contexts_of (known_of header frames)) (contexts_of numbered) (agree records.numbers (contexts_of (known_of header frames)) (contexts_of numbered) stands.contexts) stands.rest refl refl
