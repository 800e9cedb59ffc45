-- The step of a test: the first frame, coded by the record of an I picture.
use Rattle.std.proofs.Common.{◌≡◌, ℕ, ◌+◌, ◌*◌, ◌<◌, true, false, List, [], length, replicate, Option, None, Some, Result, Ok, Err, refl, sym, ap, ◌∙◌, subst, arith}
use Rattle.std.specs.Prelude.{slice_index, if◌then◌else◌, MatchOption, IfOk}
use Rattle.std.specs.Result.{result_ok}
use Rattle.std.proofs.lemmas.List.{get_or-replicate, length-replicate}
use Rattle.mv_terms.specs.declared.frame_header.FrameHeader.{FrameHeader}
use Rattle.mv_terms.specs.declared.head.PicType.{PicType}
use Rattle.mv_terms.specs.declared.head.PicType.TheVariants.{I}
use Rattle.mv_terms.specs.PicTypes.{is_anchor}
use Rattle.mv_planes.specs.Planes.{Planes, grey_of}
use Rattle.rec_bury.specs.Exhumed.{HasTenBits}
use Rattle.rec_legal.specs.FoundRecord.{FoundRecord}
use Rattle.rec_legal.specs.Conditions.{file_size}
use Rattle.rec_legal.specs.Laws.{SaidIsLegal}
use Rattle.rec_reader.specs.declared.reader.Found.{Found}
use Rattle.rec_reader.specs.Lent.{lent_found}
use Rattle.rec_reader.specs.Right.{IsRight}
use Rattle.rec_reader.specs.Summaries.{record_summary}
use Rattle.plan_window.specs.declared.summary.Mode.TheVariants.{Guided, Fresh}
use Rattle.plan_window.specs.declared.summary.Step.{Step}
use Rattle.plan_window.specs.Links.{is_linked}
use Rattle.enc_guided.specs.Recoded.{Recoding}
use Rattle.enc_guided.specs.Stands.{IsGuidedStep, MayBeGuided, frame_step}
use Rattle.enc_guided.proofs.PlanLemmas.{right_can_be_coded}

-- the file of the test, each frame of which has this record
abbrev pub file : FrameHeader
file = record { wide = 96; high = 64; progressive = true; bottom_first = false; rate_num = 25; rate_den = 1 }

abbrev pub always : FoundRecord → Recoding
always g = record { header = file; scale = 8; find = λ (frame : List ℕ). Some g }

abbrev pub first_step : Step
first_step = record { frame = 0; anchor = true; mode = Guided }

-- a grey frame
grey_bits : (n : ℕ) → HasTenBits (replicate n 2)
grey_bits n = record {
  small = λ k inside.
      let less : 2 * k + 1 < n = omega (arith, inside, length-replicate {A = ℕ} n 2) in
      let low : slice_index (replicate n 2) (2 * k) ≡ 2 = get_or-replicate n (2 * k) 2 0 (omega (arith, less)) in
      let high : slice_index (replicate n 2) (2 * k + 1) ≡ 2 = get_or-replicate n (2 * k + 1) 2 0 less in
      omega (arith, low, high);
}

pub is_guided : (found : Found) (frame : List ℕ) → IsRight (file_size file) (lent_found found) → (lent_found found).sheet.pic ≡ I → frame ≡ replicate 18432 2 → IsGuidedStep (always (lent_found found)) [] (frame_step first_step frame) found
is_guided found frame right intra grey = record {
  mode = refl;
  found_is = refl;
  step = record {
    fits = record {
      mode = sym (ap (λ (p : PicType). if is_linked (Some p) (record_summary (lent_found found)) None None then Guided else Fresh) intra);
      found = λ m. refl;
      kind = λ m. ap is_anchor intra;
      waiting = λ a. (omega arith, omega arith);
      group = λ a. absurd (let no : true ≡ false = a in cc);
      few = λ a. absurd (let no : true ≡ false = a in cc);
    };
    right = right;
    size = ap length grey ∙ length-replicate {A = ℕ} 18432 2;
    samples = subst HasTenBits (sym grey) (grey_bits 18432);
    few = omega arith;
  };
}

-- its record alone, with a grey source
pub may_be_guided_alone : SaidIsLegal → (g : FoundRecord) (source : Planes) → IsRight (file_size file) g → g.sheet.pic ≡ I → source ≡ grey_of 6 4 → MayBeGuided file [] g source
may_be_guided_alone law g source right intra grey = record {
  can = right_can_be_coded law (file_size file) g right;
  b = λ a. absurd (let no : true ≡ false = sym (ap is_anchor intra) ∙ a in cc);
  size = record { wide = ap (λ (p : Planes). p.mb_wide) grey; high = ap (λ (p : Planes). p.mb_high) grey };
  few = omega arith;
}

-- ---- what is known of answers

pub known_some : {A : Type 0} (N : Type 0) (S : A → Type 0) (o : Option A) (x : A) → o ≡ Some x → MatchOption o N S → S x
known_some N S None x e h = absurd cc
known_some {A} N S (Some y) x e h = subst S (some_same e) h
  where
    some_same : Some y ≡ Some x → y ≡ x
    some_same same = cc

pub known_ok : {A E : Type 0} (S : A → Type 0) (r : Result A E) (x : A) → result_ok r ≡ Some x → IfOk r S → S x
known_ok S (Err e) x same h = absurd cc
known_ok {A} S (Ok y) x same h = subst S (some_same same) h
  where
    some_same : Some y ≡ Some x → y ≡ x
    some_same same = cc
