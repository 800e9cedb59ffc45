-- How the copy of an input goes on and ends.
use Rattle.std.proofs.Common.{◌≡◌, ℕ, ◌+◌, ◌-◌, ◌<◌, ◌≤◌, false, cond, List, [], ◌∷◌, ◌++◌, length, drop, refl, sym, ap, ◌∙◌, subst, arith, Option, Some, None, Result, Ok, Err, nat_eq, append-nil, append_assoc, eq-eqb, ne_eqb, ⊎_elim}
use Rattle.std.proofs.lemmas.Bool.{cases_lt, cases_eq, le-leb, lt-leb}
use Rattle.std.proofs.KnownBytes.{Appends-nil}
use Rattle.std.proofs.lemmas.List.{length-append, length-drop, drop_all}
use Rattle.std.specs.Io.KnownBytes.{Appends, Consumes}
use Rattle.mv_ends.specs.Moves.{AppendsPart, AppendsFront}
use Rattle.mv_ends.proofs.Known.{Appends-trans}
use Rattle.mv_terms.specs.declared.status.FrameFault.{FrameFault}
use Rattle.y4m_frames.specs.declared.halt.Halt.{Halt}
use Rattle.y4m_frames.specs.declared.halt.Halt.TheVariants as halts
use Rattle.y4m_frames.specs.Frames.{Frames, File, file_of, frame_len, frames_left, frames_by, none_but, behind_frames}
use Rattle.y4m_frames.specs.Reading.{Reading, StandsFor, left_of, Hands, next_of, NextTells}
use Rattle.y4m_frames.proofs.FileLaws.{stands_for_its_frames, frames_step}
use Rattle.cut_list.specs.declared.copy.Stop.TheVariants as stop
use Rattle.cut_list.specs.Cut.{Listed, listed, line_fault, text_of}
use Rattle.cut_list.specs.Steps.{Grows, Copies, Copied, piece, listed_piece, stop_of}
use Rattle.cut_list.proofs.CopyLemmas.{listed_whole, listed_part, listed_more, text_more, text_push, listed_push, unlisted_push}

-- the frames of a file that a reader stands for, and those of what is left
pub file_frames : (r : Reading) (past behind bytes : List ℕ) (done : List (List ℕ)) (file : File) → StandsFor r past done → bytes ≡ past ++ behind → file_of bytes ≡ Ok file →
    file.frames ≡ behind_frames done (frames_left (frame_len r.header) r.count r.room behind)
file_frames r past behind bytes done file s whole is =
    let there = stands_for_its_frames r past done s behind in
    let rec : File = record { line = r.line; header = r.header; frames = behind_frames done (frames_left (frame_len r.header) r.count r.room behind) } in
    let same : Ok file ≡ Ok rec = sym is ∙ ap file_of whole ∙ there in
    let eq : file ≡ rec = cc in
    ap (λ (f : File). f.frames) eq

settled : (r : Reading) (behind : List ℕ) (x : Option FrameFault) (answer : Result (Option ℕ) FrameFault) → ((s : List ℕ) (f : ℕ → Frames) → frames_by answer (frame_len r.header) s f ≡ none_but x) → next_of r behind ≡ answer →
    frames_left (frame_len r.header) r.count r.room behind ≡ none_but x
settled r behind x answer stops is =
    frames_step (frame_len r.header) r.count r.room behind
    ∙ ap (λ a. frames_by a (frame_len r.header) behind (λ taken. frames_left (frame_len r.header) (r.count + 1) (r.room - taken) (drop taken behind))) is
    ∙ stops behind (λ taken. frames_left (frame_len r.header) (r.count + 1) (r.room - taken) (drop taken behind))

module _ (from to : ℕ) (opening : List ℕ) (r : Reading) (rest : Option (List ℕ)) (count : ℕ) (old new : Option (List ℕ)) (begun left : List ℕ) (file : File) (c : Copied from opening r rest count old new begun left) (is : file_of (begun ++ left) ≡ Ok file) where
  frames_are : file.frames ≡ behind_frames c.done (frames_left (frame_len r.header) r.count r.room c.behind)
  frames_are = file_frames r c.past c.behind (begun ++ left) c.done file c.stands c.whole is

  stopped : (x : Option FrameFault) → count ≤ to → frames_left (frame_len r.header) r.count r.room c.behind ≡ none_but x → Copies opening (listed from to file.frames) old new (Err (stop.Fault (line_fault x)))
  stopped x few none =
      let few_done : length c.done ≤ to = (let k = c.count_is in omega arith) in
      let l : listed from to file.frames ≡ record { frames = drop from c.done; fault = Some (line_fault x) } =
      ap (listed from to) (frames_are ∙ ap (behind_frames c.done) none) ∙ listed_part from to c.done x few_done in
      subst (λ (y : Listed). Copies opening y old new (Err (stop.Fault (line_fault x)))) (sym l) (refl, c.written)

  pub ends_short : count ≤ to → ((s : List ℕ) → left_of r rest ≡ Some s → NextTells r s (Ok false)) → Copies opening (listed from to file.frames) old new (Err (stop.Fault (line_fault None)))
  ends_short few tells = stopped None few (settled r c.behind None (Ok None) (λ s f. refl) (tells c.behind c.left_is))

  pub ends_part : count ≤ to + 1 → AppendsPart old new (text_of opening (listed from to file.frames).frames)
  ends_part few =
      let few_done : length c.done ≤ to + 1 = (let k = c.count_is in omega arith) in
      let m = listed_more from to c.done (frames_left (frame_len r.header) r.count r.room c.behind) few_done in
      let l : (listed from to file.frames).frames ≡ drop from c.done ++ m.0 = ap (λ f. (listed from to f).frames) frames_are ∙ m.1 in
      let t = text_more opening (drop from c.done) m.0 in
      record {
        front = text_of opening (drop from c.done);
        back = t.0;
        parts = ap (text_of opening) l ∙ t.1;
        grown = c.written;
      }

  pub ends_halt : (halt : Halt) → count ≤ to → ((s : List ℕ) → left_of r rest ≡ Some s → NextTells r s (Err halt)) → Copies opening (listed from to file.frames) old new (Err (stop_of halt))
  ends_halt (halts.Fault f) few tells = stopped (Some f) few (settled r c.behind (Some f) (Err f) (λ s g. refl) (tells c.behind c.left_is))
  ends_halt halts.Read few tells = ends_part (omega arith)
  ends_halt halts.NoMemory few tells = absurd (tells c.behind c.left_is)

  pub ends_whole : count ≡ to + 1 → Copies opening (listed from to file.frames) old new (Ok tt)
  ends_whole all =
      let l : listed from to file.frames ≡ record { frames = drop from c.done; fault = None } =
      ap (listed from to) frames_are ∙ listed_whole from to c.done (frames_left (frame_len r.header) r.count r.room c.behind) (c.count_is ∙ all) in
      subst (λ (y : Listed). Copies opening y old new (Ok tt)) (sym l) (refl, c.written)

-- what is left behind a frame that was handed out
pub record Behind (r' : Reading) (rest' : Option (List ℕ)) (taken behind : List ℕ) : Type 0 where
  pub later : List ℕ
  pub later_is : left_of r' rest' ≡ Some later
  pub whole : behind ≡ taken ++ later

pub behind_of : (old new : Option (List ℕ)) (taken behind : List ℕ) → old ≡ Some behind → Consumes old new taken → (later : List ℕ) × (new ≡ Some later) × (behind ≡ taken ++ later)
behind_of old None taken behind e h = absurd (subst (λ (o : Option (List ℕ)). Consumes o None taken) e h)
behind_of old (Some y) taken behind e h = (y, refl, subst (λ (o : Option (List ℕ)). Consumes o (Some y) taken) e h)

-- one frame more was handed out
pub goes_on : (from : ℕ) (opening : List ℕ) (r r' : Reading) (rest rest' : Option (List ℕ)) (count : ℕ) (samples : List ℕ) (old new new' : Option (List ℕ)) (begun left : List ℕ) (c : Copied from opening r rest count old new begun left) → Hands r r' rest rest' samples →
    Appends old new' (text_of opening (drop from (c.done ++ samples ∷ []))) → Copied from opening r' rest' (count + 1) old new' begun left
goes_on from opening r r' rest rest' count samples old new new' begun left c h written =
    let b = behind_of (left_of r rest) (left_of r' rest') h.taken c.behind c.left_is h.consumed in
    let n = c.count_is in
    record {
      past = c.past ++ h.taken;
      done = c.done ++ samples ∷ [];
      behind = b.0;
      stands = h.stands c.past c.done c.stands;
      left_is = b.1;
      whole = c.whole ∙ ap (λ x. c.past ++ x) b.2 ∙ sym (append_assoc c.past h.taken b.0);
      count_is = omega (arith, n, length-append c.done (samples ∷ []));
      written = written;
    }

zero_gap : (a b : ℕ) → b ≤ a → nat_eq (a - b) 0 ≡ nat_eq a b
zero_gap a b le = ⊎_elim
    (λ (e : a ≡ b). eq-eqb (a - b) 0 (omega arith) ∙ sym (eq-eqb a b e))
    (λ (n : a ≡ b → ⊥). ne_eqb (a - b) 0 (λ z. n (omega arith)) ∙ sym (ne_eqb a b n))
    (cases_eq a b)

-- the text of the listed frames and what one more frame adds
pub text_next : (from : ℕ) (opening : List ℕ) (done : List (List ℕ)) (samples : List ℕ) → text_of opening (drop from (done ++ samples ∷ [])) ≡ text_of opening (drop from done) ++ listed_piece from (length done) opening samples
text_next from opening done samples = ⊎_elim
    (λ (l : length done < from).
    ap (text_of opening) (unlisted_push from done samples l) ∙ sym (append-nil (text_of opening (drop from done)))
    ∙ ap (λ b. text_of opening (drop from done) ++ cond b (piece (nat_eq (length done) from) opening samples) []) (sym (lt-leb from (length done) l)))
    (λ (g : from ≤ length done).
    ap (text_of opening) (listed_push from done samples g) ∙ text_push opening (drop from done) samples
    ∙ ap (λ b. text_of opening (drop from done) ++ piece b opening samples) (ap (λ n. nat_eq n 0) (length-drop from done) ∙ zero_gap (length done) from g)
    ∙ ap (λ b. text_of opening (drop from done) ++ cond b (piece (nat_eq (length done) from) opening samples) []) (sym (le-leb from (length done) g)))
    (cases_lt (length done) from)

pub written_next : (from : ℕ) (opening : List ℕ) (done : List (List ℕ)) (count : ℕ) (samples : List ℕ) (old new new' : Option (List ℕ)) → length done ≡ count → Appends old new (text_of opening (drop from done)) → Appends new new' (listed_piece from count opening samples) →
    Appends old new' (text_of opening (drop from (done ++ samples ∷ [])))
written_next from opening done count samples old new new' n w p =
    let q : Appends new new' (listed_piece from (length done) opening samples) = subst (λ k. Appends new new' (listed_piece from k opening samples)) (sym n) p in
    subst (Appends old new') (sym (text_next from opening done samples)) (Appends-trans old new new' _ _ w q)

-- the write of a frame failed
pub ends_write : (from to : ℕ) (opening : List ℕ) (r r' : Reading) (rest rest' : Option (List ℕ)) (count : ℕ) (samples : List ℕ) (old new new' : Option (List ℕ)) (begun left : List ℕ) (file : File) (c : Copied from opening r rest count old new begun left) → Hands r r' rest rest' samples →
    file_of (begun ++ left) ≡ Ok file → count ≤ to → AppendsFront new new' (listed_piece from count opening samples) → AppendsFront old new' (text_of opening (listed from to file.frames).frames)
ends_write from to opening r r' rest rest' count samples old new new' begun left file c h is few front =
    let b = behind_of (left_of r rest) (left_of r' rest') h.taken c.behind c.left_is h.consumed in
    let n = c.count_is in
    let done : List (List ℕ) = c.done ++ samples ∷ [] in
    let whole : begun ++ left ≡ (c.past ++ h.taken) ++ b.0 = c.whole ∙ ap (λ x. c.past ++ x) b.2 ∙ sym (append_assoc c.past h.taken b.0) in
    let fs = file_frames r' (c.past ++ h.taken) b.0 (begun ++ left) done file (h.stands c.past c.done c.stands) whole is in
    let m = listed_more from to done (frames_left (frame_len r'.header) r'.count r'.room b.0) (omega (arith, n, few, length-append c.done (samples ∷ []))) in
    let l : (listed from to file.frames).frames ≡ drop from done ++ m.0 = ap (λ f. (listed from to f).frames) fs ∙ m.1 in
    let t = text_more opening (drop from done) m.0 in
    let so_far : List ℕ = text_of opening (drop from c.done) in
    let piece_is : listed_piece from (length c.done) opening samples ≡ front.front ++ front.back = ap (λ k. listed_piece from k opening samples) n ∙ front.parts in
    record {
      front = so_far ++ front.front;
      back = front.back ++ t.0;
      parts = ap (text_of opening) l ∙ t.1 ∙ ap (λ x. x ++ t.0) (text_next from opening c.done samples ∙ ap (λ x. so_far ++ x) piece_is) ∙ regroup so_far front.front front.back t.0;
      some_left = (let some = front.some_left in omega (arith, some, length-append front.back t.0));
      grown = Appends-trans old new new' so_far front.front c.written front.grown;
    }
  where
    regroup : (a b c d : List ℕ) → (a ++ (b ++ c)) ++ d ≡ (a ++ b) ++ (c ++ d)
    regroup a b c d = simp append_assoc

-- nothing was copied yet
pub begins : (from : ℕ) (opening : List ℕ) (r : Reading) (rest old : Option (List ℕ)) (begun left : List ℕ) → StandsFor r begun [] → left_of r rest ≡ Some left → Copied from opening r rest 0 old old begun left
begins from opening r rest old begun left s told =
    let none : drop from [] ≡ [] = drop_all {X = List ℕ} from [] (omega arith) in
    record {
      past = begun;
      done = [];
      behind = left;
      stands = s;
      left_is = told;
      whole = refl;
      count_is = refl;
      written = subst (λ (x : List (List ℕ)). Appends old old (text_of opening x)) (sym none) (Appends-nil old);
    }

pub grows_not : (old : Option (List ℕ)) → Grows old old
grows_not old = ([], Appends-nil old)
