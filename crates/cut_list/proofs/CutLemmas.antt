-- Cuts line by line.
use Rattle.std.proofs.Common.{◌≡◌, ℕ, ◌+◌, ◌-◌, ◌<◌, ◌≤◌, List, [], ◌∷◌, ◌++◌, length, take, drop, refl, sym, ap, ◌∙◌, subst, arith, Option, Some, None, Ok, Err, append-nil, append_assoc}
use Rattle.std.specs.List.{slice_get}
use Rattle.std.proofs.KnownBytes.{Appends-nil}
use Rattle.std.proofs.lemmas.List.{length-append, take_more, drop_more, take_all, take-append-drop}
use Rattle.std.proofs.lemmas.Option.{slice_get_within, get_or_from_slice_get}
use Rattle.std.specs.Io.KnownBytes.{Appends, Keeps}
use Rattle.mv_ends.specs.Causes.{Rose}
use Rattle.mv_ends.specs.Ends.{Ends}
use Rattle.mv_ends.specs.Endings.{ending_of}
use Rattle.mv_ends.specs.Moves.{AppendsPart, AppendsFront}
use Rattle.mv_ends.proofs.Known.{Appends-trans, Keeps_after}
use Rattle.mv_ends.proofs.Parts.{none_of}
use Rattle.mv_terms.specs.declared.status.LineFault.{LineFault}
use Rattle.mv_terms.specs.declared.status.Status.TheVariants as status
use Rattle.mv_terms.specs.declared.frame_header.FrameHeader.{FrameHeader}
use Rattle.y4m_frames.specs.Frames.{file_of}
use Rattle.cut_list.specs.declared.entry.Entry.{Entry}
use Rattle.cut_list.specs.declared.line.Halted.{Halted}
use Rattle.cut_list.specs.declared.line.Halted.TheVariants as halted
use Rattle.cut_list.specs.Cut.{Cut, Given, cut_by, cut_with, cut_from, cut_of, line_given, first_header, outcome_by, status_of}
use Rattle.cut_list.specs.Steps.{CutSoFar, LineEnds, halted_status, onto}

-- what a line gives, where line 1's input has this header
abbrev given_of : (List ℕ → List ℕ) → Option FrameHeader → Entry → Given
given_of input first e = line_given first e.from e.to (file_of (input e.name))

abbrev next_of : (List ℕ → List ℕ) → Option FrameHeader → Entry → Option FrameHeader
next_of input first e = first_header first (file_of (input e.name))

cut_step : (input : List ℕ → List ℕ) (first : Option FrameHeader) (n : ℕ) (e : Entry) (more : List Entry) → cut_from input first n (e ∷ more) ≡ cut_by n (given_of input first e) (cut_from input (next_of input first e) (n + 1) more)
unfolding cut_from
cut_step input first n e more = refl

cut_none : (input : List ℕ → List ℕ) (first : Option FrameHeader) (n : ℕ) → cut_from input first n [] ≡ record { text = []; fault = None }
unfolding cut_from
cut_none input first n = refl

-- nothing was written yet
pub cut_begins : (input : List ℕ → List ℕ) (entries : List Entry) (old : Option (List ℕ)) → CutSoFar input entries 0 None old old
cut_begins input entries old = record {
  text = [];
  whole = λ more. refl;
  written = Appends-nil old;
}

module _ (input : List ℕ → List ℕ) (entries : List Entry) (i : ℕ) (first : Option FrameHeader) (old mid : Option (List ℕ)) (so_far : CutSoFar input entries i first old mid) (e : Entry) (here : slice_get entries i ≡ Some e) where
  within : i < length entries
  within = slice_get_within entries i e here

  -- the entries up to line i, and those behind them
  one_more : (more : List Entry) → take (i + 1) entries ++ more ≡ take i entries ++ (e ∷ more)
  one_more more =
      ap (λ xs. xs ++ more) (take_more entries i e within ∙ ap (λ x. take i entries ++ x ∷ []) (get_or_from_slice_get entries i e e here))
      ∙ append_assoc (take i entries) (e ∷ []) more

  all_parts : entries ≡ take i entries ++ (e ∷ drop (i + 1) entries)
  all_parts = sym (take-append-drop i entries) ∙ ap (λ xs. take i entries ++ xs) (drop_more entries i e within ∙ ap (λ x. x ∷ drop (i + 1) entries) (get_or_from_slice_get entries i e e here))

  cut_here : (more : List Entry) → cut_of input (take i entries ++ (e ∷ more)) ≡ onto so_far.text (cut_by (i + 1) (given_of input first e) (cut_from input (next_of input first e) (i + 1 + 1) more))
  cut_here more = so_far.whole (e ∷ more) ∙ ap (onto so_far.text) (cut_step input first (i + 1) e more)

  -- a line that is written whole
  pub cut_goes_on : (header : FrameHeader) (new : Option (List ℕ)) → LineEnds (given_of input first e) (next_of input first e) mid new (Ok header) → CutSoFar input entries (i + 1) (Some header) old new
  cut_goes_on header new h = record {
    text = so_far.text ++ (given_of input first e).text;
    whole = λ more.
        ap (cut_of input) (one_more more) ∙ cut_here more
        ∙ right (given_of input first e) h.0 (cut_from input (next_of input first e) (i + 1 + 1) more)
        ∙ ap (λ f. onto (so_far.text ++ (given_of input first e).text) (cut_from input f (i + 1 + 1) more)) h.1;
    written = Appends-trans old mid new so_far.text _ so_far.written h.2;
  }
    where
      right : (g : Given) → g.fault ≡ None → (others : Cut) → onto so_far.text (cut_by (i + 1) g others) ≡ onto (so_far.text ++ g.text) others
      right g none others = by_fault g.fault none
        where
          by_fault : (f : Option LineFault) → f ≡ None → onto so_far.text (cut_with (i + 1) g.text f others) ≡ onto (so_far.text ++ g.text) others
          by_fault None z = ap (λ t. record { text = t; fault = others.fault }) (sym (append_assoc so_far.text g.text others.text))
          by_fault (Some f) z = cc

  -- the text of a cut up to line i and on begins with what line i gives
  text_here : (more : List Entry) → (later : List ℕ) × ((cut_of input (take i entries ++ (e ∷ more))).text ≡ so_far.text ++ ((given_of input first e).text ++ later))
  text_here more =
      let t = front (given_of input first e) (cut_from input (next_of input first e) (i + 1 + 1) more) in
      (t.0, ap (λ (c : Cut). c.text) (cut_here more) ∙ ap (λ x. so_far.text ++ x) t.1)
    where
      front : (g : Given) (others : Cut) → (later : List ℕ) × ((cut_by (i + 1) g others).text ≡ g.text ++ later)
      front g others = by_fault g.fault
        where
          by_fault : (f : Option LineFault) → (later : List ℕ) × ((cut_with (i + 1) g.text f others).text ≡ g.text ++ later)
          by_fault None = (others.text, refl)
          by_fault (Some f) = ([], sym (append-nil g.text))

  part_here : (new : Option (List ℕ)) (more : List Entry) → AppendsPart mid new (given_of input first e).text → AppendsPart old new (cut_of input (take i entries ++ (e ∷ more))).text
  part_here new more p =
      let t = text_here more in
      record {
        front = so_far.text ++ p.front;
        back = p.back ++ t.0;
        parts = t.1 ∙ ap (λ x. so_far.text ++ (x ++ t.0)) p.parts ∙ regroup so_far.text p.front p.back t.0;
        grown = Appends-trans old mid new so_far.text p.front so_far.written p.grown;
      }
    where
      regroup : (a b c d : List ℕ) → a ++ ((b ++ c) ++ d) ≡ (a ++ b) ++ (c ++ d)
      regroup a b c d = simp append_assoc

  -- how the cut ends at line i
  pub line_faults : (fault : LineFault) (new : Option (List ℕ)) → LineEnds (given_of input first e) (next_of input first e) mid new (Err (halted.Fault fault)) → Ends (outcome_by input (Ok entries)) (ending_of (status.Line (i + 1) fault)) old new
  line_faults fault new h =
      let c : cut_of input entries ≡ record { text = so_far.text ++ (given_of input first e).text; fault = Some (i + 1, fault) } =
      ap (cut_of input) all_parts ∙ cut_here (drop (i + 1) entries) ∙ ends (given_of input first e) h.0 (cut_from input (next_of input first e) (i + 1 + 1) (drop (i + 1) entries)) in (
        ap (λ (x : Cut). status_of x.fault) (sym c),
        subst (Appends old new) (ap (λ (x : Cut). x.text) (sym c)) (Appends-trans old mid new so_far.text _ so_far.written h.1),
      )
    where
      ends : (g : Given) → g.fault ≡ Some fault → (others : Cut) → onto so_far.text (cut_by (i + 1) g others) ≡ record { text = so_far.text ++ g.text; fault = Some (i + 1, fault) }
      ends g some others = by_fault g.fault some
        where
          by_fault : (f : Option LineFault) → f ≡ Some fault → onto so_far.text (cut_with (i + 1) g.text f others) ≡ record { text = so_far.text ++ g.text; fault = Some (i + 1, fault) }
          by_fault None z = cc
          by_fault (Some f) z = (let same : f ≡ fault = cc in ap (λ x. record { text = so_far.text ++ g.text; fault = Some (i + 1, x) }) same)

  -- what stands on the output where a line isn't written for a fault of an endpoint or for want of memory
  pub text_before : (cut_of input (take i entries)).text ≡ so_far.text
  text_before = ap (λ xs. (cut_of input xs).text) (sym (append-nil (take i entries))) ∙ ap (λ (c : Cut). c.text) (so_far.whole [] ∙ ap (onto so_far.text) (cut_none input first (i + 1))) ∙ append-nil so_far.text

  pub before_line : (new : Option (List ℕ)) → Keeps mid new → Appends old new (cut_of input (take i entries)).text
  before_line new k = subst (Appends old new) (sym text_before) (Keeps_after old mid new so_far.text so_far.written k)

  pub part_up_to : (new : Option (List ℕ)) → AppendsPart mid new (given_of input first e).text → AppendsPart old new (cut_of input (take (i + 1) entries)).text
  part_up_to new p =
      subst (λ xs. AppendsPart old new (cut_of input xs).text) (sym (sym (append-nil (take (i + 1) entries)) ∙ one_more [])) (part_here new [] p)

  pub part_of_all : (new : Option (List ℕ)) → AppendsPart mid new (given_of input first e).text → AppendsPart old new (cut_of input entries).text
  part_of_all new p = subst (λ xs. AppendsPart old new (cut_of input xs).text) (sym all_parts) (part_here new (drop (i + 1) entries) p)

  pub front_of_all : (new : Option (List ℕ)) → AppendsFront mid new (given_of input first e).text → AppendsFront old new (cut_of input entries).text
  front_of_all new p =
      let t = text_here (drop (i + 1) entries) in
      record {
        front = so_far.text ++ p.front;
        back = p.back ++ t.0;
        parts = ap (λ xs. (cut_of input xs).text) all_parts ∙ t.1 ∙ ap (λ x. so_far.text ++ (x ++ t.0)) p.parts ∙ regroup so_far.text p.front p.back t.0;
        some_left = (let some = p.some_left in omega (arith, some, length-append p.back t.0));
        grown = Appends-trans old mid new so_far.text p.front so_far.written p.grown;
      }
    where
      regroup : (a b c d : List ℕ) → a ++ ((b ++ c) ++ d) ≡ (a ++ b) ++ (c ++ d)
      regroup a b c d = simp append_assoc

  pub halted_ends : (h : Halted) (new : Option (List ℕ)) → LineEnds (given_of input first e) (next_of input first e) mid new (Err h) → Ends (outcome_by input (Ok entries)) (ending_of (halted_status (i + 1) h)) old new
  halted_ends (halted.Fault fault) new h = line_faults fault new h
  halted_ends halted.Open new h =
      let back : i ≡ i + 1 - 1 = omega arith in
      (i + 1, subst (λ k. Appends old new (cut_of input (take k entries)).text) back (before_line new h))
  halted_ends halted.Read new h = (0, part_of_all new h)
  halted_ends halted.Write new h = front_of_all new h
  halted_ends halted.NoMemory new h = part_of_all new (none_of mid new (given_of input first e).text h)

  pub unopened : (h : Halted) (new : Option (List ℕ)) → h ≡ halted.Open → LineEnds (given_of input first e) (next_of input first e) mid new (Err h) → Appends old new (cut_of input (take i entries)).text
  unopened (halted.Fault fault) new is h = cc
  unopened halted.Open new is h = before_line new h
  unopened halted.Read new is h = cc
  unopened halted.Write new is h = cc
  unopened halted.NoMemory new is h = cc

  pub unread : (h : Halted) (new : Option (List ℕ)) → h ≡ halted.Read → LineEnds (given_of input first e) (next_of input first e) mid new (Err h) → AppendsPart old new (cut_of input (take (i + 1) entries)).text
  unread (halted.Fault fault) new is h = cc
  unread halted.Open new is h = cc
  unread halted.Read new is h = part_up_to new h
  unread halted.Write new is h = cc
  unread halted.NoMemory new is h = cc

-- all lines were written
pub cut_whole : (input : List ℕ → List ℕ) (entries : List Entry) (i : ℕ) (first : Option FrameHeader) (old new : Option (List ℕ)) → CutSoFar input entries i first old new → length entries ≤ i → Ends (outcome_by input (Ok entries)) (ending_of status.Done) old new
cut_whole input entries i first old new so_far all =
    let whole : entries ≡ take i entries ++ [] = sym (append-nil (take i entries) ∙ take_all i entries all) in
    let c : cut_of input entries ≡ record { text = so_far.text ++ []; fault = None } =
    ap (cut_of input) whole ∙ so_far.whole [] ∙ ap (onto so_far.text) (cut_none input first (i + 1)) in (
      ap (λ (x : Cut). status_of x.fault) (sym c),
      subst (Appends old new) (sym (ap (λ (x : Cut). x.text) c ∙ append-nil so_far.text)) so_far.written,
    )

-- a fault of a line's name that rose, also counted from before
pub rose_since : (a b c : ℕ) → a ≤ b → Rose b c → Rose a c
rose_since a b c le h = omega (arith, le, h)

-- which fault a status stands for
pub only_open : (n : ℕ) (h : Halted) → halted_status n h ≡ status.OpenFault → h ≡ halted.Open
only_open n (halted.Fault fault) is = cc
only_open n halted.Open is = refl
only_open n halted.Read is = cc
only_open n halted.Write is = cc
only_open n halted.NoMemory is = cc

pub only_read : (n : ℕ) (h : Halted) → halted_status n h ≡ status.ReadFault → h ≡ halted.Read
only_read n (halted.Fault fault) is = cc
only_read n halted.Open is = cc
only_read n halted.Read is = refl
only_read n halted.Write is = cc
only_read n halted.NoMemory is = cc
