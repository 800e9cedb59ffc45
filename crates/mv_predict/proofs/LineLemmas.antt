-- The lines of a part have their values.
use Rattle.std.proofs.Common.{◌≡◌, ◌∙◌, ◌<◌, ℕ, ◌+◌, ◌*◌, ◌/◌, ◌%◌, zero, suc, List, [], arith, ap, refl, slice_index_or}
use Rattle.std.specs.Prelude.{slice_index}
use Rattle.mv_terms.specs.declared.macroblock.Decision.{Decision}
use Rattle.mv_planes.specs.declared.picture.Plane.{Plane}
use Rattle.mv_planes.specs.declared.part.Part.{Part}
use Rattle.mv_planes.specs.Planes.{Planes}
use Rattle.mv_predict.specs.declared.kernel.Lines.{Lines}
use Rattle.mv_predict.specs.Prediction.{Source, predicted_from, predicted_by, source_of}
use Rattle.mv_predict.specs.Steps.{value_at, lines_at, AreInside, LinesHave, beside, beside_column, rows_apart}
use Rattle.mv_predict.proofs.MovedLemmas.{value_of, value_beside, source_more, further}

-- a sample of a line has the value of its source
abbrev Sample : Planes → Decision → ℕ → ℕ → ℕ → List (List ℕ) → ℕ → ℕ → Plane → ℕ → Type 0
Sample f d s y step lines r j q u = slice_index (slice_index_or lines r []) j ≡ predicted_from f (source_of d s (y + r * step)) q u

even : (f : Planes) (d : Decision) (s y step : ℕ) (lines : List (List ℕ)) (r k j : ℕ) (q : Plane) (u : ℕ) → r ≡ 2 * k
    → slice_index (slice_index_or lines (2 * k) []) j ≡ predicted_from f (further (source_of d s y) (k * rows_apart (source_of d s y).field step)) q u
    → Sample f d s y step lines r j q u
even f d s y step lines r k j q u e h =
    let row : y + 2 * (k * step) ≡ y + 2 * k * step = omega arith in
    rw (e, ← row) (h ∙ ap (λ (t : Source). predicted_from f t q u) (source_more d s y k step))

odd : (f : Planes) (d : Decision) (s y step : ℕ) (lines : List (List ℕ)) (r k j : ℕ) (q : Plane) (u : ℕ) → r ≡ 2 * k + 1
    → slice_index (slice_index_or lines (2 * k + 1) []) j ≡ predicted_from f (further (source_of d s (y + step)) (k * rows_apart (source_of d s (y + step)).field step)) q u
    → Sample f d s y step lines r j q u
odd f d s y step lines r k j q u e h =
    let row : y + step + 2 * (k * step) ≡ y + (2 * k + 1) * step = omega arith in
    rw (e, ← row) (h ∙ ap (λ (t : Source). predicted_from f t q u) (source_more d s (y + step) k step))

either : (f : Planes) (d : Decision) (s y step : ℕ) (lines : List (List ℕ)) (r k j m : ℕ) (q : Plane) (u : ℕ) → r % 2 ≡ m → r / 2 ≡ k
    → slice_index (slice_index_or lines (2 * k) []) j ≡ predicted_from f (further (source_of d s y) (k * rows_apart (source_of d s y).field step)) q u
    → slice_index (slice_index_or lines (2 * k + 1) []) j ≡ predicted_from f (further (source_of d s (y + step)) (k * rows_apart (source_of d s (y + step)).field step)) q u
    → Sample f d s y step lines r j q u
either f d s y step lines r k j zero q u m e h g = even f d s y step lines r k j q u (omega (arith, m, e)) h
either f d s y step lines r k j (suc zero) q u m e h g = odd f d s y step lines r k j q u (omega (arith, m, e)) g
either f d s y step lines r k j (suc (suc n)) q u m e h g = absurd (omega (arith, m))

pub lines_are : (f : Planes) (part : Part) (d : Decision) (s : ℕ) (lines : List (List ℕ))
    → let a = lines_at f part.plane part.x (source_of d s part.y) part.step in let b = lines_at f part.plane part.x (source_of d s (part.y + part.step)) part.step in
    AreInside f part.plane part.x (source_of d s part.y) part.step → AreInside f part.plane part.x (source_of d s (part.y + part.step)) part.step
    → ((k c : ℕ) → k < 4 → c < 8 → slice_index (slice_index_or lines (2 * k) []) c ≡ value_at f.samples a a.at k c)
    → ((k c : ℕ) → k < 4 → c < 8 → slice_index (slice_index_or lines (2 * k) []) (8 + c) ≡ value_at f.samples a (a.at + a.apart) k c)
    → ((k c : ℕ) → k < 4 → c < 8 → slice_index (slice_index_or lines (2 * k + 1) []) c ≡ value_at f.samples b b.at k c)
    → ((k c : ℕ) → k < 4 → c < 8 → slice_index (slice_index_or lines (2 * k + 1) []) (8 + c) ≡ value_at f.samples b (b.at + b.apart) k c)
    → LinesHave (predicted_by d s f) part lines
lines_are f part d s lines i o ef es of os = record {
  first = λ r c lr lc. either f d s part.y part.step lines r (r / 2) c (r % 2) part.plane (part.x + c) refl refl
      (ef (r / 2) c (omega (arith, lr)) lc ∙ value_of f part.plane part.x (source_of d s part.y) part.step (r / 2) c i)
      (of (r / 2) c (omega (arith, lr)) lc ∙ value_of f part.plane part.x (source_of d s (part.y + part.step)) part.step (r / 2) c o);
  second = λ r c lr lc. either f d s part.y part.step lines r (r / 2) (8 + c) (r % 2) (beside part.plane) (part.x + beside_column part.plane + c) refl refl
      (es (r / 2) c (omega (arith, lr)) lc ∙ value_beside f part.plane part.x (source_of d s part.y) part.step (r / 2) c i)
      (os (r / 2) c (omega (arith, lr)) lc ∙ value_beside f part.plane part.x (source_of d s (part.y + part.step)) part.step (r / 2) c o);
}

pub lines_made : (f : Planes) (part : Part) (d : Decision) (s : ℕ) (lines : List (List ℕ)) (samples : List ℕ) (u w : Source) (a b : Lines)
    → samples ≡ f.samples → u ≡ source_of d s part.y → w ≡ source_of d s (part.y + part.step) → a ≡ lines_at f part.plane part.x u part.step → b ≡ lines_at f part.plane part.x w part.step
    → AreInside f part.plane part.x (source_of d s part.y) part.step → AreInside f part.plane part.x (source_of d s (part.y + part.step)) part.step
    → ((k c : ℕ) → k < 4 → c < 8 → slice_index (slice_index_or lines (2 * k) []) c ≡ value_at samples a a.at k c)
    → ((k c : ℕ) → k < 4 → c < 8 → slice_index (slice_index_or lines (2 * k) []) (8 + c) ≡ value_at samples a (a.at + a.apart) k c)
    → ((k c : ℕ) → k < 4 → c < 8 → slice_index (slice_index_or lines (2 * k + 1) []) c ≡ value_at samples b b.at k c)
    → ((k c : ℕ) → k < 4 → c < 8 → slice_index (slice_index_or lines (2 * k + 1) []) (8 + c) ≡ value_at samples b (b.at + b.apart) k c)
    → LinesHave (predicted_by d s f) part lines
lines_made f part d s lines samples u w a b same su sw ea eb i o ef es of os =
    let ia : a ≡ lines_at f part.plane part.x (source_of d s part.y) part.step = ea ∙ ap (λ (t : Source). lines_at f part.plane part.x t part.step) su in
    let ib : b ≡ lines_at f part.plane part.x (source_of d s (part.y + part.step)) part.step = eb ∙ ap (λ (t : Source). lines_at f part.plane part.x t part.step) sw in
    lines_are f part d s lines i o
    (λ k c lk lc. ef k c lk lc ∙ ap (λ (l : List ℕ). value_at l a a.at k c) same ∙ ap (λ (t : Lines). value_at f.samples t t.at k c) ia)
    (λ k c lk lc. es k c lk lc ∙ ap (λ (l : List ℕ). value_at l a (a.at + a.apart) k c) same ∙ ap (λ (t : Lines). value_at f.samples t (t.at + t.apart) k c) ia)
    (λ k c lk lc. of k c lk lc ∙ ap (λ (l : List ℕ). value_at l b b.at k c) same ∙ ap (λ (t : Lines). value_at f.samples t t.at k c) ib)
    (λ k c lk lc. os k c lk lc ∙ ap (λ (l : List ℕ). value_at l b (b.at + b.apart) k c) same ∙ ap (λ (t : Lines). value_at f.samples t (t.at + t.apart) k c) ib)
