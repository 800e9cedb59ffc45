use Rattle.std.proofs.Common.{◌≡◌, ℕ, ◌+◌, List, [], ◌∷◌, ◌++◌, length, length-append, arith}
use Rattle.plan_numbers.specs.declared.numbers.ContextNumbers.{ContextNumbers}
use Rattle.plan_numbers.specs.Stands.{StandsFor}
use Rattle.file_tests.proofs.numbers.number_frames.Goals as goal

-- one frame more was numbered
one_more : (n : ContextNumbers) (contexts numbers : List (List ℕ)) (context number : List ℕ) (i : ℕ) → StandsFor n (contexts ++ context ∷ []) (numbers ++ number ∷ []) → length contexts ≡ i
    → (xs : List (List ℕ)) × (ys : List (List ℕ)) × StandsFor n xs ys × (length xs ≡ i + 1)
one_more n contexts numbers context number i stands many =
    (contexts ++ context ∷ [], numbers ++ number ∷ [], stands, (let e = length-append contexts (context ∷ []) in omega (arith, e, many)))

pub frames-preserved : goal.frames-preserved
frames-preserved g c =
    let (contexts, numbers, stands, many) = c.frames.invariant in
    one_more c.number-number.new.self contexts numbers _ c.number-number.result c.frames.i (c.number-number.ensures contexts numbers stands) many
