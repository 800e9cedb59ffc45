-- Blocks of values, level by level: the sum, the first value and the last one.
use Rattle.std.proofs.Common.{◌≡◌, ◌≢◌, ℕ, ◌+◌, ◌*◌, ◌%◌, ◌<◌, Bool, true, false, List, ℤ, pos, negsuc, ◌+ℤ◌, ◌-ℤ◌, ◌*ℤ◌, ◌≤ℤ◌, sym, refl, ap, ◌∙◌, arith, length, get_or, set, get_or-set_other, get_or-set_same, nat_eq, cond, ◌&&◌, ⊎_elim, unsigned_abs, slice_index}
use Rattle.std.proofs.lemmas.Bool.{cases_eq}
use Rattle.std.proofs.lemmas.Bool.Decides.{nat_tests}
use Rattle.std.proofs.lemmas.Int.{ints, clamps}
use Rattle.mv_terms.specs.Block.{entry, IsSameBlock}
use Rattle.mv_terms.specs.Sums.{sum_below}
use Rattle.mv_terms.proofs.SumLemmas.{sum_below_same, sum_below_rows}
use Rattle.mv_quant.specs.declared.Kind.{Kind}
use Rattle.mv_quant.specs.Dequantised.{saturated, intra_dc_mult, scaled_level, value_of, value_sum, is_even, toggled, dequantised, ValueIsSaturated, DequantisedIsSaturated, DequantisedOfSame}

-- the value at a place that is not the first of an intra block
first_test : (v u : ℕ) → 8 * v + u ≢ 0 → (nat_eq v 0 && nat_eq u 0) ≡ false
first_test v u h = grind (arith, nat_tests)

last_test : (v u : ℕ) → v < 8 → u < 8 → 8 * v + u ≢ 63 → (nat_eq v 7 && nat_eq u 7) ≡ false
last_test v u p q h = grind (arith, nat_tests)

and_false : (b : Bool) → (b && false) ≡ false
and_false true = refl
and_false false = refl

pub value_of_other : (kind : Kind) (v u : ℕ) (level : ℤ) → 8 * v + u ≢ 0 → value_of kind v u level ≡ saturated (scaled_level kind.intra (slice_index kind.matrix (8 * v + u) * kind.scale) level)
unfolding value_of
value_of_other kind v u level h = rw (first_test v u h, and_false kind.intra) refl

pub value_of_inter : (kind : Kind) (v u : ℕ) (level : ℤ) → kind.intra ≡ false → value_of kind v u level ≡ saturated (scaled_level kind.intra (slice_index kind.matrix (8 * v + u) * kind.scale) level)
unfolding value_of
value_of_inter kind v u level h = rw h refl

pub value_of_first : (kind : Kind) (level : ℤ) → kind.intra ≡ true → value_of kind 0 0 level ≡ saturated (intra_dc_mult kind.dc_precision *ℤ level)
unfolding value_of
value_of_first kind level h = rw h refl

saturated_between : (z : ℤ) → (negsuc 2047 ≤ℤ saturated z) × (saturated z ≤ℤ pos 2047)
saturated_between z = (omega (arith, ints, clamps), omega (arith, ints, clamps))

toggled_between : (z : ℤ) → negsuc 2047 ≤ℤ z → z ≤ℤ pos 2047 → (negsuc 2047 ≤ℤ toggled z) × (toggled z ≤ℤ pos 2047)
toggled_between z h l = by (is_even z) refl
  where
    by : (b : Bool) → is_even z ≡ b → (negsuc 2047 ≤ℤ cond b (z +ℤ pos 1) (z -ℤ pos 1)) × (cond b (z +ℤ pos 1) (z -ℤ pos 1) ≤ℤ pos 2047)
    by true e = let even : unsigned_abs z % 2 ≡ 0 = grind (arith, nat_tests) in (omega (arith, ints), omega (arith, ints))
    by false e = let odd : unsigned_abs z % 2 ≡ 1 = grind (arith, nat_tests) in (omega (arith, ints), omega (arith, ints))

pub value_is_saturated : ValueIsSaturated
unfolding value_of
value_is_saturated kind v u level = by (kind.intra && (nat_eq v 0 && nat_eq u 0))
  where
    by : (b : Bool) → (negsuc 2047 ≤ℤ cond b (saturated (intra_dc_mult kind.dc_precision *ℤ level)) (saturated (scaled_level kind.intra (slice_index kind.matrix (8 * v + u) * kind.scale) level)))
        × (cond b (saturated (intra_dc_mult kind.dc_precision *ℤ level)) (saturated (scaled_level kind.intra (slice_index kind.matrix (8 * v + u) * kind.scale) level)) ≤ℤ pos 2047)
    by true = saturated_between (intra_dc_mult kind.dc_precision *ℤ level)
    by false = saturated_between (scaled_level kind.intra (slice_index kind.matrix (8 * v + u) * kind.scale) level)

pub dequantised_is_saturated : DequantisedIsSaturated
unfolding dequantised
dequantised_is_saturated kind QF v u = by ((nat_eq v 7 && nat_eq u 7) && is_even (value_sum kind QF))
  where
    value : ℤ
    value = value_of kind v u (QF v u)

    within : (negsuc 2047 ≤ℤ value_of kind v u (QF v u)) × (value_of kind v u (QF v u) ≤ℤ pos 2047)
    within = value_is_saturated kind v u (QF v u)

    by : (b : Bool) → (negsuc 2047 ≤ℤ cond b (toggled (value_of kind v u (QF v u))) (value_of kind v u (QF v u))) × (cond b (toggled (value_of kind v u (QF v u))) (value_of kind v u (QF v u)) ≤ℤ pos 2047)
    by true = toggled_between (value_of kind v u (QF v u)) within.0 within.1
    by false = within

value_sum_same : (kind : Kind) (QF QF' : ℕ → ℕ → ℤ) → IsSameBlock QF QF' → value_sum kind QF ≡ value_sum kind QF'
unfolding value_sum
value_sum_same kind QF QF' h =
    sum_below_same 8 (λ v. sum_below 8 (λ u. value_of kind v u (QF v u))) (λ v. sum_below 8 (λ u. value_of kind v u (QF' v u)))
    (λ v p. sum_below_same 8 (λ u. value_of kind v u (QF v u)) (λ u. value_of kind v u (QF' v u)) (λ u q. ap (value_of kind v u) (h v u p q)))

pub dequantised_of_same : DequantisedOfSame
unfolding dequantised
dequantised_of_same kind QF QF' h v u p q = rw (value_sum_same kind QF QF' h, h v u p q) refl

pub before_last : (kind : Kind) (QF : ℕ → ℕ → ℤ) (v u : ℕ) → v < 8 → u < 8 → 8 * v + u ≢ 63 → dequantised kind QF v u ≡ value_of kind v u (QF v u)
unfolding dequantised
before_last kind QF v u p q h = rw (last_test v u p q h) refl

pub last_even : (kind : Kind) (QF : ℕ → ℕ → ℤ) → is_even (value_sum kind QF) ≡ true → dequantised kind QF 7 7 ≡ toggled (value_of kind 7 7 (QF 7 7))
unfolding dequantised
last_even kind QF h = rw h refl

pub last_odd : (kind : Kind) (QF : ℕ → ℕ → ℤ) → is_even (value_sum kind QF) ≡ false → dequantised kind QF 7 7 ≡ value_of kind 7 7 (QF 7 7)
unfolding dequantised
last_odd kind QF h = rw h refl

-- the sum of a block in raster order
pub block_sum : (kind : Kind) (QF : ℕ → ℕ → ℤ) (block : List ℤ) → ((v u : ℕ) → v < 8 → u < 8 → entry block v u ≡ value_of kind v u (QF v u))
    → sum_below 64 (λ k. get_or block k (pos 0)) ≡ value_sum kind QF
unfolding value_sum
block_sum kind QF block h =
    sum_below_rows 8 8 (λ k. get_or block k (pos 0))
    ∙ sum_below_same 8 (λ v. sum_below 8 (λ u. entry block v u)) (λ v. sum_below 8 (λ u. value_of kind v u (QF v u)))
    (λ v p. sum_below_same 8 (λ u. entry block v u) (λ u. value_of kind v u (QF v u)) (λ u q. h v u p q))

pub toggled_block : (kind : Kind) (QF : ℕ → ℕ → ℤ) (block : List ℤ) (t : ℤ) → length block ≡ 64 → ((v u : ℕ) → v < 8 → u < 8 → entry block v u ≡ value_of kind v u (QF v u))
    → is_even (value_sum kind QF) ≡ true → t ≡ toggled (get_or block 63 (pos 0)) → (v u : ℕ) → v < 8 → u < 8 → entry (set block 63 t) v u ≡ dequantised kind QF v u
toggled_block kind QF block t long values even is v u p q = ⊎_elim
    (λ (e : 8 * v + u ≡ 63).
    let a : v ≡ 7 = omega arith in
    let b : u ≡ 7 = omega arith in
    rw (a, b) (get_or-set_same block 63 t (pos 0) (omega arith) ∙ is ∙ ap toggled (values 7 7 (omega arith) (omega arith)) ∙ sym (last_even kind QF even)))
    (λ (n : 8 * v + u ≢ 63). get_or-set_other block 63 (8 * v + u) t (pos 0) n ∙ values v u p q ∙ sym (before_last kind QF v u p q n))
    (cases_eq (8 * v + u) 63)

pub plain_block : (kind : Kind) (QF : ℕ → ℕ → ℤ) (block : List ℤ) → ((v u : ℕ) → v < 8 → u < 8 → entry block v u ≡ value_of kind v u (QF v u))
    → is_even (value_sum kind QF) ≡ false → (v u : ℕ) → v < 8 → u < 8 → entry block v u ≡ dequantised kind QF v u
plain_block kind QF block values odd v u p q = ⊎_elim
    (λ (e : 8 * v + u ≡ 63).
    let a : v ≡ 7 = omega arith in
    let b : u ≡ 7 = omega arith in
    rw (a, b) (values 7 7 (omega arith) (omega arith) ∙ sym (last_odd kind QF odd)))
    (λ (n : 8 * v + u ≢ 63). values v u p q ∙ sym (before_last kind QF v u p q n))
    (cases_eq (8 * v + u) 63)

-- the values of all levels but the first of an intra block, by place
abbrev pub AreScaled : Kind → List ℤ → List ℤ → Type 0
AreScaled kind levels block = (k : ℕ) → k < 64 → get_or block k (pos 0) ≡ saturated (scaled_level kind.intra (slice_index kind.matrix k * kind.scale) (get_or levels k (pos 0)))

-- the first level of an intra block is written over the others
pub intra_block : (kind : Kind) (levels block : List ℤ) (t : ℤ) → kind.intra ≡ true → length block ≡ 64 → AreScaled kind levels block
    → t ≡ saturated (intra_dc_mult kind.dc_precision *ℤ get_or levels 0 (pos 0)) → (v u : ℕ) → v < 8 → u < 8 → entry (set block 0 t) v u ≡ value_of kind v u (entry levels v u)
intra_block kind levels block t intra long values is v u p q = ⊎_elim
    (λ (e : 8 * v + u ≡ 0).
    let a : v ≡ 0 = omega arith in
    let b : u ≡ 0 = omega arith in
    rw (a, b) (get_or-set_same block 0 t (pos 0) (omega arith) ∙ is ∙ sym (value_of_first kind (get_or levels 0 (pos 0)) intra)))
    (λ (n : 8 * v + u ≢ 0).
    get_or-set_other block 0 (8 * v + u) t (pos 0) n ∙ values (8 * v + u) (omega arith) ∙ sym (value_of_other kind v u (entry levels v u) n))
    (cases_eq (8 * v + u) 0)

pub inter_block : (kind : Kind) (levels block : List ℤ) → kind.intra ≡ false → AreScaled kind levels block
    → (v u : ℕ) → v < 8 → u < 8 → entry block v u ≡ value_of kind v u (entry levels v u)
inter_block kind levels block inter values v u p q =
    values (8 * v + u) (omega arith) ∙ sym (value_of_inter kind v u (entry levels v u) inter)
