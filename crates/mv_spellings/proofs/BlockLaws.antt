-- The bits that are read plainly as a block are the canonical bits of its levels.
use Rattle.std.proofs.Common.{◌≡◌, ◌≢◌, ℕ, zero, suc, ◌+◌, ◌*◌, ◌^◌, ◌<◌, ◌≤◌, Bool, true, false, cond, eqb, ltb, List, [], ◌∷◌, ◌++◌, get_or, drop, map, refl, ap, sym, ◌∙◌, subst, arith, ℤ, pos, negsuc, ◌+ℤ◌, ◌-ℤ◌, Ok}
use Rattle.std.specs.Prelude.{int_lt, nat_le}
use Rattle.std.specs.List.{range_with_len}
use Rattle.std.proofs.lemmas.Bool.Decides.{nat_tests}
use Rattle.std.proofs.lemmas.Int.{ints}
use Rattle.std.proofs.Math.Nat.{pow-suc}
use Rattle.std.proofs.Math.Pow.{pow_mono}
use Rattle.mv_terms.specs.Scans.{zigzag_scan, alternate_scan, raster_place}
use Rattle.mv_bits.specs.Bits.{digits}
use Rattle.mv_bits.proofs.BitLaws.{front_lt}
use Rattle.mv_codes.specs.Sizes.{dc_size_codes}
use Rattle.mv_codes.specs.Spelled.{code_of, same_number}
use Rattle.mv_codes.proofs.TableFacts.{dc_sizes_once, dc_sizes_small}
use Rattle.mv_codes.proofs.TableLaws.{Spells-test}
use Rattle.mv_codes.proofs.PlaceFacts.{number_same}
use Rattle.mv_codes.proofs.WrittenLaws.{dc_sizes_written}
use Rattle.mv_blocks.specs.declared.block.BlockCode.{BlockCode}
use Rattle.mv_blocks.specs.declared.block.Pair.{Pair}
use Rattle.mv_blocks.specs.Raster.{in_raster}
use Rattle.mv_blocks.specs.Blocks.{DcLevel, dct_diff, pair, level_at, intra_level_at, pairs_in, in_scan, pairs_of}
use Rattle.mv_blocks.specs.Written.{size_within, dc_size, differential, dc_bits, pairs_bits, block_bits_by, block_bits}
use Rattle.mv_vectors.proofs.RangeLaws.{read_first, value_is}
use Rattle.mv_spellings.specs.Front.{IsInFront}
use Rattle.mv_spellings.specs.Blocks.{PlainBlockBy, PlainBlock}
use Rattle.mv_spellings.proofs.FrontLaws.{in_front_then, in_front_same, in_front_field, in_front_code, in_front_rest, rest_is}
use Rattle.mv_spellings.proofs.PairLaws.{AreReal, pairs_read, pairs_real}

-- ---- the DC level

size_is : (top m magnitude : ℕ) → suc m ≤ top → 2 ^ m ≤ magnitude → magnitude < 2 ^ suc m → size_within top magnitude ≡ suc m
size_is zero m magnitude h l u = absurd (omega arith)
size_is (suc top) m magnitude h l u = go (ltb magnitude (2 ^ top)) refl (λ fits. size_is top m magnitude fits l u) where
  go : (t : Bool) → ltb magnitude (2 ^ top) ≡ t → (suc m ≤ top → size_within top magnitude ≡ suc m) → cond t (size_within top magnitude) (suc top) ≡ suc m
  go true e later =
      let less : magnitude < 2 ^ top = grind (arith, nat_tests) in
      later (by_place (ltb m top) refl less)
    where
      by_place : (s : Bool) → ltb m top ≡ s → magnitude < 2 ^ top → suc m ≤ top
      by_place true f less = grind (arith, nat_tests)
      by_place false f less = let same : m ≡ top = (let le : top ≤ m = grind (arith, nat_tests) in omega (arith, h, le)) in absurd (let no : magnitude < 2 ^ m = subst (λ (z : ℕ). magnitude < 2 ^ z) (sym same) less in omega (arith, no, l))
  go false e later =
      let most : 2 ^ top ≤ magnitude = grind (arith, nat_tests) in
      by_place (ltb m top) refl most
    where
      by_place : (s : Bool) → ltb m top ≡ s → 2 ^ top ≤ magnitude → suc top ≡ suc m
      by_place true f most =
          let less : suc m ≤ top = grind (arith, nat_tests) in
          let larger : 2 ^ suc m ≤ 2 ^ top = pow_mono {i = suc m} {j = top} less in
          absurd (omega (arith, larger, most, u))
      by_place false f most = let le : top ≤ m = grind (arith, nat_tests) in omega (arith, h, le)

unfoldable pub IsDifferential : ℕ → ℕ → ℤ → Type 0
IsDifferential size n difference = (dc_size difference ≡ size) × (differential size difference ≡ n)

none_differs : (n : ℕ) → n < 1 → differential 0 (pos 0) ≡ n
none_differs n h = omega arith

not_below : (n : ℕ) → int_lt (pos n) (pos 0) ≡ false
not_below n = grind (arith, nat_tests)

negative_differs : (m n p : ℕ) (d : ℤ) → m ≤ 10 → p ≡ 2 ^ m → n < p → d ≡ (pos (n + 1) -ℤ pos (2 * p)) → IsDifferential (suc m) n d
unfolding IsDifferential
negative_differs m n p (pos k) h e less same = absurd (omega (arith, ints))
negative_differs m n p (negsuc k) h e less same =
    let twice = pow-suc 2 m in
    let is : suc k + (n + 1) ≡ 2 * p = omega (arith, ints) in
    (size_is 11 m (suc k) (omega (arith, h)) (omega (arith, e, is, less)) (omega (arith, e, is, twice)), omega (arith, e, is, twice))

-- the size and the differential of a difference are those that say it
pub difference_again : (size n : ℕ) → size ≤ 11 → n < 2 ^ size → IsDifferential size n (dct_diff size n)
unfolding IsDifferential
difference_again zero n h l = (refl, none_differs n l)
difference_again (suc m) n h l = go (ltb n (2 ^ m)) refl where
  go : (t : Bool) → ltb n (2 ^ m) ≡ t → IsDifferential (suc m) n (cond t (pos (n + 1) -ℤ pos (2 * 2 ^ m)) (pos n))
  go true e =
      let less : n < 2 ^ m = grind (arith, nat_tests) in
      negative_differs m n (2 ^ m) (pos (n + 1) -ℤ pos (2 * 2 ^ m)) (omega (arith, h)) refl less refl
  go false e =
      let most : 2 ^ m ≤ n = grind (arith, nat_tests) in
      (size_is 11 m n (omega (arith, h)) most l, rw (not_below n) refl)

pub small_size : (n : ℕ) → nat_le n 11 ≡ true → n ≤ 11
small_size n e = grind (arith, nat_tests)

pub from_predictor : (p d : ℤ) → p +ℤ d -ℤ p ≡ d
from_predictor p d = omega (arith, ints)

dc_read : (code : BlockCode) (predictor dc : ℤ) (bits rest : List Bool) → DcLevel code predictor bits (Ok (dc, rest)) → IsInFront (dc_bits code.luma (dc -ℤ predictor)) bits rest
unfolding IsDifferential
dc_read code predictor dc bits rest h =
    let size = read_first (dc, rest) h in
    let number = read_first (dc, rest) size.3 in
    let inside = read_first (dc, rest) number.3 in
    let k : ℕ = size.0 in
    let n : ℕ = number.0 in
    let is = number.2.0 in
    let e = value_is _ _ _ _ inside.3 in
    let r = rest_is _ _ _ _ inside.3 ∙ inside.2.1 in
    let few = small_size k (Spells-test (dc_size_codes code.luma) (λ m. nat_le m 11) (dc_sizes_small code.luma) bits k size.1 size.2) in
    let fits : n < 2 ^ k = (let f = front_lt k size.1 in omega (arith, f, is)) in
    let again = difference_again k n few fits in
    let same : dc -ℤ predictor ≡ dct_diff k n = ap (λ (z : ℤ). z -ℤ predictor) e ∙ from_predictor predictor (dct_diff k n) in
    let first = in_front_code same_number (λ n. n) (dc_size_codes code.luma) (dc_sizes_written code.luma) number_same (dc_sizes_once code.luma) [] k bits size.1 size.2 in
    let second = in_front_field k n size.1 number.1 is number.2.1 in
    let table : ℕ → List Bool = λ z. code_of (same_number z) (dc_size_codes code.luma) in
    let written : table k ++ digits k n ≡ dc_bits code.luma (dct_diff k n) =
    ap (λ (z : ℕ). table k ++ digits k z) (sym again.1) ∙ ap (λ (z : ℕ). table z ++ digits z (differential z (dct_diff k n))) (sym again.0) in
    in_front_rest (dc_bits code.luma (dc -ℤ predictor)) bits number.1 rest r
    (in_front_same (table k ++ digits k n) (dc_bits code.luma (dc -ℤ predictor)) bits number.1 (written ∙ ap (dc_bits code.luma) (sym same))
    (in_front_then (table k) (digits k n) bits size.1 number.1 first second))

-- ---- runs and levels of a block

elsewhere : (k place : ℕ) (x y : ℤ) → (k ≡ place → ⊥) → cond (eqb k place) x y ≡ y
elsewhere k place x y other = grind (arith, nat_tests)

at_this : (k place : ℕ) (x y : ℤ) → k ≡ place → cond (eqb k place) x y ≡ x
at_this k place x y here = grind (arith, nat_tests)

none_before : (ps : List Pair) (base k : ℕ) → k < base → level_at base ps k ≡ pos 0
none_before [] base k h = refl
none_before (p ∷ ps) base k h = elsewhere k (base + p.run) p.level (level_at (base + p.run + 1) ps k) (λ e. omega (arith, e, h)) ∙ none_before ps (base + p.run + 1) k (omega (arith, h))

level_listed : (run : ℕ) (level : ℤ) (levels : List ℤ) → level ≢ pos 0 → pairs_in run (level ∷ levels) ≡ pair run level ∷ pairs_in 0 levels
level_listed run (pos zero) levels some = absurd (some refl)
level_listed run (pos (suc n)) levels some = refl
level_listed run (negsuc n) levels some = refl

zero_listed : (run : ℕ) (level : ℤ) (levels : List ℤ) → level ≡ pos 0 → pairs_in run (level ∷ levels) ≡ pairs_in (run + 1) levels
zero_listed run level levels e = ap (λ (z : ℤ). pairs_in run (z ∷ levels)) e

-- what the levels from a place on list is what they were made of: runs and levels from a place before, with so many
-- zeros between
module _ (f : ℕ → ℤ) where
  -- the levels from a place on, with so many zeros before, list these runs and levels
  abbrev Lists : ℕ → ℕ → ℕ → ℕ → List Pair → Type 0
  Lists count place base run ps =
      base + run ≡ place → AreReal base ps
      → ((k : ℕ) → place ≤ k → f k ≡ level_at base ps k)
      → ((p : Pair) (later : List Pair) → ps ≡ p ∷ later → run ≤ p.run)
      → pairs_in run (map f (range_with_len place count)) ≡ ps

  one_listed : (count place base run : ℕ) (p : Pair) (ps : List Pair) → ((base run : ℕ) (ps : List Pair) → Lists count (place + 1) base run ps)
      → base + run ≡ place → AreReal base (p ∷ ps)
      → ((k : ℕ) → place ≤ k → f k ≡ level_at base (p ∷ ps) k)
      → run ≤ p.run → (t : Bool) → eqb run p.run ≡ t
      → pairs_in run (f place ∷ map f (range_with_len (place + 1) count)) ≡ p ∷ ps
  one_listed count place base run p ps go b real same far true t =
      let runs : run ≡ p.run = grind (arith, nat_tests) in
      let here : place ≡ base + p.run = omega (arith, b, runs) in
      let level : f place ≡ p.level = same place (omega arith) ∙ at_this place (base + p.run) p.level (level_at (base + p.run + 1) ps place) here in
      let some : f place ≢ pos 0 = subst (λ (z : ℤ). z ≢ pos 0) (sym level) real.1 in
      let later = go (base + p.run + 1) 0 ps (omega (arith, here)) real.2
      (λ k h. same k (omega (arith, h)) ∙ elsewhere k (base + p.run) p.level (level_at (base + p.run + 1) ps k) (λ z. omega (arith, z, h, here)))
      (λ q more z. omega arith) in
      level_listed run (f place) (map f (range_with_len (place + 1) count)) some
      ∙ ap (λ (z : List Pair). pair run (f place) ∷ z) later
      ∙ (λ i. pair (runs i) (level i) ∷ ps)
  one_listed count place base run p ps go b real same far false t =
      let other : run ≡ p.run → ⊥ = λ z. grind (arith, nat_tests) in
      let less : run + 1 ≤ p.run = grind arith in
      let none : f place ≡ pos 0 = same place (omega arith) ∙ elsewhere place (base + p.run) p.level (level_at (base + p.run + 1) ps place) (λ z. omega (arith, z, b, less)) ∙ none_before ps (base + p.run + 1) place (omega (arith, b, less)) in
      zero_listed run (f place) (map f (range_with_len (place + 1) count)) none
      ∙ go base (run + 1) (p ∷ ps) (omega (arith, b)) real (λ k h. same k (omega (arith, h))) (λ q more z. ahead_of q more z less)
    where
      ahead_of : (q : Pair) (more : List Pair) → p ∷ ps ≡ q ∷ more → run + 1 ≤ p.run → run + 1 ≤ q.run
      ahead_of q more z less = let first : p ≡ q = cc in subst (λ (x : Pair). run + 1 ≤ x.run) first less

  nothing : (p : Pair) (later : List Pair) → ◌≡◌ {A = List Pair} [] (p ∷ later) → ⊥
  nothing p later e = cc

  listed : (count place : ℕ) → place + count ≡ 64 → (base run : ℕ) (ps : List Pair) → Lists count place base run ps
  listed zero place e base run [] b real same ahead = refl
  listed zero place e base run (p ∷ ps) b real same ahead = let far = ahead p ps refl in let within = real.0 in absurd (omega (arith, e, b, far, within))
  listed (suc count) place e base run [] b real same ahead =
      zero_listed run (f place) (map f (range_with_len (place + 1) count)) (same place (omega arith))
      ∙ listed count (place + 1) (omega (arith, e)) base (run + 1) [] (omega (arith, b)) tt (λ k h. same k (omega (arith, h))) (λ p later z. absurd (nothing p later z))
  listed (suc count) place e base run (p ∷ ps) b real same ahead =
      one_listed count place base run p ps (listed count (place + 1) (omega (arith, e))) b real same (ahead p ps refl) (eqb run p.run) refl

-- levels laid by a scan are there in its order
scanned_again : (alternate : Bool) (f : ℕ → ℤ) → in_scan alternate (in_raster alternate f) ≡ map f (range_with_len 0 64)
unfolding in_scan zigzag_scan alternate_scan raster_place
scanned_again true f = refl
scanned_again false f = refl

behind_dc : (f : ℕ → ℤ) → drop 1 (map f (range_with_len 0 64)) ≡ map f (range_with_len 1 63)
behind_dc f = refl

pub first_laid : (alternate : Bool) (f : ℕ → ℤ) → get_or (in_raster alternate f) 0 (pos 0) ≡ f 0
unfolding zigzag_scan alternate_scan
first_laid true f = refl
first_laid false f = refl

pub pairs_again : (alternate : Bool) (ps : List Pair) → AreReal 0 ps → pairs_of (in_raster alternate (level_at 0 ps)) false alternate ≡ ps
pairs_again alternate ps real =
    ap (λ (z : List ℤ). pairs_in 0 (drop 0 z)) (scanned_again alternate (level_at 0 ps))
    ∙ listed (level_at 0 ps) 64 0 refl 0 0 ps refl real (λ k h. refl) (λ p later e. omega arith)

pub intra_pairs_again : (alternate : Bool) (dc : ℤ) (ps : List Pair) → AreReal 1 ps → pairs_of (in_raster alternate (intra_level_at dc ps)) true alternate ≡ ps
intra_pairs_again alternate dc ps real =
    ap (λ (z : List ℤ). pairs_in 0 (drop 1 z)) (scanned_again alternate (intra_level_at dc ps))
    ∙ ap (pairs_in 0) (behind_dc (intra_level_at dc ps))
    ∙ listed (intra_level_at dc ps) 63 1 refl 1 0 ps refl real (λ k h. elsewhere k 0 dc (level_at 1 ps k) (λ e. omega (arith, e, h))) (λ p later e. omega arith)

-- ---- a block

pub block_by_read : (intra : Bool) (code : BlockCode) (predictor : ℤ) (levels : List ℤ) (bits rest : List Bool) → PlainBlockBy intra code predictor bits (Ok (levels, rest)) → IsInFront (block_bits_by intra code predictor levels) bits rest
block_by_read true code predictor levels bits rest h =
    let dc = read_first (levels, rest) h in
    let pairs = read_first (levels, rest) dc.3 in
    let ps : List Pair = pairs.0 in
    let e = value_is _ _ _ _ pairs.3 in
    let r = rest_is _ _ _ _ pairs.3 in
    let real = pairs_real code ps _ _ pairs.2.run in
    let again = ap (λ (z : List ℤ). pairs_of z true code.alternate) e ∙ intra_pairs_again code.alternate dc.0 ps real in
    let level : get_or levels 0 (pos 0) ≡ dc.0 = ap (λ (z : List ℤ). get_or z 0 (pos 0)) e ∙ first_laid code.alternate (intra_level_at dc.0 ps) in
    let first = dc_read code predictor dc.0 bits dc.1 dc.2 in
    let second = pairs_read code ps _ _ pairs.1 pairs.2.run pairs.2.stopped in
    let same : dc_bits code.luma (dc.0 -ℤ predictor) ++ pairs_bits code 1 ps ≡ block_bits_by true code predictor levels =
    λ i. dc_bits code.luma (sym level i -ℤ predictor) ++ pairs_bits code 1 (sym again i) in
    in_front_rest (block_bits_by true code predictor levels) bits pairs.1 rest r
    (in_front_same (dc_bits code.luma (dc.0 -ℤ predictor) ++ pairs_bits code 1 ps) (block_bits_by true code predictor levels) bits pairs.1 same
    (in_front_then (dc_bits code.luma (dc.0 -ℤ predictor)) (pairs_bits code 1 ps) bits dc.1 pairs.1 first second))
block_by_read false code predictor levels bits rest h =
    let pairs = read_first (levels, rest) h in
    let ps : List Pair = pairs.0 in
    let e = value_is _ _ _ _ pairs.3 in
    let r = rest_is _ _ _ _ pairs.3 in
    let real = pairs_real code ps _ _ pairs.2.run in
    let again = ap (λ (z : List ℤ). pairs_of z false code.alternate) e ∙ pairs_again code.alternate ps real in
    in_front_rest (block_bits_by false code predictor levels) bits pairs.1 rest r
    (in_front_same (pairs_bits code 0 ps) (block_bits_by false code predictor levels) bits pairs.1 (ap (pairs_bits code 0) (sym again))
    (pairs_read code ps _ _ pairs.1 pairs.2.run pairs.2.stopped))

pub block_read : (code : BlockCode) (predictor : ℤ) (levels : List ℤ) (bits rest : List Bool) → PlainBlock code predictor bits (Ok (levels, rest)) → IsInFront (block_bits code predictor levels) bits rest
block_read code predictor levels bits rest h = block_by_read code.intra code predictor levels bits rest h
