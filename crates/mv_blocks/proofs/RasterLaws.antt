-- A scan visits each place of a block once.
use Rattle.std.proofs.Common.{◌≡◌, ℕ, suc, Bool, true, false, ◌&&◌, not, cond, eqb, List, [], ◌∷◌, get_or, set, map, replicate, refl, ap, sym, ◌∙◌, subst, arith, ℤ, pos}
use Rattle.std.specs.List.{list_all}
use Rattle.std.proofs.lemmas.Bool.Decides.{nat_tests}
use Rattle.mv_terms.specs.Scans.{zigzag_scan, alternate_scan, scan, position, raster_place}
use Rattle.mv_blocks.specs.Raster.{in_raster}

and_true : (a b : Bool) → (a && b) ≡ true → (a ≡ true) × (b ≡ true)
and_true true b e = (refl, e)
and_true false b e = cc

-- no number stands twice in the list
abbrev are_apart : List ℕ → Bool
are_apart [] = true
are_apart (m ∷ ms) = list_all (λ k. not (eqb k m)) ms && are_apart ms

scans_apart : (alternate : Bool) → are_apart (scan alternate) ≡ true
unfolding zigzag_scan alternate_scan
scans_apart true = refl
scans_apart false = refl

-- f, but v at n
abbrev pub instead : (ℕ → ℤ) → ℕ → ℤ → ℕ → ℤ
instead f n v k = cond (eqb k n) v (f k)

skip : (f : ℕ → ℤ) (n : ℕ) (v : ℤ) (k : ℕ) → not (eqb k n) ≡ true → instead f n v k ≡ f k
skip f n v k e = grind (arith, nat_tests)

hit : (f : ℕ → ℤ) (n : ℕ) (v : ℤ) (k : ℕ) → eqb n k ≡ true → instead f n v k ≡ v
hit f n v k e = grind (arith, nat_tests)

miss : (f : ℕ → ℤ) (n : ℕ) (v : ℤ) (k : ℕ) → eqb n k ≡ false → instead f n v k ≡ f k
miss f n v k e = grind (arith, nat_tests)

same_number : (a b : ℕ) → eqb a b ≡ true → a ≡ b
same_number a b e = grind (arith, nat_tests)

map_absent : (ms : List ℕ) (f : ℕ → ℤ) (n : ℕ) (v : ℤ) → list_all (λ k. not (eqb k n)) ms ≡ true → map (instead f n v) ms ≡ map f ms
map_absent [] f n v e = refl
map_absent (m ∷ ms) f n v e =
    let both = and_true (not (eqb m n)) (list_all (λ k. not (eqb k n)) ms) e in
    ap (λ (z : ℤ). z ∷ map (instead f n v) ms) (skip f n v m both.0) ∙ ap (λ (zs : List ℤ). f m ∷ zs) (map_absent ms f n v both.1)

module _ (m : ℕ) (ms : List ℕ) (f : ℕ → ℤ) (n : ℕ) (v : ℤ) where
  set_here : list_all (λ k. not (eqb k m)) ms ≡ true → set (map f ms) (position ms n) v ≡ map (instead f n v) ms → (t : Bool) → eqb n m ≡ t → set (f m ∷ map f ms) (cond t 0 (suc (position ms n))) v ≡ map (instead f n v) (m ∷ ms)
  set_here apart e true t =
      let absent = subst (λ (x : ℕ). list_all (λ k. not (eqb k x)) ms ≡ true) (sym (same_number n m t)) apart in
      ap (λ (z : ℤ). z ∷ map f ms) (sym (hit f n v m t)) ∙ ap (λ (zs : List ℤ). instead f n v m ∷ zs) (sym (map_absent ms f n v absent))
  set_here apart e false t =
      ap (λ (z : ℤ). z ∷ set (map f ms) (position ms n) v) (sym (miss f n v m t)) ∙ ap (λ (zs : List ℤ). instead f n v m ∷ zs) e

set_position : (ms : List ℕ) (f : ℕ → ℤ) (n : ℕ) (v : ℤ) → are_apart ms ≡ true → set (map f ms) (position ms n) v ≡ map (instead f n v) ms
set_position [] f n v e = refl
set_position (m ∷ ms) f n v e =
    let both = and_true (list_all (λ k. not (eqb k m)) ms) (are_apart ms) e in
    set_here m ms f n v both.0 (set_position ms f n v both.1) (eqb n m) refl

-- a level that is written at its place
pub in_raster-set : (alternate : Bool) (f : ℕ → ℤ) (k : ℕ) (v : ℤ) → set (in_raster alternate f) (raster_place alternate k) v ≡ in_raster alternate (instead f k v)
unfolding raster_place
in_raster-set alternate f k v = set_position (scan alternate) f k v (scans_apart alternate)

map_same : (ms : List ℕ) (f g : ℕ → ℤ) → ((k : ℕ) → f k ≡ g k) → map f ms ≡ map g ms
map_same [] f g e = refl
map_same (m ∷ ms) f g e = ap (λ (z : ℤ). z ∷ map f ms) (e m) ∙ ap (λ (zs : List ℤ). g m ∷ zs) (map_same ms f g e)

pub in_raster-same : (alternate : Bool) (f g : ℕ → ℤ) → ((k : ℕ) → f k ≡ g k) → in_raster alternate f ≡ in_raster alternate g
in_raster-same alternate f g e = map_same (scan alternate) f g e

pub in_raster-zero : (alternate : Bool) → in_raster alternate (λ k. pos 0) ≡ replicate 64 (pos 0)
unfolding zigzag_scan alternate_scan
in_raster-zero true = refl
in_raster-zero false = refl

pub in_raster-first : (alternate : Bool) (f : ℕ → ℤ) → get_or (in_raster alternate f) 0 (pos 0) ≡ f 0
unfolding zigzag_scan alternate_scan
in_raster-first true f = refl
in_raster-first false f = refl

pub raster_place_zero : (alternate : Bool) → raster_place alternate 0 ≡ 0
unfolding zigzag_scan alternate_scan raster_place
raster_place_zero true = refl
raster_place_zero false = refl
