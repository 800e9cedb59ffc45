-- The bounds with the default matrix, in numbers.
use Rattle.std.proofs.Common.{◌≡◌, ℕ, ◌*◌, true, refl}
use Rattle.mv_terms.specs.Sums.{total_below}
use Rattle.mv_terms.specs.Matrices.{default_intra}
use Rattle.mv_transform.specs.Basis.{basis}
use Rattle.mv_quant.specs.declared.Kind.{Kind}
use Rattle.mv_transform.specs.Near.{carried, twice, square_sum}
use Rattle.enc_near.specs.Blocks.{change_of, greatest_error, greatest_of, simple_sum, simple_error}

abbrev kind : ℕ → Kind
kind scale = record { intra = true; scale = 2 * scale; dc_precision = 0; matrix = default_intra }

abbrev greatest : ℕ → ℕ
greatest scale = greatest_of 8 (λ y. greatest_of 8 (greatest_error (kind scale) y))

at_1 : greatest 1 ≡ 19
unfolding basis total_below carried default_intra greatest_of
at_1 = refl

at_8 : greatest 8 ≡ 126
unfolding basis total_below carried default_intra greatest_of
at_8 = refl

at_31 : greatest 31 ≡ 480
unfolding basis total_below carried default_intra greatest_of
at_31 = refl

simple_at_1 : simple_error default_intra 2 ≡ 34
unfolding basis total_below simple_sum default_intra greatest_of
simple_at_1 = refl

simple_at_8 : simple_error default_intra 16 ≡ 142
unfolding basis total_below simple_sum default_intra greatest_of
simple_at_8 = refl

simple_at_31 : simple_error default_intra 62 ≡ 496
unfolding basis total_below simple_sum default_intra greatest_of
simple_at_31 = refl

squares_at_1 : square_sum (twice (change_of (kind 1))) ≡ 1920
unfolding total_below square_sum default_intra
squares_at_1 = refl

squares_at_8 : square_sum (twice (change_of (kind 8))) ≡ 83896
unfolding total_below square_sum default_intra
squares_at_8 = refl

squares_at_31 : square_sum (twice (change_of (kind 31))) ≡ 1232448
unfolding total_below square_sum default_intra
squares_at_31 = refl
