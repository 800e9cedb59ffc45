-- The picture that a frame is a source of.
use Rattle.std.proofs.Common.{◌≡◌, ℕ, ◌/◌, ◌<◌, ◌∙◌, List, [], ◌++◌, take, drop, length, get_or, arith, ap, refl, sym, append-nil}
use Rattle.std.proofs.lemmas.List.{drop_all, take_at}
use Rattle.mv_planes.specs.declared.picture.Plane.{Plane}
use Rattle.mv_planes.specs.Planes.{Planes, place_of, IsWhole}
use Rattle.mv_planes.specs.Rows.{written_at, with_samples}
use Rattle.mv_planes.proofs.Places.{place_in}
use Rattle.mv_planes.proofs.RasterLaws.{whole_picture, sample_of-picture_of, same_picture}
use Rattle.rec_bury.specs.Exhumed.{source_of, sample_in, value_at}

-- all samples written
all_written : (old s : List ℕ) → length s ≡ length old → written_at old 0 s ≡ s
all_written old s size =
    let none : drop (length s) old ≡ [] = drop_all (length s) old (omega arith) in
    let whole : s ++ drop (length s) old ≡ s = ap (λ xs. s ++ xs) none ∙ append-nil s in
    ap (λ xs. take (length old) (xs ++ drop (length xs) old)) whole ∙ take_at s (drop (length s) old) (length old) size

pub is_source : (f g : Planes) (frame s : List ℕ) → IsWhole f → length s ≡ length f.samples → g ≡ with_samples f s → ((k : ℕ) → k < length s → get_or s k 0 ≡ value_at frame k / 4) → g ≡ source_of f.mb_wide f.mb_high frame
is_source f g frame s whole size is values =
    let at : Plane → ℕ → ℕ → ℕ = λ p x y. sample_in f.mb_wide f.mb_high frame p x y / 4 in
    let h : Planes = record { mb_wide = f.mb_wide; mb_high = f.mb_high; samples = s } in
    let put : g ≡ h = is ∙ ap (λ (xs : List ℕ). record f { samples = xs }) (all_written f.samples s size) in
    put ∙ same_picture (source_of f.mb_wide f.mb_high frame) h (whole_picture f.mb_wide f.mb_high at)
    record { wide = refl; high = refl; count = size ∙ (whole ∙ sym (whole_picture f.mb_wide f.mb_high at)) }
    (λ p x y inside. values (place_of h p x y) (omega (arith, place_in h p x y (size ∙ whole) inside)) ∙ sym (sample_of-picture_of f.mb_wide f.mb_high at p x y inside.0 inside.1))
