-- A frame with zeros in all slots and in the sheet.
use Rattle.std.proofs.Common.{◌≡◌, ℕ, zero, suc, ◌+◌, ◌-◌, ◌*◌, ◌∙◌, inl, inr, List, [], ◌∷◌, length, get_or, map, replicate, arith, ap, refl, sym}
use Rattle.std.proofs.lemmas.List.{length-map}
use Rattle.std.proofs.lemmas.List.Folds.{flat_map-map}
use Rattle.std.specs.List.{flat_map}
use Rattle.std.proofs.lemmas.Bool.{cases_lt, lt-ltb, le-ltb}
use Rattle.y4m_frames.specs.FrameFile.{sample_bytes}
use Rattle.mv_planes.specs.declared.picture.Plane.{Plane}
use Rattle.mv_planes.specs.declared.picture.Plane.TheVariants.{Y, Cb, Cr}
use Rattle.mv_planes.specs.Planes.{Planes, place_of, sample_of}
use Rattle.mv_planes.proofs.RasterLaws.{whole_picture, sample_of-picture_of, same_picture}
use Rattle.rec_bury.proofs.FrameLemmas.{ten_bit_picture}
use Rattle.rec_bury.proofs.ZeroLemmas.{zero_at, no_pair}
use Rattle.rec_bury.specs.Buried.{buried, slot_byte}
use Rattle.rec_bury.specs.Laws.{ZerosAreUnrecorded}

quadruple : (xs : List ℕ) (k : ℕ) → get_or (map (λ v. 4 * v) xs) k 0 ≡ 4 * get_or xs k 0
quadruple [] k = refl
quadruple (x ∷ xs) zero = refl
quadruple (x ∷ xs) (suc k) = quadruple xs k

zero_byte : (m n i b : ℕ) → slot_byte (replicate m zero) (replicate n zero) i b ≡ 0
zero_byte m n i b = elim (cases_lt b 20) [ inl h ↦ rw (lt-ltb b 20 h) (zero_at m (20 * i + b)) | inr h ↦ rw (le-ltb b 20 h) (zero_at n (12 * i + (b - 20))) ]

nothing : (wide m n : ℕ) (p : Plane) (x y : ℕ) → buried wide (replicate m zero) (replicate n zero) p x y ≡ 0
nothing wide m n Y x y = refl
nothing wide m n Cb x y = no_pair _ _ (zero_byte m n _ _)
nothing wide m n Cr x y = no_pair _ _ (zero_byte m n _ _)

pub zeros_are_unrecorded : ZerosAreUnrecorded
zeros_are_unrecorded f m n whole =
    let at : Plane → ℕ → ℕ → ℕ = λ p x y. 4 * sample_of f p x y + buried f.mb_wide (replicate m zero) (replicate n zero) p x y in
    let g : Planes = ten_bit_picture f (replicate m zero) (replicate n zero) in
    let h : Planes = record { mb_wide = f.mb_wide; mb_high = f.mb_high; samples = map (λ v. 4 * v) f.samples } in
    let size : length (map (λ v. 4 * v) f.samples) ≡ 384 * (f.mb_wide * f.mb_high) = length-map f.samples (λ v. 4 * v) ∙ whole in
    ap (λ (p : Planes). flat_map sample_bytes p.samples)
    (same_picture h g size record { wide = refl; high = refl; count = whole_picture f.mb_wide f.mb_high at ∙ sym size } (λ p x y inside.
    let none = nothing f.mb_wide m n p x y in
    let e = quadruple f.samples (place_of f p x y) in
    sample_of-picture_of f.mb_wide f.mb_high at p x y inside.0 inside.1 ∙ (ap (λ q. 4 * sample_of f p x y + q) none ∙ (omega arith ∙ sym e))))
    ∙ flat_map-map sample_bytes (λ v. 4 * v) f.samples
