-- The slots of legal decisions are bytes, 20 for each.
use Rattle.std.proofs.Common.{◌≡◌, ℕ, ◌*◌, ◌^◌, ◌<◌, Bool, true, false, List, [], ◌∷◌, ◌++◌, length, ℤ, refl, arith, length-append}
use Rattle.std.specs.List.{AllByRecursion}
use Rattle.std.specs.Int.{w16, cast_unsigned}
use Rattle.std.specs.Prelude.{FitsSigned}
use Rattle.std.proofs.Math.Nat.{pow-succ'}
use Rattle.std.proofs.Math.Facts.{Fits-of_z}
use Rattle.mv_bits.specs.Writing.{AreBytes}
use Rattle.mv_terms.specs.declared.macroblock.Vector.{Vector}
use Rattle.mv_terms.specs.declared.macroblock.Decision.{Decision}
use Rattle.mv_terms.specs.Decisions.{vector_of}
use Rattle.rec_slot.specs.Slot.{number_of, kind_bits, select_bits, vector_bytes, slot_of}
use Rattle.cert_picture.specs.Records.{slots_of}
use Rattle.cert_picture.proofs.ByteLemmas.{bytes_append}
use Rattle.cert_picture.proofs.HeldLemmas.{Fits, FitsSlot}

number_below : (bits : List Bool) → number_of bits < 2 ^ length bits
number_below [] = omega arith
number_below (true ∷ bits) = omega (arith, number_below bits, pow-succ' 2 (length bits))
number_below (false ∷ bits) = omega (arith, number_below bits, pow-succ' 2 (length bits))

component_below : (v : ℤ) → FitsSigned w16 v → cast_unsigned w16 v < 65536
component_below v fits = let small : cast_unsigned w16 v < 2 ^ 16 = (Fits-of_z {w = w16} {z = v} fits).fits in omega (arith, small)

bytes_vector : (v : Vector) → Fits v → AreBytes (vector_bytes v)
bytes_vector v fits =
    let x = component_below v.x fits.x in
    let y = component_below v.y fits.y in
    (omega (arith, x), (omega arith, (omega (arith, y), (omega arith, tt))))

bytes_slot : (d : Decision) → FitsSlot d → AreBytes (slot_of d)
bytes_slot d fits =
    let kind = number_below (kind_bits d) in
    let selects = number_below (select_bits d) in
    let at : (s r : ℕ) → AreBytes (vector_bytes (vector_of d s r)) = λ (s r : ℕ). bytes_vector (vector_of d s r) (fits.vectors s r) in
    let last : List ℕ = d.head_scale ∷ [] in
    let three : List ℕ = vector_bytes (vector_of d 1 1) ++ last in
    let two : List ℕ = vector_bytes (vector_of d 1 0) ++ three in
    let one : List ℕ = vector_bytes (vector_of d 0 1) ++ two in (
      omega (arith, kind),
      (
        fits.scale,
        (
          omega (arith, selects),
          bytes_append (vector_bytes (vector_of d 0 0)) one (at 0 0) (bytes_append (vector_bytes (vector_of d 0 1)) two (at 0 1)
              (bytes_append (vector_bytes (vector_of d 1 0)) three (at 1 0) (bytes_append (vector_bytes (vector_of d 1 1)) last (at 1 1) (fits.head_scale, tt)))),
        ),
      ),
    )

pub bytes_slots : (decisions : List Decision) → AllByRecursion FitsSlot decisions → AreBytes (slots_of decisions)
bytes_slots [] fit = tt
bytes_slots (d ∷ decisions) fit = bytes_append (slot_of d) (slots_of decisions) (bytes_slot d fit.0) (bytes_slots decisions fit.1)

pub slots_long : (decisions : List Decision) → length (slots_of decisions) ≡ 20 * length decisions
slots_long [] = refl
slots_long (d ∷ decisions) =
    let both = length-append (slot_of d) (slots_of decisions) in
    let later = slots_long decisions in
    let one : length (slot_of d) ≡ 20 = refl in
    omega (arith, both, later, one)
