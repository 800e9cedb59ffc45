-- Sheets as they are written: their lengths and their bytes.
use Rattle.std.proofs.Common.{◌≡◌, ℕ, ◌+◌, ◌-◌, ◌^◌, ◌<◌, ◌≤◌, List, ◌++◌, length, replicate, refl, arith, length-append, codes}
use Rattle.std.proofs.lemmas.List.{length-replicate}
use Rattle.mv_bits.specs.Writing.{AreBytes}
use Rattle.mv_terms.specs.declared.head.PicType.{PicType}
use Rattle.mv_terms.specs.declared.head.PicType.TheVariants as pic
use Rattle.mv_terms.specs.PicTypes.{picture_coding_type}
use Rattle.rec_sheet.specs.Sheets.{SheetLists, FitsPlaces, sheet_of, end_of, kind_of, lengths_of, two_bytes, four_bytes}
use Rattle.cert_picture.proofs.ByteLemmas.{bytes_append, bytes_zeros}
use Rattle.cert_picture.proofs.SealedLemmas.{sheet_front}

joined : (xs ys : List ℕ) (a b : ℕ) → length xs ≡ a → length ys ≡ b → length (xs ++ ys) ≡ a + b
joined xs ys a b e f = let both = length-append xs ys in omega (arith, both, e, f)

pub front_long : (s : SheetLists) (size : ℕ) → FitsPlaces s → end_of s + 32 ≤ size → length (sheet_front s size) + 32 ≡ size
front_long s size fits room =
    let unused : ℕ = size - 32 - end_of s in
    let r9 : List ℕ = s.head ++ replicate unused 0 in
    let r8 : List ℕ = s.prefix ++ r9 in
    let r7 : List ℕ = s.context ++ r8 in
    let r6 : List ℕ = lengths_of s ++ r7 in
    let r5 : List ℕ = four_bytes s.n2 ++ r6 in
    let r4 : List ℕ = four_bytes s.n1 ++ r5 in
    let r3 : List ℕ = s.backward ++ r4 in
    let r2 : List ℕ = s.forward ++ r3 in
    let l9 = joined s.head (replicate unused 0) (length s.head) unused refl (length-replicate unused 0) in
    let l8 = joined s.prefix r9 (length s.prefix) _ refl l9 in
    let l7 = joined s.context r8 (length s.context) _ refl l8 in
    let l6 = joined (lengths_of s) r7 6 _ refl l7 in
    let l5 = joined (four_bytes s.n2) r6 4 _ refl l6 in
    let l4 = joined (four_bytes s.n1) r5 4 _ refl l5 in
    let l3 = joined s.backward r4 32 _ fits.backward l4 in
    let l2 = joined s.forward r3 32 _ fits.forward l3 in
    let l1 = joined (kind_of s) r2 4 _ refl l2 in
    let l0 = joined (codes "MREC") (kind_of s ++ r2) 4 _ refl l1 in
    omega (arith, l0, room)

bytes_of_two : (n : ℕ) → n < 65536 → AreBytes (two_bytes n)
bytes_of_two n small = (omega (arith, small), (omega arith, tt))

bytes_of_four : (n : ℕ) → n < 2 ^ 32 → AreBytes (four_bytes n)
bytes_of_four n small = (omega (arith, small), (omega arith, (omega arith, (omega arith, tt))))

type_small : (t : PicType) → picture_coding_type t < 256
type_small pic.I = omega arith
type_small pic.P = omega arith
type_small pic.B = omega arith

-- what a sheet says consists of bytes
pub record HasBytes (s : SheetLists) : Type 0 where
  pub forward : AreBytes s.forward
  pub backward : AreBytes s.backward
  pub context : AreBytes s.context
  pub prefix : AreBytes s.prefix
  pub head : AreBytes s.head

pub bytes_sheet : (s : SheetLists) (size : ℕ) (seal : List ℕ) → FitsPlaces s → HasBytes s → AreBytes seal → AreBytes (sheet_of s size seal)
bytes_sheet s size seal fits has is =
    let unused : List ℕ = replicate (size - 32 - end_of s) 0 in
    let r10 : List ℕ = unused ++ seal in
    let r9 : List ℕ = s.head ++ r10 in
    let r8 : List ℕ = s.prefix ++ r9 in
    let r7 : List ℕ = s.context ++ r8 in
    let two_lengths : List ℕ = two_bytes (length s.prefix) ++ two_bytes (length s.head) in
    let r6 : List ℕ = lengths_of s ++ r7 in
    let r5 : List ℕ = four_bytes s.n2 ++ r6 in
    let r4 : List ℕ = four_bytes s.n1 ++ r5 in
    let r3 : List ℕ = s.backward ++ r4 in
    let r2 : List ℕ = s.forward ++ r3 in
    let name : AreBytes (codes "MREC") = (omega arith, (omega arith, (omega arith, (omega arith, tt)))) in
    let kind : AreBytes (kind_of s) = (omega arith, (type_small s.pic, (fits.flags, (omega arith, tt)))) in
    let lengths : AreBytes (lengths_of s) = bytes_append (two_bytes (length s.context)) two_lengths (bytes_of_two (length s.context) fits.context)
    (bytes_append (two_bytes (length s.prefix)) (two_bytes (length s.head)) (bytes_of_two (length s.prefix) fits.prefix) (bytes_of_two (length s.head) fits.head)) in
    bytes_append (codes "MREC") (kind_of s ++ r2) name (bytes_append (kind_of s) r2 kind
    (bytes_append s.forward r3 has.forward (bytes_append s.backward r4 has.backward
    (bytes_append (four_bytes s.n1) r5 (bytes_of_four s.n1 fits.n1) (bytes_append (four_bytes s.n2) r6 (bytes_of_four s.n2 fits.n2)
    (bytes_append (lengths_of s) r7 lengths (bytes_append s.context r8 has.context (bytes_append s.prefix r9 has.prefix
    (bytes_append s.head r10 has.head (bytes_append unused seal (bytes_zeros (size - 32 - end_of s)) is))))))))))
