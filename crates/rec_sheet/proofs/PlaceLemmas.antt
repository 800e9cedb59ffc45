-- A sheet by its places is a sheet as it is written.
use Rattle.std.proofs.Common.{◌≡◌, ℕ, ◌+◌, ◌-◌, ◌∙◌, List, ◌++◌, take, drop, replicate, length, arith, ap, refl, sym, length-drop, codes}
use Rattle.std.proofs.lemmas.List.{take-append-drop, take_at, drop_at, drop-drop, length-replicate}
use Rattle.rec_sheet.specs.Sheets.{SheetLists, IsSheet, IsWritten, PlacesAreWritten, end_of, bytes_at, four_bytes, kind_of, lengths_of}

-- what stands from a place on
record Follows (bytes : List ℕ) (n : ℕ) (rest : List ℕ) : Type 0 where
  is : drop n bytes ≡ rest

first : (bytes piece rest : List ℕ) (n k : ℕ) → length piece ≡ k → Follows bytes n (piece ++ rest) → bytes_at bytes n k ≡ piece
first bytes piece rest n k size f = ap (take k) f.is ∙ take_at piece rest k size

behind : (bytes piece rest : List ℕ) (n k m : ℕ) → length piece ≡ k → m ≡ n + k → Follows bytes n (piece ++ rest) → Follows bytes m rest
behind bytes piece rest n k m size next f = record { is = ap (λ i. drop i bytes) next ∙ (sym (drop-drop k n bytes) ∙ (ap (drop k) f.is ∙ drop_at piece rest k size)) }

in_front : (bytes piece rest : List ℕ) (n k m : ℕ) → m ≡ n + k → bytes_at bytes n k ≡ piece → Follows bytes m rest → Follows bytes n (piece ++ rest)
in_front bytes piece rest n k m next e f = record {
  is = sym (take-append-drop k (drop n bytes)) ∙ (ap (λ xs. xs ++ drop k (drop n bytes)) e ∙ ap (λ xs. piece ++ xs) (drop-drop k n bytes ∙ (ap (λ i. drop i bytes) (sym next) ∙ f.is)));
}

written : (s : SheetLists) (bytes : List ℕ) → IsSheet s bytes → IsWritten s bytes
written s bytes is =
    let c : ℕ = length s.context in
    let p : ℕ = length s.prefix in
    let h : ℕ = length s.head in
    let free : ℕ = length bytes - 32 - end_of s in
    let seal : List ℕ = drop (length bytes - 32) bytes in
    let f11 : Follows bytes (length bytes - 32) seal = record { is = refl } in
    let f10 = in_front bytes _ seal (end_of s) free (length bytes - 32) (let r = is.room in omega arith) is.unused f11 in
    let f9 = in_front bytes _ _ (86 + c + p) h (end_of s) refl is.head f10 in
    let f8 = in_front bytes _ _ (86 + c) p (86 + c + p) refl is.prefix f9 in
    let f7 = in_front bytes _ _ 86 c (86 + c) refl is.context f8 in
    let f6 = in_front bytes _ _ 80 6 86 refl is.lengths f7 in
    let f5 = in_front bytes _ _ 76 4 80 refl is.n2 f6 in
    let f4 = in_front bytes _ _ 72 4 76 refl is.n1 f5 in
    let f3 = in_front bytes _ _ 40 32 72 refl is.backward f4 in
    let f2 = in_front bytes _ _ 8 32 40 refl is.forward f3 in
    let f1 = in_front bytes _ _ 4 4 8 refl is.kind f2 in
    let f0 = in_front bytes _ _ 0 4 4 refl is.name f1 in
    record {
      fits = is.fits;
      room = is.room;
      seal = seal;
      seal_size = length-drop (length bytes - 32) bytes ∙ (let r = is.room in omega arith);
      bytes_are = f0.is;
    }

placed : (s : SheetLists) (bytes : List ℕ) → IsWritten s bytes → IsSheet s bytes
placed s bytes w =
    let c : ℕ = length s.context in
    let p : ℕ = length s.prefix in
    let h : ℕ = length s.head in
    let free : ℕ = length bytes - 32 - end_of s in
    let r10 : List ℕ = replicate free 0 ++ w.seal in
    let r9 : List ℕ = s.head ++ r10 in
    let r8 : List ℕ = s.prefix ++ r9 in
    let r7 : List ℕ = s.context ++ r8 in
    let r6 : List ℕ = lengths_of s ++ r7 in
    let r5 : List ℕ = four_bytes s.n2 ++ r6 in
    let r4 : List ℕ = four_bytes s.n1 ++ r5 in
    let r3 : List ℕ = s.backward ++ r4 in
    let r2 : List ℕ = s.forward ++ r3 in
    let r1 : List ℕ = kind_of s ++ r2 in
    let f0 : Follows bytes 0 (codes "MREC" ++ r1) = record { is = w.bytes_are } in
    let f1 = behind bytes (codes "MREC") r1 0 4 4 refl refl f0 in
    let f2 = behind bytes (kind_of s) r2 4 4 8 refl refl f1 in
    let f3 = behind bytes s.forward r3 8 32 40 w.fits.forward refl f2 in
    let f4 = behind bytes s.backward r4 40 32 72 w.fits.backward refl f3 in
    let f5 = behind bytes (four_bytes s.n1) r5 72 4 76 refl refl f4 in
    let f6 = behind bytes (four_bytes s.n2) r6 76 4 80 refl refl f5 in
    let f7 = behind bytes (lengths_of s) r7 80 6 86 refl refl f6 in
    let f8 = behind bytes s.context r8 86 c (86 + c) refl refl f7 in
    let f9 = behind bytes s.prefix r9 (86 + c) p (86 + c + p) refl refl f8 in
    let f10 = behind bytes s.head r10 (86 + c + p) h (end_of s) refl refl f9 in
    record {
      fits = w.fits;
      room = w.room;
      name = first bytes (codes "MREC") r1 0 4 refl f0;
      kind = first bytes (kind_of s) r2 4 4 refl f1;
      forward = first bytes s.forward r3 8 32 w.fits.forward f2;
      backward = first bytes s.backward r4 40 32 w.fits.backward f3;
      n1 = first bytes (four_bytes s.n1) r5 72 4 refl f4;
      n2 = first bytes (four_bytes s.n2) r6 76 4 refl f5;
      lengths = first bytes (lengths_of s) r7 80 6 refl f6;
      context = first bytes s.context r8 86 c refl f7;
      prefix = first bytes s.prefix r9 (86 + c) p refl f8;
      head = first bytes s.head r10 (86 + c + p) h refl f9;
      unused = first bytes (replicate free 0) w.seal (end_of s) free (length-replicate free 0) f10;
    }

pub places_are_written : PlacesAreWritten
places_are_written s bytes = (written s bytes, placed s bytes)
