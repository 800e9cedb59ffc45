-- The sheet of a picture: the record of its coding, in the shares of its macroblocks (docs/FRAME-FILES.md).
use Rattle.std.specs.Prelude.{◌≡◌, ℕ, ◌+◌, ◌-◌, ◌/◌, ◌%◌, ◌^◌, ◌<◌, ◌≤◌, List, slice_index, [], ◌∷◌, ◌++◌, length, take, drop, replicate, codes}
use Rattle.mv_terms.specs.declared.head.PicType.{PicType}
use Rattle.mv_terms.specs.PicTypes.{picture_coding_type}
use Rattle.rec_sheet.specs.declared.sheet.Sheet.{Sheet}

-- what a sheet says: the type of the picture, its flags, the seals of the frames that it refers to, the zero bytes
-- behind its slices and behind its end code, and the bytes of its sequence, its prefix and its headers
pub record SheetLists : Type 0 where
  pub pic : PicType
  pub flags : ℕ
  pub forward : List ℕ
  pub backward : List ℕ
  pub n1 : ℕ
  pub n2 : ℕ
  pub context : List ℕ
  pub prefix : List ℕ
  pub head : List ℕ

-- the lists that are lent
abbrev pub lent_sheet : Sheet → SheetLists
lent_sheet s = record {
  pic = s.pic;
  flags = s.flags;
  forward = s.forward;
  backward = s.backward;
  n1 = s.n1;
  n2 = s.n2;
  context = s.context.now;
  prefix = s.prefix.now;
  head = s.head.now;
}

-- 16 and 32 bits, the high byte first
abbrev pub two_bytes : ℕ → List ℕ
two_bytes n = n / 256 ∷ n % 256 ∷ []

abbrev pub four_bytes : ℕ → List ℕ
four_bytes n = n / 16777216 ∷ n / 65536 % 256 ∷ n / 256 % 256 ∷ n % 256 ∷ []

-- bytes 4 to 7: the version, the type, the flags and a zero
abbrev pub kind_of : SheetLists → List ℕ
kind_of s = 1 ∷ picture_coding_type s.pic ∷ s.flags ∷ 0 ∷ []

-- bytes 80 to 85: the lengths of the three parts
abbrev pub lengths_of : SheetLists → List ℕ
lengths_of s =
    two_bytes (length s.context) ++ (two_bytes (length s.prefix) ++ two_bytes (length s.head))

-- where the parts end
abbrev pub end_of : SheetLists → ℕ
end_of s = 86 + length s.context + length s.prefix + length s.head

-- what it says fits the places of a sheet
pub record FitsPlaces (s : SheetLists) : Type 0 where
  pub flags : s.flags < 256
  pub forward : length s.forward ≡ 32
  pub backward : length s.backward ≡ 32
  pub n1 : s.n1 < 2 ^ 32
  pub n2 : s.n2 < 2 ^ 32
  pub context : length s.context < 65536
  pub prefix : length s.prefix < 65536
  pub head : length s.head < 65536

-- the sheet of so many bytes with this seal
abbrev pub sheet_of : SheetLists → ℕ → List ℕ → List ℕ
sheet_of s size seal =
    codes "MREC" ++ (kind_of s ++ (s.forward ++ (s.backward ++ (four_bytes s.n1 ++ (four_bytes s.n2
    ++ (lengths_of s ++ (s.context ++ (s.prefix ++ (s.head
    ++ (replicate (size - 32 - end_of s) 0 ++ seal))))))))))

-- these bytes are written of it, with some seal
pub record IsWritten (s : SheetLists) (bytes : List ℕ) : Type 0 where
  pub fits : FitsPlaces s
  pub room : end_of s + 32 ≤ length bytes
  pub seal : List ℕ
  pub seal_size : length seal ≡ 32
  pub bytes_are : bytes ≡ sheet_of s (length bytes) seal

-- n bytes from a place on
abbrev pub bytes_at : List ℕ → ℕ → ℕ → List ℕ
bytes_at bytes at n = take n (drop at bytes)

-- the same by places: these bytes are its sheet, whatever the seal in the last 32 of them is
pub record IsSheet (s : SheetLists) (bytes : List ℕ) : Type 0 where
  pub fits : FitsPlaces s
  pub room : end_of s + 32 ≤ length bytes
  pub name : bytes_at bytes 0 4 ≡ codes "MREC"
  pub kind : bytes_at bytes 4 4 ≡ kind_of s
  pub forward : bytes_at bytes 8 32 ≡ s.forward
  pub backward : bytes_at bytes 40 32 ≡ s.backward
  pub n1 : bytes_at bytes 72 4 ≡ four_bytes s.n1
  pub n2 : bytes_at bytes 76 4 ≡ four_bytes s.n2
  pub lengths : bytes_at bytes 80 6 ≡ lengths_of s
  pub context : bytes_at bytes 86 (length s.context) ≡ s.context
  pub prefix : bytes_at bytes (86 + length s.context) (length s.prefix) ≡ s.prefix
  pub head : bytes_at bytes (86 + length s.context + length s.prefix) (length s.head) ≡ s.head
  pub unused : bytes_at bytes (end_of s) (length bytes - 32 - end_of s)
      ≡ replicate (length bytes - 32 - end_of s) 0

-- both say the same
abbrev pub PlacesAreWritten : Type 0
PlacesAreWritten = (s : SheetLists) (bytes : List ℕ)
    → (IsSheet s bytes → IsWritten s bytes) × (IsWritten s bytes → IsSheet s bytes)

-- bytes are one sheet at most
abbrev pub OneSheet : Type 0
OneSheet = (s t : SheetLists) (bytes : List ℕ) → IsSheet s bytes → IsSheet t bytes → s ≡ t

-- the bytes in front that all sheets have: the name, the version, and the zero behind the flags
pub record IsNamed (bytes : List ℕ) : Type 0 where
  pub m : slice_index bytes 0 ≡ 77
  pub r : slice_index bytes 1 ≡ 82
  pub e : slice_index bytes 2 ≡ 69
  pub c : slice_index bytes 3 ≡ 67
  pub version : slice_index bytes 4 ≡ 1
  pub behind : slice_index bytes 7 ≡ 0
