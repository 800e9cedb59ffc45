-- A frame with its seal, or without one.
use Rattle.std.proofs.Common.{◌≡◌, ℕ, ◌-◌, ◌*◌, Bool, true, false, List, ◌++◌, replicate, Option, None, Some, sym, ap, ◌∙◌, append_assoc, codes}
use Rattle.std.specs.Prelude.{if◌then◌else◌}
use Rattle.sha2.specs.Sha256.{sha256}
use Rattle.mv_terms.specs.CodedPicture.{frame_macroblocks}
use Rattle.rec_sheet.specs.Sheets.{SheetLists, sheet_of, kind_of, four_bytes, lengths_of, end_of}
use Rattle.rec_bury.specs.Buried.{frame_of}
use Rattle.rec_bury.specs.FrameBytes.{unrecorded}
use Rattle.cert_picture.specs.Records.{FrameParts, frame_by, frame_samples, frame_seal, frame_with, is_recordable, no_seal, sheet_lists, sheet_with, slots_of}

-- the bytes of a sheet in front of its seal
abbrev pub sheet_front : SheetLists → ℕ → List ℕ
sheet_front s size =
    codes "MREC" ++ (kind_of s ++ (s.forward ++ (s.backward ++ (four_bytes s.n1 ++ (four_bytes s.n2
    ++ (lengths_of s ++ (s.context ++ (s.prefix ++ (s.head ++ replicate (size - 32 - end_of s) 0)))))))))

regroup : (a b c d e f g h i j k z : List ℕ) → a ++ (b ++ (c ++ (d ++ (e ++ (f ++ (g ++ (h ++ (i ++ (j ++ (k ++ z)))))))))) ≡ (a ++ (b ++ (c ++ (d ++ (e ++ (f ++ (g ++ (h ++ (i ++ (j ++ k)))))))))) ++ z
regroup a b c d e f g h i j k z = simp append_assoc

pub seal_ends : (s : SheetLists) (size : ℕ) (seal : List ℕ) → sheet_of s size seal ≡ sheet_front s size ++ seal
seal_ends s size seal =
    regroup (codes "MREC") (kind_of s) s.forward s.backward (four_bytes s.n1) (four_bytes s.n2) (lengths_of s) s.context s.prefix s.head (replicate (size - 32 - end_of s) 0) seal

-- what stands in front of the seal in the sheet of a picture
abbrev pub front_of : FrameParts → List ℕ
front_of p = sheet_front (sheet_lists p) (12 * frame_macroblocks p.picture.head)

pub sheet_ends : (p : FrameParts) (seal : List ℕ) → sheet_with p seal ≡ front_of p ++ seal
sheet_ends p seal = seal_ends (sheet_lists p) (12 * frame_macroblocks p.picture.head) seal

abbrev pub seal_by : FrameParts → Bool → Option (List ℕ)
seal_by p recorded = if recorded then Some (sha256 (frame_with p no_seal)) else None

-- a frame without a record
pub no_record : (p : FrameParts) → is_recordable p ≡ false → None ≡ frame_seal p
unfolding frame_seal
no_record p is = sym (ap (seal_by p) is)

pub unsealed_samples : (p : FrameParts) (samples : List ℕ) → None ≡ frame_seal p → samples ≡ unrecorded p.decoded
    → samples ≡ frame_samples p
unsealed_samples p samples none is = is ∙ ap (frame_by p) none

-- a frame with its record: the sheet ends with the seal
frame_is : (p : FrameParts) (slots seal : List ℕ) → slots ≡ slots_of p.picture.decisions
    → frame_of p.decoded slots (front_of p ++ seal) ≡ frame_with p seal
frame_is p slots seal are =
    ap (λ (bytes : List ℕ). frame_of p.decoded bytes (front_of p ++ seal)) are
    ∙ ap (frame_of p.decoded (slots_of p.picture.decisions)) (sym (sheet_ends p seal))

pub sealed : (p : FrameParts) (slots seal : List ℕ) → is_recordable p ≡ true → slots ≡ slots_of p.picture.decisions
    → seal ≡ sha256 (frame_of p.decoded slots (front_of p ++ no_seal)) → Some seal ≡ frame_seal p
unfolding frame_seal
sealed p slots seal is are digest =
    ap (λ (bytes : List ℕ). Some bytes) (digest ∙ ap sha256 (frame_is p slots no_seal are)) ∙ sym (ap (seal_by p) is)

pub sealed_samples : (p : FrameParts) (slots seal samples : List ℕ) → Some seal ≡ frame_seal p → slots ≡ slots_of p.picture.decisions
    → samples ≡ frame_of p.decoded slots (front_of p ++ seal) → samples ≡ frame_samples p
sealed_samples p slots seal samples some are is = is ∙ frame_is p slots seal are ∙ ap (frame_by p) some
