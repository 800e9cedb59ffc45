-- A record as it is written.
use Rattle.std.proofs.Common.{◌≡◌, ℕ, ◌+◌, ◌*◌, ◌<◌, List, [], ◌∷◌, ◌++◌, length, take, drop, get_or, sym, ap, ◌∙◌, arith}
use Rattle.std.proofs.lemmas.List.{take_at, take_more}
use Rattle.std.proofs.lemmas.Grind.{flat_map-append}
use Rattle.mv_terms.specs.declared.head.Head.{Head}
use Rattle.mv_terms.specs.declared.macroblock.Decision.{Decision}
use Rattle.mv_terms.specs.Structures.{IsOfFrame}
use Rattle.mv_terms.proofs.StructureLaws.{rows_of_whole}
use Rattle.rec_slot.specs.Slot.{slot_of}
use Rattle.mv_terms.specs.CodedPicture.{CodedPicture, frame_macroblocks, macroblocks}
use Rattle.mv_planes.specs.Planes.{Planes}
use Rattle.mv_planes.specs.References.{References}
use Rattle.mv_recon.specs.Pictures.{picture_from, picture_with}
use Rattle.rec_sheet.specs.Sheets.{SheetLists, sheet_of}
use Rattle.cert_picture.specs.Records.{FrameParts, no_seal, sheet_lists, sheet_with, slots_of}

-- one slot more
pub slots_more : (decisions : List Decision) (none : Decision) (old new piece : List ℕ) (k : ℕ) → k < length decisions
    → piece ≡ slot_of (get_or decisions k none)
    → take (20 * k + length piece) new ≡ take (20 * k) old ++ piece
    → take (20 * k) old ≡ slots_of (take k decisions)
    → take (20 * (k + 1)) new ≡ slots_of (take (k + 1) decisions)
slots_more decisions none old new piece k inside is now before =
    let d = get_or decisions k none in
    let long : length piece ≡ 20 = ap (λ (bytes : List ℕ). length bytes) is in
    let place : 20 * (k + 1) ≡ 20 * k + length piece = omega (arith, long) in
    ap (λ n. take n new) place ∙ now
    ∙ ap (λ (bytes : List ℕ). bytes ++ piece) before
    ∙ ap (λ (bytes : List ℕ). slots_of (take k decisions) ++ bytes) is
    ∙ sym (ap slots_of (take_more decisions k none inside) ∙ flat_map-append slot_of (take k decisions) (d ∷ []))

-- the sheet that is written of what the sheet says
pub sheet_is : (p : FrameParts) (s : SheetLists) (size : ℕ) (bytes : List ℕ) → s ≡ sheet_lists p
    → size ≡ 12 * frame_macroblocks p.picture.head → bytes ≡ sheet_of s size no_seal → bytes ≡ sheet_with p no_seal
sheet_is p s size bytes says long is =
    is ∙ ap (λ (t : SheetLists). sheet_of t size no_seal) says ∙ ap (λ (n : ℕ). sheet_of (sheet_lists p) n no_seal) long

-- what was lent of a vector was written whole
pub refilled : {A : Type 0} (size : ℕ) (items new : List A) → length new ≡ size → take size (new ++ drop (length new) items) ≡ new
refilled size items new long = take_at new (drop (length new) items) size long

-- a frame picture has the macroblocks of its frame
pub all_of_frame : (head : Head) → IsOfFrame head → frame_macroblocks head ≡ macroblocks head
all_of_frame head frame = ap (λ (rows : ℕ). head.mb_wide * rows) (rows_of_whole head frame)

-- a decoded frame picture has as many macroblocks as its head says of the frame
pub as_many_macroblocks : (refs : References) (coded : CodedPicture) (picture : Planes) → IsOfFrame coded.head → picture ≡ picture_from refs coded
    → picture.mb_wide * picture.mb_high ≡ frame_macroblocks coded.head
unfolding picture_with
as_many_macroblocks refs coded picture frame decoded =
    ap (λ (p : Planes). p.mb_wide * p.mb_high) decoded ∙ sym (all_of_frame coded.head frame)
