-- Whether the seal that a frame has is its own.
use Rattle.std.proofs.Common.{◌≡◌, ℕ, ◌+◌, ◌-◌, ◌*◌, ◌<◌, ◌≤◌, ◌∙◌, List, drop, length, get_or, arith, ap, sym, length-drop}
use Rattle.std.proofs.lemmas.Grind.{same_number_lists}
use Rattle.std.proofs.lemmas.List.{get_or-drop}
use Rattle.std.proofs.lemmas.List.FromFn.{length-map-range_with_len, get_or-map-range_with_len}
use Rattle.rec_bury.specs.Exhumed.{sheet_in}
use Rattle.rec_bury.specs.Seals.{seal_of, SealHolds}
use Rattle.rec_bury.specs.Steps.{sheet_at}

length-sheet_in : (wide high : ℕ) (frame : List ℕ) → length (sheet_in wide high frame) ≡ 12 * (wide * high)
unfolding sheet_in
length-sheet_in wide high frame = length-map-range_with_len (sheet_at wide high frame) 0 (12 * (wide * high))

seal_at : (wide high : ℕ) (frame : List ℕ) (i : ℕ) → i < 32 → 32 ≤ 12 * (wide * high) → get_or (drop (12 * (wide * high) - 32) (sheet_in wide high frame)) i 0 ≡ sheet_at wide high frame (12 * (wide * high) - 32 + i)
unfolding sheet_in
seal_at wide high frame i small some =
    get_or-drop (12 * (wide * high) - 32) (sheet_in wide high frame) i 0
    ∙ get_or-map-range_with_len (sheet_at wide high frame) 0 (12 * (wide * high)) (12 * (wide * high) - 32 + i) (12 * (wide * high) - 32 + i) 0 (omega arith) (omega arith)

-- the byte i of a seal that holds
pub holds_at : (wide high w h : ℕ) (frame digest : List ℕ) (i byte : ℕ) → w ≡ wide → h ≡ high → i < 32 → 32 ≤ 12 * (wide * high) → digest ≡ seal_of wide high frame → byte ≡ sheet_at w h frame (12 * (w * h) - 32 + i)
    → SealHolds wide high frame → byte ≡ get_or digest i 0
holds_at wide high w h frame digest i byte a b small some is from holds =
    from ∙ (ap (λ u. sheet_at u h frame (12 * (u * h) - 32 + i)) a ∙ (ap (λ u. sheet_at wide u frame (12 * (wide * u) - 32 + i)) b
    ∙ (sym (seal_at wide high frame i small some) ∙ (ap (λ xs. get_or xs i 0) holds ∙ ap (λ xs. get_or xs i 0) (sym is)))))

pub holds : (wide high w h n : ℕ) (frame digest : List ℕ) → w ≡ wide → h ≡ high → n ≡ 32 → 32 ≤ 12 * (wide * high) → length digest ≡ 32 → digest ≡ seal_of wide high frame
    → ((k : ℕ) → k < n → sheet_at w h frame (12 * (w * h) - 32 + k) ≡ get_or digest k 0) → SealHolds wide high frame
holds wide high w h n frame digest a b all some size is same =
    let long : length (drop (12 * (wide * high) - 32) (sheet_in wide high frame)) ≡ 32 = length-drop (12 * (wide * high) - 32) (sheet_in wide high frame) ∙ omega (arith, length-sheet_in wide high frame) in
    same_number_lists _ digest (long ∙ sym size) (λ k h. seal_at wide high frame k (omega (arith, long)) some
    ∙ (sym (ap (λ u. sheet_at u high frame (12 * (u * high) - 32 + k)) a) ∙ (sym (ap (λ u. sheet_at w u frame (12 * (w * u) - 32 + k)) b) ∙ same k (omega (arith, long)))))
    ∙ is
