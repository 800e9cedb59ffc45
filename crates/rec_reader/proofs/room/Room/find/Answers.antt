use Rattle.std.proofs.Common.{◌≡◌, ℕ, List, ◌++◌, length, take, drop, sym, ap, ◌∙◌, subst}
use Rattle.std.proofs.Math.Seq.{take-append_seam}
use Rattle.rec_sheet.specs.Sheets.{IsSheet}
use Rattle.rec_reader.proofs.room.Room.find.Goals as goal

-- a Vec that was written whole has what was written
written : (xs ys : List ℕ) (n : ℕ) → length xs ≡ n → take n (xs ++ ys) ≡ xs
written xs ys n e = ap (λ (k : ℕ). take k (xs ++ ys)) (sym e) ∙ take-append_seam xs ys

pub returns-in_err-read_sheet : goal.returns-in_err-read_sheet
returns-in_err-read_sheet c =
    let p = c.in_ok-parts.ensures.found in
    let sheet = c.find_parts.new.sheet in
    let e = written sheet (drop (length sheet) c.args.self.now.sheet.items) c.args.self.now.sheet.len (c.find_parts.auto.sheet ∙ c.deref_mut-2.ensures.len) in
    absurd (c.in_err-read_sheet.ensures p.lists (subst (IsSheet p.lists) (sym (c.deref.ensures.value ∙ e)) p.is_sheet))
