use Rattle.std.proofs.Common.{ℕ, ◌+◌, ◌-◌, ◌∷◌, [], length, arith, refl, ap}
use Rattle.rec_sheet.proofs.WriteLemmas.{begins, with_piece, with_rest, is_written}
use Rattle.rec_sheet.proofs.write.write_sheet.Goals as goal

pub returns : goal.returns
returns c =
    let s = c.args.sheet.now in
    let b0 = begins c.args.to.now refl in
    let b1 = with_piece _ _ _ _ 0 c.put-end.result 0 refl c.put-end.ensures.bytes c.put-end.ensures.end b0 in
    let b2 = with_piece _ _ _ _ 4 c.put-end-2.result c.put-end.result (omega arith) c.put-end-2.ensures.bytes c.put-end-2.ensures.end b1 in
    let b3 = with_piece _ _ _ _ 8 c.put-end-3.result c.put-end-2.result (omega arith) c.put-end-3.ensures.bytes c.put-end-3.ensures.end b2 in
    let b4 = with_piece _ _ _ _ 40 c.put-end-4.result c.put-end-3.result (omega arith) c.put-end-4.ensures.bytes c.put-end-4.ensures.end b3 in
    let b5 = with_piece _ _ _ _ 72 c.put-end-5.result c.put-end-4.result (omega arith) c.put-end-5.ensures.bytes c.put-end-5.ensures.end b4 in
    let b6 = with_piece _ _ _ _ 76 c.put-end-6.result c.put-end-5.result (omega arith) c.put-end-6.ensures.bytes c.put-end-6.ensures.end b5 in
    let b7 = with_piece _ _ _ _ 80 c.put-end-7.result c.put-end-6.result (omega arith) c.put-end-7.ensures.bytes c.put-end-7.ensures.end b6 in
    let b8 = with_piece _ _ _ _ 82 c.put-end-8.result c.put-end-7.result (omega arith) c.put-end-8.ensures.bytes c.put-end-8.ensures.end b7 in
    let b9 = with_piece _ _ _ _ 84 c.put-end-9.result c.put-end-8.result (omega arith) c.put-end-9.ensures.bytes c.put-end-9.ensures.end b8 in
    let b10 = with_piece _ _ _ _ 86 c.put-end-10.result c.put-end-9.result (omega arith) c.put-end-10.ensures.bytes c.put-end-10.ensures.end b9 in
    let b11 = with_piece _ _ _ _ c.put-end-10.result c.put-end-11.result c.put-end-10.result (omega arith) c.put-end-11.ensures.bytes c.put-end-11.ensures.end b10 in
    let b12 = with_piece _ _ _ _ c.put-end-11.result c.put-end-12.result c.put-end-11.result (omega arith) c.put-end-12.ensures.bytes c.put-end-12.ensures.end b11 in
    let free : ℕ = length c.put-end-12.new.to - 32 - (86 + length s.context.now + length s.prefix.now + length s.head.now) in
    let all = with_rest _ _ _ c.put-end-12.result c.put-end-12.result (length c.put-end-12.new.to) free refl c.clear.ensures (omega arith) b12 in
    is_written _ (length c.args.to.now) free _ _ _ _ _ _ _ (ap (λ t. 1 ∷ t ∷ s.flags ∷ 0 ∷ []) c.picture_coding_type.ensures) c.four_bytes-n1.ensures c.four_bytes-n2.ensures c.two_bytes-context.ensures c.two_bytes-prefix.ensures c.two_bytes-head.ensures (omega arith) all
