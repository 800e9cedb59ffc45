use Rattle.std.proofs.Common.{◌∙◌, sym, get_or, refl, arith, rules}
use Rattle.rec_slot.proofs.BitLemmas.{eight_bits, high_nibble, high_byte, low_byte}
use Rattle.rec_slot.proofs.ReadLemmas.{next_same, one_by_one}
use Rattle.rec_slot.proofs.read.read_slot.Goals as goal

pub returns : goal.returns
returns c =
    let b = c.args.bytes.now in
    let fits = c.fits-bytes in
    let kind = eight_bits (get_or b 0 0) (fits 0) in
    let marks = high_nibble (get_or b 2 0) (fits 2) (search rules) in
    record {
      same_bytes =
          next_same _ _ _ _ (rw (c.is_set.ensures, c.is_set-2.ensures, c.is_set-3.ensures, c.is_set-4.ensures, c.is_set-5.ensures, c.is_set-6.ensures, c.is_set-7.ensures, c.is_set-8.ensures) kind)
          (next_same _ _ _ _ refl
          (next_same _ _ _ _ (rw (c.is_set-9.ensures, c.is_set-10.ensures, c.is_set-11.ensures, c.is_set-12.ensures) marks)
          (next_same _ _ _ _ (high_byte _ _ _ (fits 3) (fits 4) c.vector_at.ensures.x) (next_same _ _ _ _ (low_byte _ _ _ (fits 3) (fits 4) c.vector_at.ensures.x)
          (next_same _ _ _ _ (high_byte _ _ _ (fits 5) (fits 6) c.vector_at.ensures.y) (next_same _ _ _ _ (low_byte _ _ _ (fits 5) (fits 6) c.vector_at.ensures.y)
          (next_same _ _ _ _ (high_byte _ _ _ (fits 7) (fits 8) c.vector_at-2.ensures.x) (next_same _ _ _ _ (low_byte _ _ _ (fits 7) (fits 8) c.vector_at-2.ensures.x)
          (next_same _ _ _ _ (high_byte _ _ _ (fits 9) (fits 10) c.vector_at-2.ensures.y) (next_same _ _ _ _ (low_byte _ _ _ (fits 9) (fits 10) c.vector_at-2.ensures.y)
          (next_same _ _ _ _ (high_byte _ _ _ (fits 11) (fits 12) c.vector_at-3.ensures.x) (next_same _ _ _ _ (low_byte _ _ _ (fits 11) (fits 12) c.vector_at-3.ensures.x)
          (next_same _ _ _ _ (high_byte _ _ _ (fits 13) (fits 14) c.vector_at-3.ensures.y) (next_same _ _ _ _ (low_byte _ _ _ (fits 13) (fits 14) c.vector_at-3.ensures.y)
          (next_same _ _ _ _ (high_byte _ _ _ (fits 15) (fits 16) c.vector_at-4.ensures.x) (next_same _ _ _ _ (low_byte _ _ _ (fits 15) (fits 16) c.vector_at-4.ensures.x)
          (next_same _ _ _ _ (high_byte _ _ _ (fits 17) (fits 18) c.vector_at-4.ensures.y) (next_same _ _ _ _ (low_byte _ _ _ (fits 17) (fits 18) c.vector_at-4.ensures.y)
          refl))))))))))))))))))
          ∙ sym (one_by_one b c.told-bytes);
      motion = record { half = refl; dual = refl; dual_delta = refl };
      scales = record { scale = (omega arith, omega arith); head_scale = omega arith };
    }
