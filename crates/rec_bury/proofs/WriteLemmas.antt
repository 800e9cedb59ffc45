-- One more sample is written.
use Rattle.std.proofs.Common.{◌≡◌, ◌≢◌, ℕ, ◌+◌, ◌*◌, ◌/◌, ◌%◌, ◌<◌, ◌∙◌, List, length, get_or, arith, get_or-set_same, get_or-set_other, below_more}
use Rattle.std.proofs.Math.ListN.{set, length-set}
use Rattle.rec_bury.specs.Steps.{HasSample, AreWritten}

abbrev put : List ℕ → ℕ → ℕ → List ℕ
put frame k w = set (set frame (2 * k) (w % 256)) (2 * k + 1) (w / 256)

sample_put : (frame : List ℕ) (k w : ℕ) → 2 * k + 1 < length frame → HasSample (put frame k w) k w
sample_put frame k w inside =
    let first : 2 * k < length frame = omega arith in
    let second : 2 * k + 1 < length (set frame (2 * k) (w % 256)) = omega (arith, length-set frame (2 * k) (w % 256)) in
    let ne : 2 * k ≢ 2 * k + 1 = omega arith in
    record {
      low = get_or-set_other (set frame (2 * k) (w % 256)) (2 * k + 1) (2 * k) (w / 256) 0 ne ∙ get_or-set_same frame (2 * k) (w % 256) 0 first;
      high = get_or-set_same (set frame (2 * k) (w % 256)) (2 * k + 1) (w / 256) 0 second;
    }

kept : (frame : List ℕ) (k w j : ℕ) → j ≢ 2 * k → j ≢ 2 * k + 1 → get_or (put frame k w) j 0 ≡ get_or frame j 0
kept frame k w j a b =
    get_or-set_other (set frame (2 * k) (w % 256)) (2 * k + 1) j (w / 256) 0 b ∙ get_or-set_other frame (2 * k) j (w % 256) 0 a

sample_kept : (frame : List ℕ) (k w i v : ℕ) → i < k → HasSample frame i v → HasSample (put frame k w) i v
sample_kept frame k w i v below s = record {
  low = kept frame k w (2 * i) (omega arith) (omega arith) ∙ s.low;
  high = kept frame k w (2 * i + 1) (omega arith) (omega arith) ∙ s.high;
}

pub written_none : (v : ℕ → ℕ) (frame : List ℕ) → AreWritten v frame 0
written_none v frame = record { filled = λ k h. absurd (omega arith) }

pub written_more : (v : ℕ → ℕ) (frame new : List ℕ) (k n w : ℕ) → n ≡ k + 1 → 2 * k + 1 < length frame → v k ≡ w → new ≡ set (set frame (2 * k) (w % 256)) (2 * k + 1) (w / 256) → AreWritten v frame k → AreWritten v new n
written_more v frame new k n w next inside e is f =
    rw (is, next) record {
      filled = below_more (λ i. HasSample (put frame k w) i (v i)) k
          (λ i below. sample_kept frame k w i (v i) below (f.filled i below))
          (rw e (sample_put frame k w inside));
    }

pub written_along : (v : ℕ → ℕ) (frame : List ℕ) (k n : ℕ) → n ≡ k → AreWritten v frame k → AreWritten v frame n
written_along v frame k n e f = rw e f
