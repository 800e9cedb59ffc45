-- Two sends in a row.
use Rattle.std.proofs.Common.{ℕ, ◌<◌, List, ◌++◌, length, Option, Result, Ok, Err, ap, sym, ◌∙◌, append_assoc, length-append, arith}
use Rattle.std.specs.Io.KnownBytes.{Appends}
use Rattle.mv_ends.specs.Kept.{KeepsSink}
use Rattle.mv_ends.specs.Sends.{Sends}
use Rattle.mv_ends.specs.Moves.{AppendsFront}
use Rattle.mv_ends.specs.Told.{SinkTold}
use Rattle.mv_ends.proofs.Known.{Appends-trans, keeps_sink_trans, failed_later}

-- a front of the first bytes is a front of all
pub front_first : (a b : Option (List ℕ)) (x y : List ℕ) → AppendsFront a b x → AppendsFront a b (x ++ y)
front_first a b x y h =
    let left : 0 < length h.back = h.some_left in
    record {
      front = h.front;
      back = h.back ++ y;
      parts = ap (λ (s : List ℕ). s ++ y) h.parts ∙ append_assoc h.front h.back y;
      some_left = omega (arith, left, length-append h.back y);
      grown = h.grown;
    }

pub front_behind : (a b c : Option (List ℕ)) (x y : List ℕ) → Appends a b x → AppendsFront b c y → AppendsFront a c (x ++ y)
front_behind a b c x y h k = record {
  front = x ++ k.front;
  back = k.back;
  parts = ap (λ (s : List ℕ). x ++ s) k.parts ∙ sym (append_assoc x k.front k.back);
  some_left = k.some_left;
  grown = Appends-trans a b c x k.front h k.grown;
}

-- what is sent first failed
pub sends_first : {T E F : Type 0} (a b : SinkTold) (x y : List ℕ) (e : E) (f : F) → Sends {T = T} a b x (Err e) → Sends {T = T} a b (x ++ y) (Err f)
sends_first a b x y e f h = record {
  sent = tt;
  front = front_first a.written b.written x y h.front;
  keeps = h.keeps;
  failed = h.failed;
}

-- something is sent behind what was sent
pub sends_behind : {T E : Type 0} (a b c : SinkTold) (x y : List ℕ) (r : Result T E) → Appends a.written b.written x → KeepsSink a b → Sends b c y r → Sends a c (x ++ y) r
sends_behind a b c x y (Ok v) first keeps h = record {
  sent = Appends-trans a.written b.written c.written x y first h.sent;
  front = tt;
  keeps = keeps_sink_trans a b c x y keeps h.keeps first h.sent;
  failed = tt;
}
sends_behind a b c x y (Err e) first keeps h = record {
  sent = tt;
  front = front_behind a.written b.written c.written x y first h.front;
  keeps = keeps_sink_trans a b c x h.front.front keeps h.keeps first h.front.grown;
  failed = failed_later a b c x keeps h.failed first;
}
