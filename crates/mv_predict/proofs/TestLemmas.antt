-- The decisions of the tests can be predicted.
use Rattle.std.proofs.Common.{◌≡◌, ℕ, ◌∙◌, true, false, true≢false, sym}
use Rattle.std.specs.Prelude.{◌||◌, IsTrue}
use Rattle.mv_terms.specs.declared.head.Head.{Head}
use Rattle.mv_terms.specs.declared.macroblock.Decision.{Decision}
use Rattle.mv_vectors.specs.Inside.{is_inside}
use Rattle.mv_vectors.specs.Predictable.{HasLegalDirections, CanBePredicted}

pub by_frame : (head : Head) (mb_x mb_y : ℕ) (d : Decision) → HasLegalDirections head.pic d → d.field_motion ≡ false
    → IsTrue (is_inside head mb_x mb_y d) → CanBePredicted head mb_x mb_y d
by_frame head mb_x mb_y d directions frame inside = record {
  directions = λ e. directions;
  motion = λ e. record { frame_only = λ g. frame; skipped = λ g. frame; no_direction = λ g. frame };
  inside = λ e. inside;
}

never : {A : Type 0} → true ≡ false → A
never e = absurd (true≢false e)

pub by_field : (head : Head) (mb_x mb_y : ℕ) (d : Decision) → HasLegalDirections head.pic d → head.frame_only ≡ false → d.skipped ≡ false
    → (d.forward || d.backward) ≡ true → IsTrue (is_inside head mb_x mb_y d) → CanBePredicted head mb_x mb_y d
by_field head mb_x mb_y d directions frame skipped some inside = record {
  directions = λ e. directions;
  motion = λ e. record {
    frame_only = λ g. never (sym g ∙ frame);
    skipped = λ g. never (sym g ∙ skipped);
    no_direction = λ g. never (sym some ∙ g);
  };
  inside = λ e. inside;
}
