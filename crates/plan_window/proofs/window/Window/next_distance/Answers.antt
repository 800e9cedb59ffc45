use Rattle.std.proofs.Common.{rules, ◌≡◌, true, false, Some, None, slice_get, cond, sym, ap, ◌∙◌, arith}
use Rattle.plan_window.specs.Links.{is_anchor_record}
use Rattle.plan_window.specs.State.{WindowState}
use Rattle.plan_window.specs.Steps.{next_distance}
use Rattle.plan_window.proofs.NextLemmas.{distance_here, distance_next, get_past}
use Rattle.plan_window.proofs.window.Window.next_distance.Goals.{in-Some+else-is_anchor, in_default}
use Rattle.plan_window.proofs.window.Window.next_distance.Goals as goal

pub returns-then-summary : goal.returns-then-summary
returns-then-summary c =
    let d = c.loop-distance.distance in
    let xs = c.self.inside.held.items in
    let s = c.in-Some.summary.now in
    let at : slice_get xs d ≡ Some s = search rules in
    let anchor : is_anchor_record s ≡ true = search rules in
    sym (ap (λ b. cond b 0 d) c.if-summary.true) ∙ sym (distance_here d xs s at anchor) ∙ c.loop-distance.invariant ∙ ap (λ (w : WindowState). next_distance w.held) c.self.view_is

pub returns-else-summary : goal.returns-else-summary
returns-else-summary c =
    let d = c.loop-distance.distance in
    let xs = c.self.inside.held.items in
    let s = c.in-Some.summary.now in
    let at : slice_get xs d ≡ Some s = search rules in
    let anchor : is_anchor_record s ≡ true = search rules in
    sym (ap (λ b. cond b 0 d) c.if-summary.false) ∙ sym (distance_here d xs s at anchor) ∙ c.loop-distance.invariant ∙ ap (λ (w : WindowState). next_distance w.held) c.self.view_is

pub loop-distance-preserved : goal.loop-distance-preserved
loop-distance-preserved c =
    let d = c.loop-distance.distance in
    let xs = c.self.inside.held.items in
    elim c.match-get.branch [
      | in-Some+else-is_anchor w ↦
          let s = w.in-Some.summary.now in
          let at : slice_get xs d ≡ Some s = search rules in
          let plain : is_anchor_record s ≡ false = search rules in
          distance_next d xs s at plain ∙ c.loop-distance.invariant
      | in_default w ↦
          let none : slice_get xs d ≡ None = search rules in
          absurd (get_past xs d (omega arith) none)
    ]
