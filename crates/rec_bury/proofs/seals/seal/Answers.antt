use Rattle.std.proofs.Common.{◌≡◌, ◌*◌, ◌∙◌, List, ℕ, [], length, arith, subst, ap}
use Rattle.sha2.specs.Hashers.{Holds256}
use Rattle.rec_bury.proofs.PieceLemmas.{plain_front, all_lines, same_area}
use Rattle.rec_bury.proofs.seals.seal.Goals as goal
use Rattle.rec_bury.specs.Seals.{seal_of}

pub lines-init : goal.lines-init
lines-init c =
    let area : c.from-wide.result * c.from-high.result ≡ c.args.wide * c.args.high = same_area _ _ _ _ c.from-wide.ensures c.from-high.ensures in
    let size : length c.args.frame.now ≡ 768 * (c.from-wide.result * c.from-high.result) = omega (arith, area) in
    subst (λ (m : List ℕ). Holds256 c.update.new.self m) (plain_front c.from-wide.result c.from-high.result c.args.frame.now (λ k. let fits = c.type_inv.frame k in omega arith) size)
    (c.update.ensures [] c.new-hasher.ensures)

pub returns : goal.returns
returns c =
    let done : c.lines.y ≡ 8 * c.from-high.result = omega arith in
    c.finalize.ensures _ (subst (λ (m : List ℕ). Holds256 c.lines.hasher m) (all_lines c.from-wide.result c.from-high.result c.lines.y c.args.frame.now done) c.lines.invariant)
    ∙ (ap (λ w. seal_of w c.from-high.result c.args.frame.now) c.from-wide.ensures ∙ ap (λ h. seal_of c.args.wide h c.args.frame.now) c.from-high.ensures)
