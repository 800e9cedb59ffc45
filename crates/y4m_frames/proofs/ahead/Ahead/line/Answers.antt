use Rattle.std.proofs.Common.{◌≡◌, ◌∙◌, ap, sym, Option, None, Some, is_some, false, ℕ, refl}
use Rattle.y4m_frames.specs.Lines.{line_within}
use Rattle.y4m_frames.proofs.ahead.Ahead.line.Goals as goal

no_some : (r : Option ℕ) → is_some r ≡ false → r ≡ None
no_some None h = refl
no_some (Some k) h = cc

pub returns-then-count-eq0-clause-found : goal.returns-then-count-eq0-clause-found
returns-then-count-eq0-clause-found g c =
    let e = c.in_ok-count.ensures in
    ap (line_within c.args.most) (e.none c.if-count-eq0.true) ∙ ap (line_within c.args.most) (sym c.bytes.ensures.value)
    ∙ sym c.line_end-found.ensures.value ∙ no_some c.line_end-found.result (sym c.is_some.ensures ∙ c.if-is_some.false)
