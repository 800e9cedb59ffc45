use Rattle.std.proofs.Common.{◌∙◌, ◌≤◌, ◌+◌, ◌⊎◌, inl, inr, ap, sym, subst, refl, arith, List, ℕ, None, Some, take, length, eqb-true}
use Rattle.std.specs.Io.KnownBytes.{prepend_known}
use Rattle.y4m_frames.specs.Frames.{is_frame_line, line_limit}
use Rattle.y4m_frames.specs.Steps.{TakesLine}
use Rattle.y4m_frames.proofs.LineExits.{at_end, looked, not_empty, told_end, none_late, none_bad, some_late, some_bad, some_there, takes_line}
use Rattle.y4m_frames.proofs.NextLemmas.{no_frames, ended}
use Rattle.y4m_frames.proofs.frame.take_line.Goals as goal
use Rattle.y4m_frames.proofs.frame.take_line.Goals.{else-room-via-then-room+else-room-held, else-room-via-else-room}

pub returns-then-count-eq0-clause-told : goal.returns-then-count-eq0-clause-told
returns-then-count-eq0-clause-told g c = λ s told len.
    let a = c.line.new.self in
    let rest = (g.S.Shelf.told c.line.new.shelf).rest in
    let e = c.in_ok-found.ensures in
    let l = looked s a (prepend_known c.args.ahead.now (g.S.Shelf.told c.args.shelf.now).rest) rest c.in_ok-found.found c.in_ok-found.found told e.same e.found e.all refl in
    no_frames len c.args.count c.args.room s (told_end s a rest c.in_ok-found.found l (ap length (sym c.bytes-held.ensures.value) ∙ eqb-true (length c.bytes-held.result.now) 0 (sym c.is_empty.ensures ∙ c.if-is_empty.true))) c.if-count-eq0.true

pub returns-then-is_empty-clause-told : goal.returns-then-is_empty-clause-told
returns-then-is_empty-clause-told g c = λ s told len.
    let a = c.line.new.self in
    let rest = (g.S.Shelf.told c.line.new.shelf).rest in
    let e = c.in_ok-found.ensures in
    let l = looked s a (prepend_known c.args.ahead.now (g.S.Shelf.told c.args.shelf.now).rest) rest c.in_ok-found.found c.in_ok-found.found told e.same e.found e.all refl in
    ended len c.args.count c.args.room s (told_end s a rest c.in_ok-found.found l (ap length (sym c.bytes-held.ensures.value) ∙ eqb-true (length c.bytes-held.result.now) 0 (sym c.is_empty.ensures ∙ c.if-is_empty.true))) c.if-count-eq0.false

pub returns-then-room-held-clause-told : goal.returns-then-room-held-clause-told
returns-then-room-held-clause-told g c = λ s told len.
    let a = c.line.new.self in
    let rest = (g.S.Shelf.told c.line.new.shelf).rest in
    let e = c.in_ok-found.ensures in
    let l = looked s a (prepend_known c.args.ahead.now (g.S.Shelf.told c.args.shelf.now).rest) rest c.in_ok-found.found None told e.same e.found e.all c.in_default.is in
    none_late s a rest c.args.count c.args.room l c.if-room.true (omega (arith, c.if-room-held.true, ap length c.bytes-held.ensures.value)) len

pub returns-in_default-clause-told : goal.returns-in_default-clause-told
returns-in_default-clause-told g c = λ s told len.
    let a = c.line.new.self in
    let rest = (g.S.Shelf.told c.line.new.shelf).rest in
    let e = c.in_ok-found.ensures in
    let l = looked s a (prepend_known c.args.ahead.now (g.S.Shelf.told c.args.shelf.now).rest) rest c.in_ok-found.found None told e.same e.found e.all c.in_default.is in
    let fits : (line_limit ≤ c.args.room) ⊎ (length a ≤ c.args.room) = elim c.else-room.branch [
      | else-room-via-then-room+else-room-held w ↦ inr (omega (arith, w.if-room-held.false, ap length c.bytes-held.ensures.value))
      | else-room-via-else-room w ↦ inl w.if-room.false
    ] in
    none_bad s a rest c.args.count c.args.room l (λ z. not_empty (length c.bytes-held.result.now) (sym c.is_empty.ensures ∙ c.if-is_empty.false) (ap length c.bytes-held.ensures.value ∙ z)) fits len

pub returns-then-room-text-clause-told : goal.returns-then-room-text-clause-told
returns-then-room-text-clause-told g c = λ s told len.
    let a = c.line.new.self in
    let rest = (g.S.Shelf.told c.line.new.shelf).rest in
    let e = c.in_ok-found.ensures in
    let l = looked s a (prepend_known c.args.ahead.now (g.S.Shelf.told c.args.shelf.now).rest) rest c.in_ok-found.found (Some c.in-Some.text) told e.same e.found e.all c.in-Some.is in
    some_late s a rest c.args.count c.args.room c.in-Some.text l c.if-room-text.true len

pub returns-then-not-is_frame_line-clause-told : goal.returns-then-not-is_frame_line-clause-told
returns-then-not-is_frame_line-clause-told g c = λ s told len.
    let a = c.line.new.self in
    let rest = (g.S.Shelf.told c.line.new.shelf).rest in
    let e = c.in_ok-found.ensures in
    let l = looked s a (prepend_known c.args.ahead.now (g.S.Shelf.told c.args.shelf.now).rest) rest c.in_ok-found.found (Some c.in-Some.text) told e.same e.found e.all c.in-Some.is in
    some_bad s a rest c.args.count c.args.room c.in-Some.text l c.if-room-text.false (ap (λ (x : List ℕ). is_frame_line (take c.in-Some.text x)) (sym c.bytes-held.ensures.value) ∙ sym c.is_frame_line.ensures ∙ c.if-not-is_frame_line.true) len

pub returns-clause-told : goal.returns-clause-told
returns-clause-told g c = λ s told len.
    let a = c.line.new.self in
    let rest = (g.S.Shelf.told c.line.new.shelf).rest in
    let e = c.in_ok-found.ensures in
    let l = looked s a (prepend_known c.args.ahead.now (g.S.Shelf.told c.args.shelf.now).rest) rest c.in_ok-found.found (Some c.in-Some.text) told e.same e.found e.all c.in-Some.is in
    some_there s a rest c.args.count c.args.room c.in-Some.text l c.if-room-text.false (ap (λ (x : List ℕ). is_frame_line (take c.in-Some.text x)) (sym c.bytes-held.ensures.value) ∙ sym c.is_frame_line.ensures ∙ c.if-not-is_frame_line.false) len

pub returns-clause-line : goal.returns-clause-line
returns-clause-line g c =
    let e = c.in_ok-found.ensures in
    let old = prepend_known c.args.ahead.now (g.S.Shelf.told c.args.shelf.now).rest in
    let rest = (g.S.Shelf.told c.line.new.shelf).rest in
    subst (λ (d : List ℕ). TakesLine (c.in-Some.text + 1) c.args.room old (prepend_known d rest)) (sym c.skip.ensures)
    (takes_line old c.line.new.self rest c.args.room c.in-Some.text e.same (e.found ∙ c.in-Some.is) c.if-room-text.false (ap (λ (x : List ℕ). is_frame_line (take c.in-Some.text x)) (sym c.bytes-held.ensures.value) ∙ sym c.is_frame_line.ensures ∙ c.if-not-is_frame_line.false))

pub returns-then-is_empty-clause-at_end : goal.returns-then-is_empty-clause-at_end
returns-then-is_empty-clause-at_end g c =
    let e = c.in_ok-found.ensures in
    at_end c.line.new.self (g.S.Shelf.told c.line.new.shelf).rest c.in_ok-found.found e.found e.all (ap length (sym c.bytes-held.ensures.value) ∙ eqb-true (length c.bytes-held.result.now) 0 (sym c.is_empty.ensures ∙ c.if-is_empty.true))
