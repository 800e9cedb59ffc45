use Rattle.std.proofs.Common.{◌≡◌, ◌+◌, ◌-◌, ◌∙◌, ◌<◌, ◌∷◌, ◌++◌, [], None, Some, Err, ap, sym, subst, length}
use Rattle.y4m_frames.specs.Reading.{Reading, Hands}
use Rattle.y4m_frames.specs.Frames.{frame_len}
use Rattle.y4m_frames.specs.Behind.{read_limit, IsBehind, HasFrames, up_to, AnswersBehind}
use Rattle.y4m_frames.proofs.BehindLaws.{hands_behind, ends_behind, halts_behind}
use Rattle.y4m_frames.proofs.ReaderLemmas.{hands}
use Rattle.y4m_frames.proofs.reader.FrameReader.next.Goals as goal

pub returns-in-Ok-Some-clause-hands : goal.returns-in-Ok-Some-clause-hands
returns-in-Ok-Some-clause-hands g c = λ _.
    let i = c.self.inside in
    let old : Reading = record { header = i.header; line = i.line.items; count = i.count; room = i.room; ahead = i.ahead; failed = i.failed } in
    let len_is : length c.args.frame.now ≡ frame_len old.header = c.requires ∙ ap (λ (r : Reading). frame_len r.header) (sym c.self.view_is) in
    let new : Reading = record old { count = i.count + 1; room = i.room - c.in-Ok-Some.taken; ahead = c.take_frame.new.ahead } in
    subst (λ (o : Reading). Hands o new (g.S.Shelf.told c.args.shelf.now).rest (g.S.Shelf.told c.take_frame.new.shelf).rest c.take_frame.new.samples) c.self.view_is
    (hands old c.take_frame.new.ahead c.in-Ok-Some.taken (length c.args.frame.now) (g.S.Shelf.told c.args.shelf.now).rest (g.S.Shelf.told c.take_frame.new.shelf).rest c.take_frame.new.samples len_is
    (rw c.in-Ok-Some.field-0-is at c.in-Ok-Some.ensures.frame))

pub returns-in-Ok-None-clause-behind : goal.returns-in-Ok-None-clause-behind
returns-in-Ok-None-clause-behind g c = λ file frames.
    let i = c.self.inside in
    let old : Reading = record { header = i.header; line = i.line.items; count = i.count; room = i.room; ahead = i.ahead; failed = i.failed } in
    let len_is : length c.args.frame.now ≡ frame_len old.header = c.requires ∙ ap (λ (r : Reading). frame_len r.header) (sym c.self.view_is) in
    let rest = (g.S.Shelf.told c.args.shelf.now).rest in
    let left = (g.S.Shelf.told c.take_frame.new.shelf).rest in
    subst (λ (o : Reading). IsBehind o rest file frames → HasFrames o file (up_to frames None) × (left ≡ Some [])) c.self.view_is
    (ends_behind old c.take_frame.new.ahead (length c.args.frame.now) c.in-Ok-None.field-0 rest left file frames len_is c.in-Ok-None.field-0-is c.in-Ok-None.ensures.told c.in-Ok-None.ensures.ends)

pub returns-in-Ok-Some-clause-behind : goal.returns-in-Ok-Some-clause-behind
returns-in-Ok-Some-clause-behind g c = λ file frames.
    let i = c.self.inside in
    let old : Reading = record { header = i.header; line = i.line.items; count = i.count; room = i.room; ahead = i.ahead; failed = i.failed } in
    let len_is : length c.args.frame.now ≡ frame_len old.header = c.requires ∙ ap (λ (r : Reading). frame_len r.header) (sym c.self.view_is) in
    let rest = (g.S.Shelf.told c.args.shelf.now).rest in
    let left = (g.S.Shelf.told c.take_frame.new.shelf).rest in
    let new : Reading = record old { count = i.count + 1; room = i.room - c.in-Ok-Some.taken; ahead = c.take_frame.new.ahead } in
    let handed = hands old c.take_frame.new.ahead c.in-Ok-Some.taken (length c.args.frame.now) rest left c.take_frame.new.samples len_is (rw c.in-Ok-Some.field-0-is at c.in-Ok-Some.ensures.frame) in
    let few : length new.ahead < read_limit = rw c.in-Ok-Some.field-0-is at c.in-Ok-Some.ensures.less in
    subst (λ (o : Reading). IsBehind o rest file frames → IsBehind new left file (frames ++ c.take_frame.new.samples ∷ [])) c.self.view_is
    (hands_behind old new rest left file c.take_frame.new.samples frames handed c.in_default.is few)

pub returns-in-Err-clause-behind : goal.returns-in-Err-clause-behind
returns-in-Err-clause-behind g c = λ file frames.
    let i = c.self.inside in
    let old : Reading = record { header = i.header; line = i.line.items; count = i.count; room = i.room; ahead = i.ahead; failed = i.failed } in
    let len_is : length c.args.frame.now ≡ frame_len old.header = c.requires ∙ ap (λ (r : Reading). frame_len r.header) (sym c.self.view_is) in
    let rest = (g.S.Shelf.told c.args.shelf.now).rest in
    let left = (g.S.Shelf.told c.take_frame.new.shelf).rest in
    let new : Reading = record old { ahead = c.take_frame.new.ahead; failed = Some c.in-Err.halt } in
    subst (λ (o : Reading). IsBehind o rest file frames → AnswersBehind o new left file frames c.take_frame.new.samples (Err c.in-Err.halt)) c.self.view_is
    (halts_behind old new (length c.args.frame.now) c.in-Err.halt rest left file c.take_frame.new.samples frames len_is c.in-Err.ensures.told c.in-Err.ensures.part)
