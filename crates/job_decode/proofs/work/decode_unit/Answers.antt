use Rattle.std.proofs.Common.{◌*◌, ◌∙◌, sym, refl}
use Rattle.mv_terms.specs.CodedPicture.{frame_macroblocks}
use Rattle.mv_terms.specs.UnitLists.{lent_unit}
use Rattle.cert_picture.specs.FrameFileOf.{frames_of}
use Rattle.job_decode.proofs.Works.{are_their_elements, decoded, frames_for, size_is}
use Rattle.job_decode.proofs.work.decode_unit.Goals as goal

pub unit-requires-clause-elements : goal.unit-requires-clause-elements
unit-requires-clause-elements c = are_their_elements c.args.unit.now.slices.now c.requires.slices

pub make-requires-clause-legal : goal.make-requires-clause-legal
make-requires-clause-legal c =
    let before = c.requires.stands.0 in
    let m = c.requires.stands.1 in
    let d = c.in_ok-shown.ensures.decodes m.stands.mb_wide m.stands.mb_high before m.stands.decoder m.fits in
    c.coded-coded.ensures.legal m.stands.mb_wide m.stands.mb_high d.unit before d.accepted

pub make-requires-clause-stands : goal.make-requires-clause-stands
make-requires-clause-stands c =
    let before = c.requires.stands.0 in
    let m = c.requires.stands.1 in
    let d = c.in_ok-shown.ensures.decodes m.stands.mb_wide m.stands.mb_high before m.stands.decoder m.fits in
    let lent = c.coded-coded.ensures.lent m.stands.mb_wide m.stands.mb_high d.unit before d.accepted in
    let legal = c.coded-coded.ensures.legal m.stands.mb_wide m.stands.mb_high d.unit before d.accepted in
    let size = size_is before d.unit m.stands.mb_wide m.stands.mb_high c.coded-coded.result lent legal.legal.head.frame legal.picture d.accepted.wide d.accepted.high in
    (d.unit, before, frames_for (frame_macroblocks c.coded-coded.result.head.now) (m.stands.mb_wide * m.stands.mb_high) c.args.work.now.frames (frames_of before) size.count m.stands.frames, lent, d.accepts)

pub make-requires-clause-room : goal.make-requires-clause-room
make-requires-clause-room c =
    let before = c.requires.stands.0 in
    let m = c.requires.stands.1 in
    let d = c.in_ok-shown.ensures.decodes m.stands.mb_wide m.stands.mb_high before m.stands.decoder m.fits in
    let lent = c.coded-coded.ensures.lent m.stands.mb_wide m.stands.mb_high d.unit before d.accepted in
    let legal = c.coded-coded.ensures.legal m.stands.mb_wide m.stands.mb_high d.unit before d.accepted in
    m.stands.next_room ∙ sym (size_is before d.unit m.stands.mb_wide m.stands.mb_high c.coded-coded.result lent legal.legal.head.frame legal.picture d.accepted.wide d.accepted.high).samples

pub returns : goal.returns
returns c = λ before m.
    let d = c.in_ok-shown.ensures.decodes m.stands.mb_wide m.stands.mb_high before m.stands.decoder m.fits in
    let lent = c.coded-coded.ensures.lent m.stands.mb_wide m.stands.mb_high d.unit before d.accepted in
    let legal = c.coded-coded.ensures.legal m.stands.mb_wide m.stands.mb_high d.unit before d.accepted in
    let size = size_is before d.unit m.stands.mb_wide m.stands.mb_high c.coded-coded.result lent legal.legal.head.frame legal.picture d.accepted.wide d.accepted.high in
    let maker = frames_for (frame_macroblocks c.coded-coded.result.head.now) (m.stands.mb_wide * m.stands.mb_high) c.args.work.now.frames (frames_of before) size.count m.stands.frames in
    decoded c.args.work.now (record { decoder = c.unit.new.self; frames = c.make.new.self; held = c.args.work.now.held; next = c.make.new.to; holds = c.args.work.now.holds })
    before (lent_unit c.args.unit.now) c.in_ok-shown.shown c.coded-coded.result m d size (c.make.ensures.made d.unit before maker lent d.accepts.lists_are) c.make.ensures.length refl refl
