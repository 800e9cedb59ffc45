use Rattle.std.proofs.Common.{arith, refl}
use Rattle.mv_planes.specs.declared.picture.Plane.TheVariants.{Cb, Cr}
use Rattle.rec_bury.proofs.ExhumeLemmas.{byte_place, cb_sample, cr_sample}
use Rattle.rec_bury.proofs.slots.byte_at.Goals as goal
use Rattle.rec_bury.proofs.slots.byte_at.Goals.{then-b-lt16, else-b-lt16}

pub returns : goal.returns
returns c =
    elim c.if-b-lt16.branch [
      | then-b-lt16 w ↦ byte_place c.args.wide c.args.high _ c.args.x c.args.y c.args.b c.if-b-lt16.start _ Cb c.requires.column c.requires.inside (λ n e. cb_sample n (let low = w.if-b-lt16.true in omega (arith, low))) refl w.start-is c.byte_of_pairs.ensures
      | else-b-lt16 w ↦ byte_place c.args.wide c.args.high _ c.args.x c.args.y c.args.b c.if-b-lt16.start _ Cr c.requires.column c.requires.inside (λ n e. cr_sample n (let high = w.if-b-lt16.false in omega (arith, high))) refl w.start-is c.byte_of_pairs.ensures
    ]
