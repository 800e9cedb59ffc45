use Rattle.enc_guided.specs.Recoded.{pictures_of_steps}
use Rattle.enc_guided.specs.Stands.{high_of, wide_of}
use Rattle.enc_guided.proofs.StepLemmas.{last_held}
use Rattle.enc_guided.proofs.coder.PictureCoder.picture.Goals as goal

pub returns : goal.returns
returns c header scale s before coded =
    let coder = c.args.self.now in
    c.last.ensures.picture (wide_of coder.header) (high_of coder.header) s.decoded.picture (pictures_of_steps before) (last_held coder header scale s before coded)
