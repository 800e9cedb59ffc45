use Rattle.recoder_cli.proofs.CleanEnds.{said_by}
use Rattle.recoder_cli.proofs.say.say_all.Goals as goal

pub returns : goal.returns
returns g c = said_by _ _ _ c.send_all.result c.send_all.ensures
