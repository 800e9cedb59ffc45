-- A command of the code as a form of words.
use Rattle.recoder_cli.specs.Words.{Form, decode, cut, recode, audit}
use Rattle.recoder_cli.specs.declared.words.Command.{Command}
use Rattle.recoder_cli.specs.declared.words.Command.TheVariants.{Decode, Cut, Recode, Audit}

abbrev pub form_given : Command → Form
form_given (Decode name) = decode name.now
form_given (Cut list) = cut list.now
form_given (Recode name scale) = recode name.now scale
form_given (Audit name) = audit name.now
