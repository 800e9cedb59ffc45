-- What each form of the words runs.
use Rattle.mv_ends.specs.Commands.{Command}
use Rattle.cut_list.specs.Command.{cut_command}
use Rattle.job_audit.specs.Command.{audit_command}
use Rattle.job_decode.specs.Command.{decode_command}
use Rattle.job_recode.specs.Command.{recode_command}
use Rattle.recoder_cli.specs.Words.{Form, decode, cut, recode, audit}

-- the command of a form: what it answers and writes, and what is known where one of its endpoints fails
abbrev pub command_of : Form → Command
command_of (decode name) = decode_command name
command_of (cut list) = cut_command list
command_of (recode name scale) = recode_command scale name
command_of (audit name) = audit_command name
