-- A command never says that words are of no form.
use Rattle.std.proofs.Common.{◌≡◌, subst}
use Rattle.mv_terms.specs.declared.status.Status.{Status}
use Rattle.mv_terms.specs.declared.status.Status.TheVariants as status
use Rattle.recoder_cli.specs.Outcomes.{command_of}
use Rattle.recoder_cli.specs.Words.{Form, decode, cut, recode, audit}

pub no_words : (form : Form) (s : Status) → (command_of form).is_status s → s ≡ status.Words → ⊥
no_words (decode name) s kind is = subst (λ (x : Status). (command_of (decode name)).is_status x) is kind
no_words (cut list) s kind is = subst (λ (x : Status). (command_of (cut list)).is_status x) is kind
no_words (recode name scale) s kind is = subst (λ (x : Status). (command_of (recode name scale)).is_status x) is kind
no_words (audit name) s kind is = subst (λ (x : Status). (command_of (audit name)).is_status x) is kind
