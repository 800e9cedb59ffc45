use Rattle.recoder_cli.proofs.Statuses.{no_words}
use Rattle.recoder_cli.specs.Words.{decode, cut, recode, audit}
use Rattle.recoder_cli.proofs.commands.perform.Goals as goal

pub returns-in-Decode-clause-runs : goal.returns-in-Decode-clause-runs
returns-in-Decode-clause-runs g c = rw c.in-Decode.is c.decode_job.ensures.runs

pub returns-in-Decode-clause-form : goal.returns-in-Decode-clause-form
returns-in-Decode-clause-form g c = no_words (decode c.in-Decode.name.now) c.decode_job.result c.decode_job.ensures.runs.kind

pub returns-in-Cut-clause-runs : goal.returns-in-Cut-clause-runs
returns-in-Cut-clause-runs g c = rw c.in-Cut.is c.cut_job.ensures.runs

pub returns-in-Cut-clause-form : goal.returns-in-Cut-clause-form
returns-in-Cut-clause-form g c = no_words (cut c.in-Cut.list.now) c.cut_job.result c.cut_job.ensures.runs.kind

pub returns-in-Recode-clause-runs : goal.returns-in-Recode-clause-runs
returns-in-Recode-clause-runs g c = rw c.in-Recode.is c.recode_job.ensures.runs

pub returns-in-Recode-clause-form : goal.returns-in-Recode-clause-form
returns-in-Recode-clause-form g c = no_words (recode c.in-Recode.name.now c.in-Recode.scale) c.recode_job.result c.recode_job.ensures.runs.kind

pub returns-in-Audit-clause-runs : goal.returns-in-Audit-clause-runs
returns-in-Audit-clause-runs g c = rw c.in-Audit.is c.audit_job.ensures.runs

pub returns-in-Audit-clause-form : goal.returns-in-Audit-clause-form
returns-in-Audit-clause-form g c = no_words (audit c.in-Audit.name.now) c.audit_job.result c.audit_job.ensures.runs.kind
