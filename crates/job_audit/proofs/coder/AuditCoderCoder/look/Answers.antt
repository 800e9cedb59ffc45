use Rattle.job_audit.proofs.coder.AuditCoderCoder.look.Goals as goal

pub returns-clause-stands : goal.returns-clause-stands
returns-clause-stands c = λ frames numbered steps stands few. (c.look.ensures.stands c.args.self.now.header frames numbered stands.0 few, stands.1)

pub returns-clause-numbers : goal.returns-clause-numbers
returns-clause-numbers c = λ frames numbered steps stands. c.look.ensures.numbers c.args.self.now.header frames numbered stands.0
