use Rattle.cert_found.proofs.FoundLaws.{others_have_none, record_is_found}
use Rattle.cert_found.proofs.laws.record_law.Goals as goal

pub returns-clause-found : goal.returns-clause-found
returns-clause-found c = record_is_found c.legal_law.ensures c.bury_law.ensures.seal c.record_law.ensures.recorded c.found_law.ensures.found

pub returns-clause-none : goal.returns-clause-none
returns-clause-none c = others_have_none c.legal_law.ensures c.found_law.ensures.none
