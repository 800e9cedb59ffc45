use Rattle.std.proofs.Common.{◌∙◌, sym}
use Rattle.std.proofs.lemmas.Bool.{false≢true}
use Rattle.rec_legal.specs.Conditions.{file_size}
use Rattle.rec_reader.proofs.FoundLemmas.{known_seal, none_said, none_sealed}
use Rattle.rec_reader.proofs.parts.find_parts.Goals as goal

pub returns-in_err-record-clause-found : goal.returns-in_err-record-clause-found
returns-in_err-record-clause-found c =
    rw c.from_residual.ensures (none_said (file_size c.args.file.now) c.args.frame.now c.exhume.new.slots c.exhume.new.sheet c.found_law.ensures.found c.exhume.ensures.slots c.exhume.ensures.sheet c.in_err-record.ensures.meaning)

pub returns-then-not-holds-clause-found : goal.returns-then-not-holds-clause-found
returns-then-not-holds-clause-found c =
    none_sealed (file_size c.args.file.now) c.args.frame.now c.found_law.ensures.found (λ holds. false≢true (sym c.if-not-holds.true ∙ c.holds.ensures.1 holds))

pub holds-requires-clause-known : goal.holds-requires-clause-known
holds-requires-clause-known c = λ known. known_seal (file_size c.args.file.now) c.args.frame.now c.found_law.ensures.found (c.requires.known known)
