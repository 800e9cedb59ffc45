use Rattle.cert_chains.proofs.ChainLemmas.{intact_has_chain}
use Rattle.cert_chains.proofs.KeptLemmas.{intact_is_kept}
use Rattle.cert_chains.proofs.laws.intact_law.Goals as goal

pub returns-clause-kept : goal.returns-clause-kept
returns-clause-kept c =
    intact_is_kept (record {
      records = record {
        record_found = c.record_law.ensures.found;
        found = c.found_law.ensures.found;
        source = c.record_law-2.ensures.picture;
        samples = c.samples_law.ensures;
        step = record {
          legal = c.coded_law.ensures.headers;
          reconstructed = c.coded_law.ensures.reconstructed;
          certified = c.certified_law.ensures;
          levels = c.requantised_law.ensures.local;
          pictures = c.locality_law.ensures.pictures;
        };
      };
      references = c.references_law.ensures;
      fits = c.steps_law.ensures.fits;
      refers = c.steps_law.ensures.refers;
    })

pub returns-clause-chain : goal.returns-clause-chain
returns-clause-chain c = intact_has_chain c.record_law.ensures.found
