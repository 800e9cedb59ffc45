mod BitLemmas
mod ReadLemmas
mod OneLemmas
