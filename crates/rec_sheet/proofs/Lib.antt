mod PlaceLemmas
mod ReadLemmas
mod WriteLemmas
mod OneLemmas
