mod AnchorLemmas
mod ChainLemmas
mod TextLemmas
mod LineLemmas
mod FileLemmas
