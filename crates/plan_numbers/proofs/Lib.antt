mod ListLemmas
mod CountLemmas
mod KeptLemmas
mod NumberLemmas
