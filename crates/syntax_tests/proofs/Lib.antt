mod LargestLemmas
mod MatrixLemmas
mod WritableBlocks
mod WritableMacroblocks
