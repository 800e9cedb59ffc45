mod RecoderLemmas
