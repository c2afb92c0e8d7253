mod NullLemmas
