mod ByteLemmas
