mod UidLemmas
