-- For proofs: when whatever meets some clauses meets others, by the clauses alone.
use Rattle.std.specs.Prelude.{ℕ, ◌&&◌, ◌==◌, Bool, true, false, nat_le, bit_and}
use Rattle.std.specs.List.{list_all, list_any}
use Rattle.policy_text.specs.declared.clause.Clause.{Clause}
use Rattle.policy_text.specs.declared.clause.Clause.TheVariants.{Src, Dst, Src6, Dst6, Sport, Dport, Proto, TagId, NoTag, Version4, Version6, Flags}
use Rattle.policy_text.specs.declared.clause.Match.{Match}
use Rattle.policy_text.specs.Meeting.{is_within, is_within6}

-- the prefix lies in the other: it has at least as many bits, and begins with those of the other
abbrev pub lies_in : ℕ → ℕ → ℕ → ℕ → Bool
lies_in prefix bits other count = nat_le count bits && is_within other count prefix

abbrev pub lies_in6 : ℕ → ℕ → ℕ → ℕ → Bool
lies_in6 prefix bits other count = nat_le count bits && is_within6 other count prefix

-- the first range lies in the second
abbrev pub is_part : ℕ → ℕ → ℕ → ℕ → Bool
is_part low high least greatest = nat_le least low && nat_le high greatest

-- the first bits that are looked at hold the second, and are to be 1 where those are
abbrev pub asks_more : ℕ → ℕ → ℕ → ℕ → Bool
asks_more mask set fewer some = (bit_and mask fewer == fewer) && (bit_and set fewer == some)

-- what meets the first clause meets the second
abbrev pub implies : Clause → Clause → Bool
implies (Src prefix bits) (Src other count) = lies_in prefix bits other count
implies (Dst prefix bits) (Dst other count) = lies_in prefix bits other count
implies (Src6 prefix bits) (Src6 other count) = lies_in6 prefix bits other count
implies (Dst6 prefix bits) (Dst6 other count) = lies_in6 prefix bits other count
implies (Sport low high) (Sport least greatest) = is_part low high least greatest
implies (Dport low high) (Dport least greatest) = is_part low high least greatest
implies (Proto p) (Proto other) = p == other
implies (TagId id) (TagId other) = id == other
implies NoTag NoTag = true
implies Version4 Version4 = true
implies Version6 Version6 = true
implies (Flags mask set) (Flags fewer some) = asks_more mask set fewer some
implies clause other = false

-- what meets all clauses of the second meets all of the first, since one of the second implies each
abbrev pub covers : Match → Match → Bool
covers earlier later = list_all (λ e. list_any (λ c. implies c e) later.clauses) earlier.clauses
