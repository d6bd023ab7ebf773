-- For proofs: when no packet meets two clauses, by the clauses alone.
use Rattle.std.specs.Prelude.{ℕ, ◌≡◌, ◌⊎◌, List, Bool, true, false, not, ◌&&◌, ◌||◌, ◌==◌, nat_lt, bit_and, Some, None}
use Rattle.std.specs.List.{list_any}
use Rattle.std.specs.Option.{option_map_or}
use Rattle.policy_text.specs.declared.clause.Clause.{Clause}
use Rattle.policy_text.specs.declared.clause.Clause.TheVariants.{Src, Dst, Src6, Dst6, Sport, Dport, Proto, TagId, NoTag, Version4, Version6, Flags}
use Rattle.policy_text.specs.declared.clause.Match.{Match}
use Rattle.policy_text.specs.declared.seen.Seen.{Seen}
use Rattle.policy_lint.specs.declared.versions.Version.TheVariants.{Ipv4, Ipv6}
use Rattle.policy_lint.specs.Implying.{lies_in, lies_in6}
use Rattle.policy_lint.specs.Versions.{Lacks}

-- TCP and UDP have ports
abbrev pub has_ports : ℕ → Bool
has_ports protocol = (protocol == 6) || (protocol == 17)

-- prefixes that share no address: neither lies in the other
abbrev pub are_apart : ℕ → ℕ → ℕ → ℕ → Bool
are_apart prefix bits other count = not (lies_in prefix bits other count) && not (lies_in other count prefix bits)

abbrev pub are_apart6 : ℕ → ℕ → ℕ → ℕ → Bool
are_apart6 prefix bits other count = not (lies_in6 prefix bits other count) && not (lies_in6 other count prefix bits)

-- ranges that share no port
abbrev pub are_parted : ℕ → ℕ → ℕ → ℕ → Bool
are_parted low high least greatest = nat_lt high least || nat_lt greatest low

-- flags of which some bit has to be 1 in the one and 0 in the other
abbrev pub are_contrary : ℕ → ℕ → ℕ → ℕ → Bool
are_contrary mask set other some = not (bit_and set other == bit_and some mask)

-- no packet meets both clauses
abbrev pub opposes : Clause → Clause → Bool
opposes (Src prefix bits) (Src other count) = are_apart prefix bits other count
opposes (Src prefix bits) (Src6 other count) = true
opposes (Src prefix bits) (Dst6 other count) = true
opposes (Dst prefix bits) (Dst other count) = are_apart prefix bits other count
opposes (Dst prefix bits) (Src6 other count) = true
opposes (Dst prefix bits) (Dst6 other count) = true
opposes (Src6 prefix bits) (Src6 other count) = are_apart6 prefix bits other count
opposes (Src6 prefix bits) (Src other count) = true
opposes (Src6 prefix bits) (Dst other count) = true
opposes (Dst6 prefix bits) (Dst6 other count) = are_apart6 prefix bits other count
opposes (Dst6 prefix bits) (Src other count) = true
opposes (Dst6 prefix bits) (Dst other count) = true
opposes (Sport low high) (Sport least greatest) = are_parted low high least greatest
opposes (Sport low high) (Proto p) = not (has_ports p)
opposes (Dport low high) (Dport least greatest) = are_parted low high least greatest
opposes (Dport low high) (Proto p) = not (has_ports p)
opposes (Proto p) (Sport low high) = not (has_ports p)
opposes (Proto p) (Dport low high) = not (has_ports p)
opposes (Proto p) (Proto other) = not (p == other)
opposes (TagId id) (TagId other) = not (id == other)
opposes (TagId id) NoTag = true
opposes NoTag (TagId id) = true
opposes Version4 Version6 = true
opposes Version4 (Src6 prefix bits) = true
opposes Version4 (Dst6 prefix bits) = true
opposes Version6 Version4 = true
opposes Version6 (Src prefix bits) = true
opposes Version6 (Dst prefix bits) = true
opposes (Src prefix bits) Version6 = true
opposes (Dst prefix bits) Version6 = true
opposes (Src6 prefix bits) Version4 = true
opposes (Dst6 prefix bits) Version4 = true
opposes (Flags mask set) (Flags other some) = are_contrary mask set other some
opposes (Flags mask set) (Proto p) = not (p == 6)
opposes (Proto p) (Flags mask set) = not (p == 6)
opposes clause other = false

-- one of these clauses excludes this one
abbrev pub is_opposed : List Clause → Clause → Bool
is_opposed clauses clause = list_any (opposes clause) clauses

-- some two of the clauses exclude each other
abbrev pub clash : Match → Bool
clash fit = list_any (is_opposed fit.clauses) fit.clauses

-- What is seen of a packet: it has addresses of one version of IP at most, ports where its protocol has them, and
-- flags where its protocol is TCP.
pub record IsOfPacket (seen : Seen) : Type 0 where
  pub one_version : Lacks Ipv4 seen ⊎ Lacks Ipv6 seen
  pub ports : (option_map_or has_ports seen.proto false ≡ true) ⊎ ((seen.sport ≡ None) × (seen.dport ≡ None))
  pub flags : (seen.proto ≡ Some 6) ⊎ (seen.tcp_flags ≡ None)
