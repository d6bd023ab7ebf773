-- For proofs: what a rule requires of a packet's IPv4 addresses.
use Rattle.std.specs.Prelude.{ℕ, ◌-◌, ◌^◌, Bool, ◌==◌, ◌&&◌, Option, fold, bit_and}
use Rattle.std.specs.Option.{option_map_or}
use Rattle.policy_text.specs.declared.clause.Clause.{Clause}
use Rattle.policy_text.specs.declared.clause.Clause.TheVariants.{Src, Dst}
use Rattle.policy_text.specs.declared.clause.Match.{Match}
use Rattle.policy_text.specs.declared.seen.Seen.{Seen}
use Rattle.nf_filter.specs.declared.guard.Prefix.{Prefix}
use Rattle.nf_filter.specs.declared.guard.Guard.{Guard}

-- the first bits of 32
abbrev pub mask_of : ℕ → ℕ
mask_of bits = 4294967296 - 2 ^ (32 - bits)

abbrev pub prefix_of : ℕ → ℕ → Prefix
prefix_of prefix bits = record { mask = mask_of bits; bits = bit_and prefix (mask_of bits) }

-- the address has the bits; if there is none, the bits of 0 are compared, which is never wrong
abbrev pub covers : Prefix → Option ℕ → Bool
covers prefix address = bit_and (option_map_or (λ a. a) address 0) prefix.mask == prefix.bits

abbrev pub with_clause : Guard → Clause → Guard
with_clause guard (Src prefix bits) = record guard { source = prefix_of prefix bits }
with_clause guard (Dst prefix bits) = record guard { destination = prefix_of prefix bits }
with_clause guard clause = guard

-- a guard that requires nothing
abbrev pub open_guard : Guard
open_guard = record { source = record { mask = 0; bits = 0 }; destination = record { mask = 0; bits = 0 } }

-- the guard of clauses
abbrev pub guard_of : Match → Guard
guard_of fit = fold with_clause open_guard fit.clauses

-- a packet may meet the clauses
abbrev pub lets : Guard → Seen → Bool
lets guard seen = covers guard.source seen.src && covers guard.destination seen.dst
