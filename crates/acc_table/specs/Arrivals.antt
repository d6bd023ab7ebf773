-- For proofs: what has arrived so far for each packet, by branch: a finite map from a packet's number.
use Rattle.std.specs.Prelude.{ℕ, zero, suc, ◌*◌, ◌%◌, ◌<◌, ◌⊎◌, nat_eq, nat_le, cond, count_by, List, Option, Some, None, IsSome, replicate, slice_set, unwrap_or, Contains, refl}
use Rattle.std.specs.Ordering.{nat_cmp}
use Rattle.std.specs.Coded.{Coded, code_by, coded×, coded_ℕ, coded_list, coded_option}
use Rattle.std.specs.FinMap as finite

-- room for this number of packets, of this number of branches each, and the packets for which something has arrived:
-- by the packet's number what has arrived for it, by branch
pub record Table (T : Type 0) : Type 0 where
  pub entries : ℕ
  pub branches : ℕ
  pub waiting : finite.FinMap nat_cmp (List (Option T))

abbrev pub table_code : {T : Type 0} → Coded T → Coded (Table T)
table_code {T} code =
    code_by (ℕ × (ℕ × finite.FinMap nat_cmp (List (Option T))))
    (coded× coded_ℕ (coded× coded_ℕ (finite.code coded_ℕ (coded_list (coded_option code)))))
    (λ t. (t.entries, (t.branches, t.waiting)))
    (λ p. record { entries = p.0; branches = p.1.0; waiting = p.1.1 })
    (λ _. refl)

-- nothing has arrived from any branch
abbrev pub nothing : {T : Type 0} → ℕ → List (Option T)
nothing branches = replicate branches None

-- what has arrived for the packet of this number, by branch
abbrev pub arrivals : {T : Type 0} → Table T → ℕ → List (Option T)
arrivals t pid = unwrap_or (finite.get t.waiting pid) (nothing t.branches)

-- what has arrived for it with the value of one more branch
abbrev pub with_arrival : {T : Type 0} → Table T → ℕ → ℕ → T → List (Option T)
with_arrival t pid branch value = slice_set (arrivals t pid) branch (Some value)

-- something has arrived for it, and not all
abbrev pub IsOpen : {T : Type 0} → Table T → ℕ → Type 0
IsOpen t pid = IsSome (finite.get t.waiting pid)

abbrev pub open_count : {T : Type 0} → Table T → ℕ
open_count t = finite.len t.waiting

abbrev pub with_waiting : {T : Type 0} → Table T → finite.FinMap nat_cmp (List (Option T)) → Table T
with_waiting t waiting = record t { waiting = waiting }

-- the table with this instead of what had arrived for the packet
abbrev pub keeping : {T : Type 0} → Table T → ℕ → List (Option T) → Table T
keeping t pid arrived = with_waiting t (finite.insert t.waiting pid arrived)

-- the table without the packet
abbrev pub forgetting : {T : Type 0} → Table T → ℕ → Table T
forgetting t pid = with_waiting t (finite.remove t.waiting pid)

-- something more may arrive for this packet: it is open, or there is a place for it
abbrev pub HasRoomFor : {T : Type 0} → Table T → ℕ → Type 0
HasRoomFor t pid = IsOpen t pid ⊎ (open_count t < t.entries)

-- all open packets are among these
abbrev pub IsOpenAmong : {T : Type 0} → Table T → List ℕ → Type 0
IsOpenAmong t pids = (p : ℕ) → IsOpen t p → Contains pids p

-- the first of a number and its doubles, at most this many, that is at least this one
unfoldable pub doubled_to : ℕ → ℕ → ℕ → ℕ
doubled_to zero power least = power
doubled_to (suc more) power least = cond (nat_le least power) power (doubled_to more (2 * power) least)

-- the number of buckets: the least power of two that is at least the number of entries
unfoldable pub heads_for : ℕ → ℕ
heads_for entries = doubled_to 16 1 entries

-- the number of packets that are open in this packet's bucket
abbrev pub bucket_len : {T : Type 0} → Table T → ℕ → ℕ
bucket_len t pid = count_by (λ p. nat_eq (p % heads_for t.entries) (pid % heads_for t.entries)) (finite.keys t.waiting)
