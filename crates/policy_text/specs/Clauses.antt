-- Believed: the clauses of a match: a leading word and a value each, or a leading word and flags.
use Rattle.std.specs.Prelude.{◌≡◌, ℕ, ◌+◌, List, [], ◌∷◌, ◌++◌, length, drop, Bool, if◌then◌else◌, ◌==◌, ◌&&◌, not, nat_le, bit_and, bit_or, slice_index, Option, Some, None, Result, Ok, Err, codes}
use Rattle.std.specs.Option.{option_map, option_and_then, option_or}
use Rattle.std.specs.List.{list_any}
use Rattle.std.specs.Str.{bytes_eq}
use Rattle.policy_text.specs.declared.clause.Clause.{Clause}
use Rattle.policy_text.specs.declared.clause.Clause.TheVariants.{Src, Dst, Src6, Dst6, Sport, Dport, Proto, TagId, NoTag, Version4, Version6, Flags}
use Rattle.policy_text.specs.declared.clause.Match.{Match}
use Rattle.policy_text.specs.declared.fault.MatchFault.{MatchFault}
use Rattle.policy_text.specs.declared.fault.MatchFault.TheVariants.{BadWord, OutOfMemory}
use Rattle.policy_text.specs.Addresses6.{prefix6_of}
use Rattle.policy_text.specs.Latest.{latest, change_latest}
use Rattle.policy_text.specs.Steps.{◌>>=◌, some_or}
use Rattle.policy_text.specs.Values.{number_of, prefix_of, range_of}

-- the leading word of a clause
abbrev pub lead_of : Clause → List ℕ
lead_of (Src address bits) = codes "src"
lead_of (Dst address bits) = codes "dst"
lead_of (Src6 address bits) = codes "src"
lead_of (Dst6 address bits) = codes "dst"
lead_of (Sport low high) = codes "sport"
lead_of (Dport low high) = codes "dport"
lead_of (Proto p) = codes "proto"
lead_of (TagId n) = codes "tag"
lead_of NoTag = codes "tag"
lead_of Version4 = codes "version"
lead_of Version6 = codes "version"
lead_of (Flags mask set) = codes "flags"

abbrev pub leads : List (List ℕ)
leads = codes "src" ∷ codes "dst" ∷ codes "sport" ∷ codes "dport" ∷ codes "proto" ∷ codes "tag" ∷ codes "version" ∷ codes "flags" ∷ []

-- a prefix of either version of IP
abbrev pub source_of : List ℕ → Option Clause
source_of value = option_or (option_map (λ p. Src p.0 p.1) (prefix_of value)) (option_map (λ p. Src6 p.0 p.1) (prefix6_of value))

abbrev pub destination_of : List ℕ → Option Clause
destination_of value = option_or (option_map (λ p. Dst p.0 p.1) (prefix_of value)) (option_map (λ p. Dst6 p.0 p.1) (prefix6_of value))

-- IANA protocol numbers: 6 is TCP, 17 is UDP
abbrev pub protocol_of : List ℕ → Option ℕ
protocol_of value = if bytes_eq value (codes "tcp") then Some 6 else if bytes_eq value (codes "udp") then Some 17 else number_of 20 255 value

-- a VLAN id of 12 bits (IEEE 802.1Q), or no tag
abbrev pub tag_of : List ℕ → Option Clause
tag_of value = if bytes_eq value (codes "none") then Some NoTag else option_map (λ n. TagId n) (number_of 20 4095 value)

-- a version of IP
abbrev pub version_of : List ℕ → Option Clause
version_of value = if bytes_eq value (codes "4") then Some Version4 else if bytes_eq value (codes "6") then Some Version6 else None

-- TCP's control bits (RFC 793, 3.1), from the lowest
abbrev pub bit_of : List ℕ → Option ℕ
bit_of word =
    if bytes_eq word (codes "fin") then Some 1 else
    if bytes_eq word (codes "syn") then Some 2 else
    if bytes_eq word (codes "rst") then Some 4 else
    if bytes_eq word (codes "psh") then Some 8 else
    if bytes_eq word (codes "ack") then Some 16 else
    if bytes_eq word (codes "urg") then Some 32 else None

-- with an exclamation mark in front
abbrev pub is_negated : List ℕ → Bool
is_negated word = nat_le 1 (length word) && (slice_index word 0 == 33)

-- a flag: its bit, and the value that the bit has to have, which is 0 with an exclamation mark in front
abbrev pub flag_of : List ℕ → Option (ℕ × ℕ)
flag_of word = if is_negated word then option_map (λ bit. (bit, 0)) (bit_of (drop 1 word)) else option_map (λ bit. (bit, bit)) (bit_of word)

-- flags with one more, whose bit none of them has
abbrev pub with_flag : List ℕ → Clause → Option Clause
with_flag word (Flags mask set) = option_and_then (λ f. if bit_and mask f.0 == 0 then Some (Flags (bit_or mask f.0) (bit_or set f.1)) else None) (flag_of word)
with_flag word clause = None

-- what a leading word and its value say, which is the first of its flags if it takes flags
abbrev pub clause_of : List ℕ → List ℕ → Option Clause
clause_of lead value =
    if bytes_eq lead (codes "src") then source_of value else
    if bytes_eq lead (codes "dst") then destination_of value else
    if bytes_eq lead (codes "sport") then option_map (λ r. Sport r.0 r.1) (range_of value) else
    if bytes_eq lead (codes "dport") then option_map (λ r. Dport r.0 r.1) (range_of value) else
    if bytes_eq lead (codes "proto") then option_map (λ p. Proto p) (protocol_of value) else
    if bytes_eq lead (codes "tag") then tag_of value else
    if bytes_eq lead (codes "version") then version_of value else
    if bytes_eq lead (codes "flags") then option_map (λ f. Flags f.0 f.1) (flag_of value) else None

-- a leading word may occur once
abbrev pub may_lead : List Clause → List ℕ → Bool
may_lead before word = list_any (bytes_eq word) leads && not (list_any (λ c. bytes_eq (lead_of c) word) before)

-- the clauses with one more flag, if the last of them takes flags
abbrev pub more_flags : List Clause → List ℕ → Option (List Clause)
more_flags before word = option_map (λ more. change_latest (λ old. more) before) (option_and_then (with_flag word) (latest before))

-- Reads on from a place: all clauses, those before the place too, or the place of the first word that doesn't
-- fit, or one past the last word if one is missing. A word that leads no clause is one more flag.
abbrev pub clauses_from : List Clause → ℕ → List (List ℕ) → Result (List Clause) ℕ
clauses_from before place [] = Ok before
clauses_from before place (word ∷ []) = if may_lead before word then Err (place + 1) else some_or place (more_flags before word)
clauses_from before place (word ∷ value ∷ words) =
    if may_lead before word
    then (some_or (place + 1) (clause_of word value) >>= λ clause. clauses_from (before ++ clause ∷ []) (place + 2) words)
    else (some_or place (more_flags before word) >>= λ more. clauses_from more (place + 1) (value ∷ words))

-- the clauses that the words spell
abbrev pub clauses_of : List (List ℕ) → Result (List Clause) ℕ
clauses_of words = clauses_from [] 0 words

-- A call read what the words spell, unless it ran out of memory.
abbrev pub ReadsMatch : Result Match MatchFault → Result (List Clause) ℕ → Type 0
ReadsMatch (Ok m) spelled = spelled ≡ Ok m.clauses
ReadsMatch (Err (BadWord k)) spelled = spelled ≡ Err k
ReadsMatch (Err OutOfMemory) spelled = Unit {0}
