-- For proofs: nats whose public addresses are odd.
use Rattle.std.specs.Prelude.{ℕ, List, [], ◌++◌, Bool, true, false, not, ◌&&◌, ◌==◌, nat_le, if◌then◌else◌, Option, Some, None, find, filter_map, codes}
use Rattle.std.specs.List.{flat_map}
use Rattle.std.specs.Option.{option_map, option_and_then, option_to_list}
use Rattle.std.specs.Str.{bytes_eq}
use Rattle.action_profile.specs.declared.kind.Kind.{Kind}
use Rattle.action_profile.specs.declared.kind.Kind.TheVariants.{Nat}
use Rattle.policy_text.specs.declared.policy.ChainPolicy.{ChainPolicy}
use Rattle.policy_text.specs.declared.policy.FunctionDecl.{FunctionDecl}
use Rattle.policy_text.specs.declared.policy.Setting.{Setting}
use Rattle.policy_text.specs.Meeting.{is_within}
use Rattle.policy_text.specs.Values.{address_of, prefix_of, range_of}
use Rattle.policy_lint.specs.declared.finding.Finding.{Finding}
use Rattle.policy_lint.specs.declared.finding.Finding.TheVariants.{BitsPastLength, PublicInside, SharedPorts}
use Rattle.policy_lint.specs.declared.nats.NatLines.{NatLines}
use Rattle.policy_lint.specs.Gathering.{told_if, gathered}
use Rattle.policy_lint.specs.Rules.{word_of}
use Rattle.policy_lint.specs.Spelling.{bits_past}

-- a `set` line of this key
abbrev pub sets : List ℕ → Setting → Bool
sets key s = bytes_eq (word_of s.words 0) (codes "set") && bytes_eq (word_of s.words 1) key

-- a line and its value
abbrev pub lined : {V : Type 0} → (List ℕ → Option V) → Setting → Option (ℕ × V)
lined read s = option_map (λ v. (s.line, v)) (read (word_of s.words 2))

-- those of the first line of this key
abbrev pub value_of : {V : Type 0} → (List ℕ → Option V) → List ℕ → FunctionDecl → Option (ℕ × V)
value_of read key decl = option_and_then (lined read) (find (sets key) decl.settings)

abbrev pub is_nat : Kind → Bool
is_nat Nat = true
is_nat kind = false

-- what the lines of a nat set
abbrev pub nat_by : Option (ℕ × (ℕ × ℕ)) → Option (ℕ × ℕ) → Option (ℕ × (ℕ × ℕ)) → Option NatLines
nat_by (Some inside) (Some public) (Some ports) = Some (record {
  inside_line = inside.0;
  prefix = inside.1.0;
  bits = inside.1.1;
  public_line = public.0;
  public = public.1;
  ports_line = ports.0;
  low = ports.1.0;
  high = ports.1.1;
})
nat_by inside public ports = None

abbrev pub nat_of : FunctionDecl → Option NatLines
nat_of decl =
    if is_nat decl.kind
    then nat_by (value_of prefix_of (codes "inside") decl) (value_of address_of (codes "public") decl) (value_of range_of (codes "ports") decl)
    else None

-- all nats of the chains
abbrev pub nats_of : List ChainPolicy → List NatLines
nats_of chains = filter_map nat_of (flat_map (λ c. c.functions) chains)

-- the public address is one of those inside
abbrev pub inside_of : NatLines → Option Finding
inside_of n = if is_within n.prefix n.bits n.public then Some (PublicInside n.public_line n.inside_line) else None

-- both have the public address, and some port
abbrev pub shares : NatLines → NatLines → Bool
shares n other = n.public == other.public && (nat_le n.low other.high && nat_le other.low n.high)

-- the first of those before it that shares
abbrev pub shared_of : List NatLines → NatLines → Option Finding
shared_of before n = option_map (λ other. SharedPorts n.ports_line other.ports_line) (find (shares n) before)

-- its prefix inside has bits past its length
abbrev pub is_loose : NatLines → Bool
is_loose n = not (bits_past 32 n.bits n.prefix == 0)

abbrev pub told_nat : List NatLines → NatLines → List Finding
told_nat before n = told_if (is_loose n) (BitsPastLength n.inside_line) ++ (option_to_list (inside_of n) ++ option_to_list (shared_of before n))

abbrev pub told_nats : List ChainPolicy → List Finding
told_nats chains = gathered told_nat [] (nats_of chains)
