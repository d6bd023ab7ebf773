-- Believed: a hop: how it is declared, and what it does as a function of a chain.
use Rattle.std.specs.Prelude.{ℕ, ◌-◌, List, [], ◌∷◌, nat_le, slice_index, if◌then◌else◌, Option, Some, None}
use Rattle.std.specs.Option.{option_map}
use Rattle.packet_fields.specs.declared.field.Field.TheVariants.{Ttl}
use Rattle.policy_text.specs.declared.policy.FunctionDecl.{FunctionDecl}
use Rattle.action_profile.specs.Profiles.{profile_of}
use Rattle.action_profile.specs.declared.kind.Kind.TheVariants as kinds
use Rattle.chain_walk.specs.Shown.{Shown}
use Rattle.chain_walk.specs.Step.{Step, Behaviour, is_drop}
use Rattle.chain_walk.specs.declared.verdict.Verdict.{Verdict}
use Rattle.chain_walk.specs.declared.verdict.Verdict.TheVariants.{Pass, Drop}
use Rattle.packet_function.specs.Deciding.{Deciding}
use Rattle.packet_function.specs.declared.deciding.DecidingLine.TheVariants.{Declaration}
use Rattle.function_lines.specs.KindLines.{said_by}
use Rattle.nf_mark.specs.declared.hop.Hop.{Hop}
use Rattle.nf_mark.specs.declared.no_lines.NoLine.{NoLine}
use Rattle.nf_mark.specs.NoLines.{no_lines}
use Rattle.nf_mark.specs.OneField.{only}

-- all hops are equal
abbrev pub hop_by : List NoLine → Hop
hop_by said = record {}

-- the hop that is declared
abbrev pub hop_of : FunctionDecl → Hop
hop_of decl = hop_by (said_by no_lines decl.settings)

-- the time to live is one byte of the IPv4 header (RFC 791, 3.1), and the hop limit of the IPv6 header (RFC 8200, 3)
abbrev pub ttl_of : Option (List ℕ) → Option ℕ
ttl_of field = option_map (λ bytes. slice_index bytes 0) field

-- a packet whose time is over is dropped (RFC 791, 3.2; RFC 8200, 3)
abbrev pub verdict_by : Option ℕ → Verdict
verdict_by None = Pass
verdict_by (Some ttl) = if nat_le ttl 1 then Drop else Pass

-- what remains of the time to live of a packet that is sent on, none if there is none or the packet is dropped
abbrev pub new_ttl : Option ℕ → Option ℕ
new_ttl None = None
new_ttl (Some ttl) = if nat_le ttl 1 then None else Some (ttl - 1)

-- nothing else is written, and a hop stays unchanged
abbrev pub hop_step : Hop → Shown → Step Hop
hop_step h shown = record {
  after = h;
  verdict = verdict_by (ttl_of (shown.values Ttl));
  written = only Ttl (option_map (λ ttl. ttl ∷ []) (new_ttl (ttl_of (shown.values Ttl))));
}

-- how hops behave
abbrev pub hop_behaviour : Behaviour Hop
hop_behaviour = record { profile = λ h. profile_of kinds.Hop; step = hop_step }

-- a hop has no line but its declaration, which decides on each packet that is dropped
abbrev pub hop_decides : Deciding Hop
hop_decides h shown = if is_drop (hop_step h shown).verdict then Declaration ∷ [] else []
