-- Worked rows of a hop, computed by the definitions.
use Rattle.std.proofs.Common.{◌≡◌, ℕ, List, [], ◌∷◌, refl}
use Rattle.std.specs.Prelude.{Option, Some, None, codes}
use Rattle.packet_fields.specs.declared.field.Field.TheVariants.{Ttl}
use Rattle.action_profile.specs.declared.kind.Kind.TheVariants as kinds
use Rattle.chain_walk.specs.Shown.{Values}
use Rattle.chain_walk.specs.Step.{Step, stepped}
use Rattle.chain_walk.specs.declared.fixed.Fixed.{Fixed}
use Rattle.chain_walk.specs.declared.verdict.Verdict.TheVariants.{Pass, Drop}
use Rattle.packet_function.specs.Deciding.{decided}
use Rattle.packet_function.specs.declared.deciding.DecidingLine.{DecidingLine}
use Rattle.packet_function.specs.declared.deciding.DecidingLine.TheVariants.{Declaration}
use Rattle.function_lines.specs.KindLines.{refused_line}
use Rattle.nf_mark.specs.declared.hop.Hop.{Hop}
use Rattle.nf_mark.specs.NoLines.{no_lines}
use Rattle.nf_mark.specs.Hops.{hop_by, hop_behaviour, hop_decides}

-- a hop has no line
refuses_any : refused_line no_lines (record { name = codes "h"; line = 3; kind = kinds.Hop; settings = (record { line = 4; words = codes "set" ∷ codes "ttl" ∷ codes "1" ∷ [] }) ∷ [] }) ≡ Some 4
refuses_any = refl

abbrev shown : Fixed
shown = record { time = 0; ether_type = Some 2048; proto = Some 17; ip_len = Some 28; tcp_flags = None }

-- a packet with this time to live, and no other field
abbrev living : Option (List ℕ) → Values
living ttl Ttl = ttl
living ttl f = None

abbrev step : Option (List ℕ) → Step Hop
step ttl = stepped hop_behaviour shown (hop_by []) (living ttl)

-- 64 becomes 63
sends_on : (step (Some (64 ∷ []))).written Ttl ≡ Some (63 ∷ [])
sends_on = refl

passes : (step (Some (2 ∷ []))).verdict ≡ Pass
passes = refl

-- 1 and 0 are over, and nothing is written
drops_one : (step (Some (1 ∷ []))).verdict ≡ Drop
drops_one = refl

drops_zero : (step (Some (0 ∷ []))).verdict ≡ Drop
drops_zero = refl

writes_none : (step (Some (1 ∷ []))).written Ttl ≡ None
writes_none = refl

-- without a time to live it passes
passes_others : (step None).verdict ≡ Pass
passes_others = refl

-- the lines that decide
abbrev deciding : Option (List ℕ) → List DecidingLine
deciding ttl = decided hop_behaviour hop_decides shown (hop_by []) (living ttl)

-- the declaration decides on a packet whose time is over, and on no other
decides_one : deciding (Some (1 ∷ [])) ≡ Declaration ∷ []
decides_one = refl

decides_no_two : deciding (Some (2 ∷ [])) ≡ []
decides_no_two = refl

decides_no_others : deciding None ≡ []
decides_no_others = refl
