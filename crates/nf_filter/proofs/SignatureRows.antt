-- Worked rows of a signature, computed by the definitions.
use Rattle.std.proofs.Common.{◌≡◌, ℕ, List, [], ◌∷◌, refl}
use Rattle.std.specs.Prelude.{codes, Option, Some, None}
use Rattle.packet_fields.specs.declared.field.Field.TheVariants.{Payload}
use Rattle.action_profile.specs.declared.kind.Kind.TheVariants as kinds
use Rattle.policy_text.specs.declared.policy.FunctionDecl.{FunctionDecl}
use Rattle.chain_walk.specs.Shown.{Values}
use Rattle.chain_walk.specs.Step.{stepped}
use Rattle.chain_walk.specs.declared.fixed.Fixed.{Fixed}
use Rattle.chain_walk.specs.declared.verdict.Verdict.{Verdict}
use Rattle.chain_walk.specs.declared.verdict.Verdict.TheVariants.{Pass, Drop}
use Rattle.function_lines.specs.KindLines.{refused_line}
use Rattle.patterns.specs.Lines.{line_of, pattern_lines}
use Rattle.packet_function.specs.Deciding.{decided as decided_by}
use Rattle.packet_function.specs.declared.deciding.DecidingLine.{DecidingLine}
use Rattle.packet_function.specs.declared.deciding.DecidingLine.TheVariants as deciding
use Rattle.nf_filter.specs.Signatures.{signature_of, signature_behaviour, signature_decides}

-- the patterns `evil` and `worse`
declared : FunctionDecl
declared = record {
  name = codes "sig";
  line = 3;
  kind = kinds.Signature;
  settings =
      (record { line = 4; words = codes "rule" ∷ codes "text" ∷ codes "evil" ∷ [] }) ∷
      (record { line = 5; words = codes "rule" ∷ codes "hex" ∷ codes "776f727365" ∷ [] }) ∷ [];
}

may_stand : refused_line pattern_lines declared ≡ None
unfolding line_of declared
may_stand = refl

-- what the packet shows
udp : Fixed
udp = record { time = 0; ether_type = Some 2048; proto = Some 17; ip_len = Some 40; tcp_flags = None }

packet : Option (List ℕ) → Values
packet payload Payload = payload
packet payload f = None

decided : Option (List ℕ) → Verdict
decided payload = (stepped signature_behaviour udp (signature_of declared) (packet payload)).verdict

first_found : decided (Some (codes "evil secret")) ≡ Drop
unfolding line_of declared packet decided udp
first_found = refl

second_found : decided (Some (codes "much worse")) ≡ Drop
unfolding line_of declared packet decided udp
second_found = refl

-- a pattern that is cut off isn't found
none_found : decided (Some (codes "my secret evi")) ≡ Pass
unfolding line_of declared packet decided udp
none_found = refl

without_payload : decided None ≡ Pass
unfolding line_of declared packet decided udp
without_payload = refl

-- the first pattern that occurs decides, wherever it stands
deciding_lines : Option (List ℕ) → List DecidingLine
deciding_lines payload = decided_by signature_behaviour signature_decides udp (signature_of declared) (packet payload)

first_decides : deciding_lines (Some (codes "worse than evil")) ≡ deciding.Rule 0 ∷ []
unfolding line_of declared packet deciding_lines udp
first_decides = refl

second_decides : deciding_lines (Some (codes "much worse")) ≡ deciding.Rule 1 ∷ []
unfolding line_of declared packet deciding_lines udp
second_decides = refl

none_decides : deciding_lines (Some (codes "my secret evi")) ≡ []
unfolding line_of declared packet deciding_lines udp
none_decides = refl
