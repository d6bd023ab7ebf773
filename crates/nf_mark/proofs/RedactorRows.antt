-- Worked rows of a redactor, computed by the definitions.
use Rattle.std.proofs.Common.{◌≡◌, ℕ, List, [], ◌∷◌, refl}
use Rattle.std.specs.Prelude.{codes, Option, Some, None}
use Rattle.packet_fields.specs.declared.field.Field.TheVariants.{Payload}
use Rattle.action_profile.specs.declared.kind.Kind.TheVariants as kinds
use Rattle.policy_text.specs.declared.policy.FunctionDecl.{FunctionDecl}
use Rattle.policy_text.specs.declared.policy.Setting.{Setting}
use Rattle.chain_walk.specs.Shown.{Values}
use Rattle.chain_walk.specs.Step.{stepped}
use Rattle.chain_walk.specs.declared.fixed.Fixed.{Fixed}
use Rattle.packet_function.specs.Deciding.{decided}
use Rattle.packet_function.specs.declared.deciding.DecidingLine.{DecidingLine}
use Rattle.packet_function.specs.declared.deciding.DecidingLine.TheVariants.{Rule}
use Rattle.function_lines.specs.KindLines.{refused_line}
use Rattle.patterns.specs.Lines.{line_of, pattern_lines}
use Rattle.nf_mark.specs.Redactors.{redactor_of, redactor_behaviour, redactor_decides}

declared : List Setting → FunctionDecl
declared settings = record { name = codes "red"; line = 3; kind = kinds.Redactor; settings = settings }

two : List Setting
two =
    (record { line = 4; words = codes "rule" ∷ codes "text" ∷ codes "ab" ∷ [] }) ∷
    (record { line = 5; words = codes "rule" ∷ codes "hex" ∷ codes "7863" ∷ [] }) ∷ []

may_stand : refused_line pattern_lines (declared two) ≡ None
unfolding line_of declared two
may_stand = refl

no_line : refused_line pattern_lines (declared []) ≡ None
unfolding declared
no_line = refl

-- a `set` is no line of a redactor
a_set : refused_line pattern_lines (declared ((record { line = 4; words = codes "set" ∷ codes "text" ∷ codes "ab" ∷ [] }) ∷ [])) ≡ Some 4
unfolding line_of declared
a_set = refl

-- what the packet shows
udp : Fixed
udp = record { time = 0; ether_type = Some 2048; proto = Some 17; ip_len = Some 40; tcp_flags = None }

packet : Option (List ℕ) → Values
packet payload Payload = payload
packet payload f = None

written : Option (List ℕ) → Option (List ℕ)
written payload = (stepped redactor_behaviour udp (redactor_of (declared two)) (packet payload)).written Payload

-- the second pattern is searched in what the first left
one_after_another : written (Some (codes "abc")) ≡ Some (codes "xxx")
unfolding line_of declared two packet written udp
one_after_another = refl

-- if no pattern occurs, nothing is written
unwritten : written (Some (codes "a bc")) ≡ None
unfolding line_of declared two packet written udp
unwritten = refl

without_payload : written None ≡ None
unfolding line_of declared two packet written udp
without_payload = refl

-- the rules that decide, of the redactor with these lines
deciding : List Setting → Option (List ℕ) → List DecidingLine
deciding settings payload = decided redactor_behaviour redactor_decides udp (redactor_of (declared settings)) (packet payload)

-- the second pattern, xc, occurs only because of what the first overwrote
both_decide : deciding two (Some (codes "abc")) ≡ Rule 0 ∷ Rule 1 ∷ []
unfolding line_of declared two packet deciding udp
both_decide = refl

-- it occurs by itself
second_decides : deciding two (Some (codes "a xc")) ≡ Rule 1 ∷ []
unfolding line_of declared two packet deciding udp
second_decides = refl

overlapping : List Setting
overlapping =
    (record { line = 4; words = codes "rule" ∷ codes "text" ∷ codes "ab" ∷ [] }) ∷
    (record { line = 5; words = codes "rule" ∷ codes "text" ∷ codes "bc" ∷ [] }) ∷
    (record { line = 6; words = codes "rule" ∷ codes "text" ∷ codes "d" ∷ [] }) ∷ []

-- the second pattern, bc, no longer occurs after the first overwrote its first byte
second_is_gone : deciding overlapping (Some (codes "abcd")) ≡ Rule 0 ∷ Rule 2 ∷ []
unfolding line_of declared overlapping packet deciding udp
second_is_gone = refl

-- but elsewhere it is left
second_is_left : deciding overlapping (Some (codes "abcbc")) ≡ Rule 0 ∷ Rule 1 ∷ []
unfolding line_of declared overlapping packet deciding udp
second_is_left = refl

none_decides : deciding two (Some (codes "a bc")) ≡ []
unfolding line_of declared two packet deciding udp
none_decides = refl

none_without_payload : deciding two None ≡ []
unfolding line_of declared two packet deciding udp
none_without_payload = refl
