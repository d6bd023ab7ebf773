-- Worked rows of a tagger and an untagger, computed by the definitions.
use Rattle.std.proofs.Common.{◌≡◌, ℕ, List, [], ◌∷◌, refl}
use Rattle.std.specs.Prelude.{Option, Some, None, codes}
use Rattle.packet_fields.specs.declared.field.Field.TheVariants.{Tag, SrcIp}
use Rattle.action_profile.specs.declared.kind.Kind.TheVariants as kinds
use Rattle.policy_text.specs.declared.policy.FunctionDecl.{FunctionDecl}
use Rattle.chain_walk.specs.Shown.{Values}
use Rattle.chain_walk.specs.Step.{stepped}
use Rattle.chain_walk.specs.declared.fixed.Fixed.{Fixed}
use Rattle.packet_function.specs.Deciding.{decided}
use Rattle.packet_function.specs.declared.deciding.DecidingLine.{DecidingLine}
use Rattle.packet_function.specs.declared.deciding.DecidingLine.TheVariants.{Rule}
use Rattle.function_lines.specs.KindLines.{refused_line}
use Rattle.nf_mark.specs.NoLines.{no_lines}
use Rattle.nf_mark.specs.TaggerLines.{line_of, tagger_lines}
use Rattle.nf_mark.specs.Taggers.{tagger_of, tagger_behaviour, tagger_decides, control_for}
use Rattle.nf_mark.specs.DecidingRules.{place_met}
use Rattle.nf_mark.specs.Untaggers.{untagger_by, untagger_behaviour}

-- packets from 10.0.0.9 get the VLAN id 100 and the priority 5, and all others the VLAN id 7 and the priority 0
declared : FunctionDecl
declared = record {
  name = codes "t";
  line = 3;
  kind = kinds.Tagger;
  settings =
      (record { line = 4; words = codes "rule" ∷ codes "vid" ∷ codes "100" ∷ codes "pcp" ∷ codes "5" ∷ codes "src" ∷ codes "10.0.0.9" ∷ [] }) ∷
      (record { line = 5; words = codes "rule" ∷ codes "vid" ∷ codes "7" ∷ codes "pcp" ∷ codes "0" ∷ [] }) ∷ [];
}

may_stand : refused_line tagger_lines declared ≡ None
unfolding line_of declared
may_stand = refl

-- no clause but one on the source, no id of more than twelve bits, no priority of more than three
no_destination : line_of (codes "rule" ∷ codes "vid" ∷ codes "7" ∷ codes "pcp" ∷ codes "0" ∷ codes "src" ∷ codes "10.0.0.9" ∷ codes "dst" ∷ codes "10.0.0.2" ∷ []) ≡ None
unfolding line_of
no_destination = refl

no_protocol : line_of (codes "rule" ∷ codes "vid" ∷ codes "7" ∷ codes "pcp" ∷ codes "0" ∷ codes "proto" ∷ codes "udp" ∷ []) ≡ None
unfolding line_of
no_protocol = refl

no_wide_id : line_of (codes "rule" ∷ codes "vid" ∷ codes "4096" ∷ codes "pcp" ∷ codes "0" ∷ []) ≡ None
unfolding line_of
no_wide_id = refl

no_wide_priority : line_of (codes "rule" ∷ codes "vid" ∷ codes "7" ∷ codes "pcp" ∷ codes "8" ∷ []) ≡ None
unfolding line_of
no_wide_priority = refl

udp : Fixed
udp = record { time = 0; ether_type = Some 2048; proto = Some 17; ip_len = Some 28; tcp_flags = None }

packet : Option (List ℕ) → List ℕ → Values
packet tags src Tag = tags
packet tags src SrcIp = Some src
packet tags src f = None

tagged_with : Option (List ℕ) → List ℕ → Option (List ℕ)
tagged_with tags src = (stepped tagger_behaviour udp (tagger_of declared) (packet tags src)).written Tag

left_of : Option (List ℕ) → Option (List ℕ)
left_of tags = (stepped untagger_behaviour udp (untagger_by []) (packet tags (10 ∷ 0 ∷ 0 ∷ 1 ∷ []))).written Tag

-- a service tag and a customer tag
two_tags : List ℕ
two_tags = 0x88 ∷ 0xa8 ∷ 0x00 ∷ 0x64 ∷ 0x81 ∷ 0x00 ∷ 0x00 ∷ 0x0a ∷ []

-- the new tag is before them
outermost : tagged_with (Some two_tags) (10 ∷ 0 ∷ 0 ∷ 1 ∷ []) ≡ Some (0x81 ∷ 0x00 ∷ 0x00 ∷ 0x07 ∷ 0x88 ∷ 0xa8 ∷ 0x00 ∷ 0x64 ∷ 0x81 ∷ 0x00 ∷ 0x00 ∷ 0x0a ∷ [])
unfolding line_of declared udp packet tagged_with two_tags control_for
outermost = refl

-- the priority has the high three bits: 5 * 8192 + 100 is 0xa064
high_priority : tagged_with (Some []) (10 ∷ 0 ∷ 0 ∷ 9 ∷ []) ≡ Some (0x81 ∷ 0x00 ∷ 0xa0 ∷ 0x64 ∷ [])
unfolding line_of declared udp packet tagged_with control_for
high_priority = refl

-- a frame that is too short for tags gets none
too_short : tagged_with None (10 ∷ 0 ∷ 0 ∷ 1 ∷ []) ≡ None
unfolding line_of declared udp packet tagged_with control_for
too_short = refl

-- an untagger has no line
refuses_any : refused_line no_lines (record { name = codes "u"; line = 3; kind = kinds.Untagger; settings = (record { line = 4; words = codes "rule" ∷ codes "vid" ∷ codes "7" ∷ [] }) ∷ [] }) ≡ Some 4
refuses_any = refl

-- the outermost tag is taken off, and no more
one_less : left_of (Some two_tags) ≡ Some (0x81 ∷ 0x00 ∷ 0x00 ∷ 0x0a ∷ [])
unfolding udp packet left_of two_tags
one_less = refl

no_tag : left_of (Some []) ≡ None
unfolding udp packet left_of
no_tag = refl

no_place : left_of None ≡ None
unfolding udp packet left_of
no_place = refl

-- the rules of the tagger that decide
deciding : Option (List ℕ) → List ℕ → List DecidingLine
deciding tags src = decided tagger_behaviour tagger_decides udp (tagger_of declared) (packet tags src)

first_decides : deciding (Some two_tags) (10 ∷ 0 ∷ 0 ∷ 9 ∷ []) ≡ Rule 0 ∷ []
unfolding line_of declared udp packet deciding place_met two_tags
first_decides = refl

second_decides : deciding (Some []) (10 ∷ 0 ∷ 0 ∷ 1 ∷ []) ≡ Rule 1 ∷ []
unfolding line_of declared udp packet deciding place_met
second_decides = refl

none_decides : deciding None (10 ∷ 0 ∷ 0 ∷ 9 ∷ []) ≡ []
unfolding line_of declared udp packet deciding place_met
none_decides = refl
