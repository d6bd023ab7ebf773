-- For proofs: which rule of a firewall, and which pattern of a signature, decides the fate of a packet, without the step.
use Rattle.std.specs.Prelude.{◌≡◌, ℕ, List, ◌∷◌, ◌++◌, length, slice_get, Bool, true, false, not, Option, Some}
use Rattle.std.specs.List.{list_any}
use Rattle.std.specs.Option.{option_map_or}
use Rattle.policy_text.specs.declared.seen.Seen.{Seen}
use Rattle.policy_text.specs.Meeting.{is_fitting}
use Rattle.packet_function.specs.declared.deciding.DecidingLine.{DecidingLine}
use Rattle.packet_function.specs.declared.deciding.DecidingLine.TheVariants as deciding
use Rattle.packet_function.specs.declared.deciding.SettingKey.TheVariants as keys
use Rattle.patterns.specs.Occurrences.{occurs, some_occurs}
use Rattle.nf_filter.specs.declared.firewall.Firewall.{Firewall}
use Rattle.nf_filter.specs.declared.firewall.Rule.{Rule}

-- the packet meets all clauses of none of the rules
abbrev pub MeetsNone : List Rule → Seen → Type 0
MeetsNone rules seen = list_any (λ (rule : Rule). is_fitting rule.fit seen) rules ≡ false

-- the packet meets all clauses of this rule, and of no rule before it
pub record IsFirstMet (rules : List Rule) (seen : Seen) (rule : Rule) : Type 0 where
  pub before : List Rule
  pub behind : List Rule
  pub stands : rules ≡ before ++ rule ∷ behind
  pub unmet : MeetsNone before seen
  pub met : is_fitting rule.fit seen ≡ true

-- the line denies: it is a `rule deny` of the firewall, or its `set default deny`
abbrev pub denies : Firewall → DecidingLine → Bool
denies f (deciding.Rule place) = option_map_or (λ (rule : Rule). not rule.allow) (slice_get f.rules place) false
denies f (deciding.Set keys.Default) = not f.default
denies f line = false

-- It is the line of a pattern that occurs in the payload, and no pattern before it does.
pub record IsFirstFound (patterns : List (List ℕ)) (payload : Option (List ℕ)) (line : DecidingLine) : Type 0 where
  pub bytes : List ℕ
  pub before : List (List ℕ)
  pub pattern : List ℕ
  pub behind : List (List ℕ)
  pub there : payload ≡ Some bytes
  pub stands : patterns ≡ before ++ pattern ∷ behind
  pub here : line ≡ deciding.Rule (length before)
  pub unmet : some_occurs before bytes ≡ false
  pub met : occurs pattern bytes ≡ true
