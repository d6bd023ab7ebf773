-- Believed: a tagger's lines: `rule vid` with a VLAN id up to 4095, `pcp` with a priority up to 7, source clauses.
use Rattle.std.specs.Prelude.{ℕ, ◌+◌, ◌*◌, List, [], ◌∷◌, Bool, true, false, ◌&&◌, if◌then◌else◌, Option, Some, None, codes}
use Rattle.std.specs.Str.{bytes_eq}
use Rattle.policy_text.specs.Values.{number_of}
use Rattle.policy_text.specs.declared.clause.Clause.{Clause}
use Rattle.policy_text.specs.declared.clause.Clause.TheVariants.{Src, Src6}
use Rattle.policy_text.specs.declared.clause.Match.{Match}
use Rattle.function_lines.specs.KindLines.{KindLines, never_clash}
use Rattle.nf_mark.specs.Clauses.{fit_of_such}
use Rattle.nf_mark.specs.declared.tagger.TagRule.{TagRule}

-- a tagger sees the source address alone
abbrev pub is_seen : Clause → Bool
is_seen (Src prefix bits) = true
is_seen (Src6 prefix bits) = true
is_seen clause = false

-- the control information of a tag (IEEE 802.1Q, 9.6): three bits of priority, one 0 bit, and twelve of the VLAN id
abbrev pub control_of : ℕ → ℕ → ℕ
control_of vid priority = priority * 8192 + vid

-- a rule of a VLAN id, a priority and clauses, if the words spell all three
abbrev pub rule_of : Option ℕ → Option ℕ → Option Match → Option TagRule
rule_of (Some vid) (Some priority) (Some fit) = Some (record { control = control_of vid priority; fit = fit })
rule_of vid priority fit = None

-- what a line says, none if it is no line of a tagger
unfoldable pub line_of : List (List ℕ) → Option TagRule
line_of (lead ∷ id_key ∷ vid ∷ priority_key ∷ priority ∷ clauses) =
    if bytes_eq lead (codes "rule") && (bytes_eq id_key (codes "vid") && bytes_eq priority_key (codes "pcp"))
    then rule_of (number_of 20 4095 vid) (number_of 20 7 priority) (fit_of_such is_seen clauses) else None
line_of words = None

-- the lines of a tagger, none of which is required
abbrev pub tagger_lines : KindLines TagRule
tagger_lines = record { line_of = line_of; required = []; clashes = never_clash }
