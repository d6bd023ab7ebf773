-- Believed: the lines of a marker: `rule tos` with a number from 0 to 255, and clauses, none of which is on tags.
use Rattle.std.specs.Prelude.{ℕ, List, [], ◌∷◌, Bool, true, false, ◌&&◌, if◌then◌else◌, Option, Some, None, codes}
use Rattle.std.specs.Str.{bytes_eq}
use Rattle.policy_text.specs.Values.{number_of}
use Rattle.policy_text.specs.declared.clause.Clause.{Clause}
use Rattle.policy_text.specs.declared.clause.Clause.TheVariants.{TagId, NoTag}
use Rattle.policy_text.specs.declared.clause.Match.{Match}
use Rattle.function_lines.specs.KindLines.{KindLines, never_clash}
use Rattle.nf_mark.specs.Clauses.{fit_of_such}
use Rattle.nf_mark.specs.declared.marker.MarkRule.{MarkRule}

-- a marker doesn't see tags
abbrev pub is_seen : Clause → Bool
is_seen (TagId id) = false
is_seen NoTag = false
is_seen clause = true

-- a rule of a type of service and clauses, if the words spell both
abbrev pub rule_of : Option ℕ → Option Match → Option MarkRule
rule_of (Some tos) (Some fit) = Some (record { tos = tos; fit = fit })
rule_of tos fit = None

-- what a line says, none if it is no line of a marker
unfoldable pub line_of : List (List ℕ) → Option MarkRule
line_of (lead ∷ key ∷ tos ∷ clauses) =
    if bytes_eq lead (codes "rule") && bytes_eq key (codes "tos") then rule_of (number_of 20 255 tos) (fit_of_such is_seen clauses) else None
line_of words = None

-- the lines of a marker, none of which is required
abbrev pub marker_lines : KindLines MarkRule
marker_lines = record { line_of = line_of; required = []; clashes = never_clash }
