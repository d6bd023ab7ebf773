-- Believed: the lines of a nexthop: `rule` with a prefix, `to` with a link address and `from` with a link address.
use Rattle.std.specs.Prelude.{ℕ, List, [], ◌∷◌, ◌&&◌, if◌then◌else◌, Option, Some, None, codes}
use Rattle.std.specs.Option.{option_map}
use Rattle.std.specs.Str.{bytes_eq}
use Rattle.policy_text.specs.Clauses.{clause_of}
use Rattle.policy_text.specs.Bytes.{mac_of}
use Rattle.policy_text.specs.declared.clause.Clause.{Clause}
use Rattle.function_lines.specs.KindLines.{KindLines, never_clash}
use Rattle.nf_mark.specs.declared.link_address.LinkAddress.{LinkAddress}
use Rattle.nf_mark.specs.declared.nexthop.NexthopRule.{NexthopRule}
use Rattle.nf_mark.specs.Links.{link_of}

-- a rule of a clause and two addresses, if the words spell all three
abbrev pub rule_of : Option Clause → Option LinkAddress → Option LinkAddress → Option NexthopRule
rule_of (Some clause) (Some to) (Some from) = Some (record { fit = record { clauses = clause ∷ [] }; link_dst = to; link_src = from })
rule_of clause to from = None

-- a line's content, none if it is no line of a nexthop: its prefix, of either version, is as in a `dst` clause
unfoldable pub line_of : List (List ℕ) → Option NexthopRule
line_of (lead ∷ prefix ∷ to ∷ dst ∷ from ∷ src ∷ []) =
    if bytes_eq lead (codes "rule") && (bytes_eq to (codes "to") && bytes_eq from (codes "from"))
    then rule_of (clause_of (codes "dst") prefix) (option_map link_of (mac_of dst)) (option_map link_of (mac_of src)) else None
line_of words = None

-- the lines of a nexthop, none of which is required
abbrev pub nexthop_lines : KindLines NexthopRule
nexthop_lines = record { line_of = line_of; required = []; clashes = never_clash }
