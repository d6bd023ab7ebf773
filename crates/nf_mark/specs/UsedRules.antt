-- For proofs: the rules to which deciding lines refer.
use Rattle.std.specs.Prelude.{List, Option, None, filter_map, slice_get}
use Rattle.packet_function.specs.declared.deciding.DecidingLine.{DecidingLine}
use Rattle.packet_function.specs.declared.deciding.DecidingLine.TheVariants.{Rule}

-- the rule of a line, none if the line is no rule
abbrev pub used_rule : {R : Type 0} → List R → DecidingLine → Option R
used_rule rules (Rule place) = slice_get rules place
used_rule rules line = None

-- the rules of these lines, in their order
abbrev pub used_rules : {R : Type 0} → List R → List DecidingLine → List R
used_rules rules lines = filter_map (used_rule rules) lines
