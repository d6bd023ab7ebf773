use Rattle.std.proofs.Common.{◌∙◌, List, ℕ, ap}
use Rattle.packet_version.specs.Parts.{as_map}
use Rattle.packet_version.specs.Splitting.{split_parts}
use Rattle.packet_version.proofs.PartsFitRest.{whole_to}
use Rattle.packet_version.proofs.Keeping.{inside_parts, inside_whole, inside_again}
use Rattle.packet_version.proofs.apart.split.Goals as goal

pub invariant_of-result : goal.invariant_of-result
invariant_of-result c = inside_whole c.args.taggers c.new-rest.result c.in_ok-held.held c.in_ok-held.ensures

pub returns-clause-parts : goal.returns-clause-parts
returns-clause-parts c = inside_parts c.args.taggers c.new-rest.result c.in_ok-held.held c.in_ok-held.ensures ∙ ap (λ (xs : List ℕ). split_parts c.args.taggers xs) (c.new-rest.ensures ∙ c.in_ok-from_slice.ensures.items)

pub returns-clause-fits : goal.returns-clause-fits
returns-clause-fits c = whole_to (as_map c.in_ok-held.held.parts) c.in_ok-held.held.frame (inside_whole c.args.taggers c.new-rest.result c.in_ok-held.held c.in_ok-held.ensures)

pub returns-clause-whole : goal.returns-clause-whole
returns-clause-whole c = inside_again c.args.taggers c.new-rest.result c.in_ok-held.held c.in_ok-held.ensures ∙ (c.new-rest.ensures ∙ c.in_ok-from_slice.ensures.items)
