use Rattle.std.proofs.Common.{◌≡◌, [], drop}
use Rattle.graph_text.specs.Listing.{after_lines}
use Rattle.graph_text.proofs.listing.after_lines.Given as goal

-- what is listed so far and the lines that remain decide
abbrev pub invariant-lines : goal.invariant-lines
invariant-lines l = after_lines l.chains l.orders l.listed (drop l.index l.lines) ≡ after_lines l.chains l.orders [] l.lines
