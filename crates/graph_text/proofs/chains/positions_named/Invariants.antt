use Rattle.std.proofs.Common.{◌≡◌, ◌++◌, drop}
use Rattle.std.specs.Option.{option_map}
use Rattle.graph_text.specs.Chains.{positions_named}
use Rattle.graph_text.proofs.chains.positions_named.Given as goal

-- the positions so far and those of the rest
abbrev pub invariant-words : goal.invariant-words
invariant-words l = option_map (λ ps. l.positions.items ++ ps) (positions_named l.functions l.order (drop l.word-index l.words)) ≡ positions_named l.functions l.order l.words
