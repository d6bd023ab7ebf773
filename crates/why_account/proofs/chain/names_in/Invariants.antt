use Rattle.std.proofs.Common.{◌≡◌, map, take}
use Rattle.std.specs.Prelude.{filter_map, slice_get}
use Rattle.why_account.proofs.chain.names_in.Given as goal

-- those of the positions so far
abbrev pub invariant-positions : goal.invariant-positions
invariant-positions l = l.names ≡ map (λ decl. decl.name) (filter_map (λ place. slice_get l.declared place) (take l.position-index l.positions))
