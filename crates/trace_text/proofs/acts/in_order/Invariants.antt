use Rattle.std.proofs.Common.{◌≡◌, take, map}
use Rattle.std.specs.Prelude.{filter_map, slice_get}
use Rattle.trace_text.proofs.acts.in_order.Given as goal

-- the declarations so far
abbrev pub invariant-positions : goal.invariant-positions
invariant-positions l =
    map (λ d. d.now) l.order.items ≡ filter_map (λ place. slice_get l.functions place) (take l.position-index l.positions)
