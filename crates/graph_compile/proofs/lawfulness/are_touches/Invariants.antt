use Rattle.std.proofs.Common.{◌≡◌, take, map}
use Rattle.graph_compile.specs.Parts.{touch_of}
use Rattle.graph_compile.proofs.lawfulness.are_touches.Given as goal

-- the touches so far are those of their branches
abbrev pub invariant-branches : goal.invariant-branches
invariant-branches l = take l.index l.touches ≡ map (touch_of l.profiles) (take l.index l.branches)
