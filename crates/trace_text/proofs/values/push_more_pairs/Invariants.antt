use Rattle.std.proofs.Common.{◌≡◌, ◌++◌, take}
use Rattle.std.specs.Prelude.{codes}
use Rattle.std.specs.List.{flat_map}
use Rattle.trace_text.specs.Values.{pair}
use Rattle.trace_text.proofs.values.push_more_pairs.Given as goal

-- the bytes so far
abbrev pub invariant-bytes : goal.invariant-bytes
invariant-bytes l = l.text.items ≡ l.fn.text.items ++ flat_map (λ b. codes ":" ++ pair b) (take l.byte-index l.bytes)
