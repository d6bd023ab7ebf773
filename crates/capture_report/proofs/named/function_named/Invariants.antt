use Rattle.std.proofs.Common.{◌≡◌, take}
use Rattle.std.specs.Prelude.{None}
use Rattle.std.specs.List.{find}
use Rattle.std.specs.Str.{bytes_eq}
use Rattle.capture_report.proofs.Naming.{running_in}
use Rattle.capture_report.proofs.named.function_named.Given as goal

abbrev pub invariant-pieces : goal.invariant-pieces
invariant-pieces l = find (λ f. bytes_eq f.name l.name) (running_in (take l.piece-index l.pieces)) ≡ None
