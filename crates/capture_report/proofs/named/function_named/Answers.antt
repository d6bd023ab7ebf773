use Rattle.std.proofs.Common.{◌≡◌, ◌<◌, ◌+◌, ◌∙◌, length, take, ap, sym, arith}
use Rattle.std.specs.Prelude.{Some, None}
use Rattle.std.specs.List.{find}
use Rattle.std.specs.Option.{option_copied}
use Rattle.std.specs.Str.{bytes_eq}
use Rattle.burst_walk.specs.ChainService.{NamedFunction}
use Rattle.capture_report.proofs.Naming.{found_among, found_so_far, running_in}
use Rattle.capture_report.proofs.named.function_named.Goals as goal

pub returns-in-Some : goal.returns-in-Some
returns-in-Some c =
    let inside : c.pieces.piece-index < length c.args.pieces.now = omega (arith, c.pieces-test.true) in
    let here : find (λ (f : NamedFunction). bytes_eq f.name c.args.name.now) (running_in (take (c.pieces.piece-index + 1) c.args.pieces.now)) ≡ Some c.in-Some.function.now =
    found_so_far (λ (f : NamedFunction). bytes_eq f.name c.args.name.now) c.args.pieces.now c.pieces.piece-index c.piece-item.result (Some c.in-Some.function.now) inside c.piece-item.is c.pieces.invariant
    (ap option_copied (sym c.in-Some.is) ∙ c.named_in.ensures) in
    found_among (λ (f : NamedFunction). bytes_eq f.name c.args.name.now) c.args.pieces.now (c.pieces.piece-index + 1) c.in-Some.function.now here

pub pieces-preserved : goal.pieces-preserved
pieces-preserved c =
    let inside : c.pieces.piece-index < length c.args.pieces.now = omega (arith, c.pieces-test.true) in
    found_so_far (λ (f : NamedFunction). bytes_eq f.name c.args.name.now) c.args.pieces.now c.pieces.piece-index c.piece-item.result None inside c.piece-item.is c.pieces.invariant
    (ap option_copied (sym c.in_default.is) ∙ c.named_in.ensures)
