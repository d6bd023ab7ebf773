use Rattle.std.proofs.Common.{◌≡◌, ◌-◌, ap, length, arith}
use Rattle.pcapng_io.proofs.Copying.{copied_most}
use Rattle.pcapng_io.proofs.items.copied_block.Goals as goal

pub with_options-requires-clause-most : goal.with_options-requires-clause-most
with_options-requires-clause-most c =
    let bytes = c.deref.result.now in
    let same : bytes ≡ c.args.block.items = c.deref.ensures.value in
    let short = copied_most c.args.order (c.len.result - 4 - c.args.at) c.args.at bytes c.in_ok-options.options.items c.in_ok-options.ensures
    (omega (arith, c.len.ensures, c.requires.room, c.requires.aligned, c.requires.whole)) (omega (arith, c.len.ensures, ap length same, c.requires.room)) (omega (arith, ap length same, c.requires.most)) in
    omega (arith, short, ap length c.deref-2.ensures.value)
