use Rattle.std.proofs.Common.{◌≡◌, ◌+◌, arith}
use Rattle.pcapng_io.proofs.Faults.{last_counted}
use Rattle.pcapng_io.proofs.items.item_in.Goals as goal

pub returns-in_ok-copied_block-in-Ok-clause-few : goal.returns-in_ok-copied_block-in-Ok-clause-few
returns-in_ok-copied_block-in-Ok-clause-few c =
    let other : c.args.place.now.blocks + 1 ≡ 1099511627776 → ⊥ = last_counted c.args.place.now c.args.order c.args.kind c.args.block.items c.requires.sound.faultless in
    let few = c.requires.sound.few in omega arith

pub returns-in_err-copied_block-in-Ok-clause-few : goal.returns-in_err-copied_block-in-Ok-clause-few
returns-in_err-copied_block-in-Ok-clause-few c =
    let other : c.args.place.now.blocks + 1 ≡ 1099511627776 → ⊥ = last_counted c.args.place.now c.args.order c.args.kind c.args.block.items c.requires.sound.faultless in
    let few = c.requires.sound.few in omega arith

pub returns-in-Err-clause-few : goal.returns-in-Err-clause-few
returns-in-Err-clause-few c =
    let other : c.args.place.now.blocks + 1 ≡ 1099511627776 → ⊥ = last_counted c.args.place.now c.args.order c.args.kind c.args.block.items c.requires.sound.faultless in
    let few = c.requires.sound.few in omega arith
