use Rattle.pcapng_io.proofs.FirstBlock.{IsNumbered, head_numbered}
use Rattle.pcapng_io.proofs.Slots.{only_fault}
use Rattle.pcapng_io.proofs.read.open_other.Goals as goal

pub returns-in-Err-clause-number : goal.returns-in-Err-clause-number
returns-in-Err-clause-number c =
    let place = c.args.place.now in
    only_fault (IsNumbered place) c.in-Err.fault (head_numbered place _ c.args.kind c.args.front.now c.in-Err.fault c.in-Err.ensures.err)
