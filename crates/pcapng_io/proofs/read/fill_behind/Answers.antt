use Rattle.std.proofs.Common.{◌≡◌, ◌+◌, ◌++◌, subst, length, take}
use Rattle.std.proofs.lemmas.List.{length-take-le}
use Rattle.nfp_outside.specs.declared.slot.Slot.TheVariants.{Capture as CaptureSlot}
use Rattle.capture_bytes.specs.Filling.{Fills, unread}
use Rattle.capture_bytes.specs.FillingLaws.{fills_behind, put_end, room_of}
use Rattle.pcapng_io.proofs.read.fill_behind.Goals as goal

pub returns-in-Ok-clause-ok : goal.returns-in-Ok-clause-ok
returns-in-Ok-clause-ok g c =
    let first = take c.args.known c.args.buffer.now in
    let piece = c.fill.new.into in
    let old = g.D.Desk.slots c.args.desk.now CaptureSlot in
    let new = g.D.Desk.slots c.fill.new.desk CaptureSlot in
    let size : length first ≡ c.args.known = length-take-le c.args.known c.args.buffer.now c.requires.within in
    rw (put_end c.args.known c.args.buffer.now piece c.requires.within (room_of c.args.known c.args.buffer.now piece c.requires.within c.fill.auto.into))
    (subst (λ n. Fills (n + c.in-Ok.count) (first ++ piece) (unread first old) new) size (fills_behind first piece c.in-Ok.count old new c.in-Ok.ensures.ok))
