use Rattle.std.proofs.Common.{take, length, refl}
use Rattle.nfp_outside.specs.declared.slot.Slot.TheVariants.{Capture as CaptureSlot}
use Rattle.capture_bytes.specs.Filling.{unread}
use Rattle.capture_bytes.specs.FillingLaws.{taken_twice}
use Rattle.pcapng_io.specs.Reader.{Opens, head_length}
use Rattle.pcapng_io.specs.declared.fault.NgReadFault.TheVariants.{Ng}
use Rattle.pcapng_io.proofs.Slots.{refuses_further, retyped}
use Rattle.pcapng_io.proofs.Reading.{reads_item, refuses_read}
use Rattle.pcapng_io.proofs.FirstBlock.{first_content, later_content, number_first, number_later}
use Rattle.pcapng_io.proofs.reader.read.Goals as goal

pub returns-in-Err-close-clause-refused : goal.returns-in-Err-close-clause-refused
returns-in-Err-close-clause-refused g c =
    let old = g.D.Desk.slots c.args.desk.now CaptureSlot in
    let mid = g.D.Desk.slots c.open.new.desk CaptureSlot in
    let place = c.args.place.now in
    let x = unread c.args.first.now old in
    let h = c.in-Ok-Some.head in
    let head = take (head_length h.kind) h.bytes in
    let opens : Opens place h.kind h.order h.length head x mid = rw c.in-Ok-Some.field-0-is at c.in-Ok-Some.ensures.opened in
    λ fault is. refuses_further fault place (length head) head x mid refl opens.fills (c.in-Err-close.ensures.refused fault (retyped c.in-Err-close.fault (Ng fault) is))

pub returns-in-Err-close-clause-taken : goal.returns-in-Err-close-clause-taken
returns-in-Err-close-clause-taken g c =
    taken_twice 20 16777216 (g.D.Desk.slots c.args.desk.now CaptureSlot) (g.D.Desk.slots c.open.new.desk CaptureSlot) (g.D.Desk.slots c.close.new.desk CaptureSlot) c.in-Ok-Some.ensures.taken c.in-Err-close.ensures.taken

pub returns-in-Ok-give-clause-item : goal.returns-in-Ok-give-clause-item
returns-in-Ok-give-clause-item g c =
    let old = g.D.Desk.slots c.args.desk.now CaptureSlot in
    let mid = g.D.Desk.slots c.open.new.desk CaptureSlot in
    let new = g.D.Desk.slots c.close.new.desk CaptureSlot in
    let place = c.args.place.now in
    let x = unread c.args.first.now old in
    let h = c.in-Ok-Some.head in
    let head = take (head_length h.kind) h.bytes in
    let opens : Opens place h.kind h.order h.length head x mid = rw c.in-Ok-Some.field-0-is at c.in-Ok-Some.ensures.opened in
    reads_item place c.give.new.place h.kind h.order h.length head c.in-Ok.block.items c.in-Ok-give.item x mid new opens c.in-Ok.ensures.closed c.in-Ok-give.ensures.ok

pub returns-in-Ok-give-clause-taken : goal.returns-in-Ok-give-clause-taken
returns-in-Ok-give-clause-taken g c =
    taken_twice 20 16777216 (g.D.Desk.slots c.args.desk.now CaptureSlot) (g.D.Desk.slots c.open.new.desk CaptureSlot) (g.D.Desk.slots c.close.new.desk CaptureSlot) c.in-Ok-Some.ensures.taken c.in-Ok.ensures.taken

pub returns-in-Err-give-clause-refused : goal.returns-in-Err-give-clause-refused
returns-in-Err-give-clause-refused g c =
    let old = g.D.Desk.slots c.args.desk.now CaptureSlot in
    let mid = g.D.Desk.slots c.open.new.desk CaptureSlot in
    let new = g.D.Desk.slots c.close.new.desk CaptureSlot in
    let place = c.args.place.now in
    let x = unread c.args.first.now old in
    let h = c.in-Ok-Some.head in
    let head = take (head_length h.kind) h.bytes in
    let opens : Opens place h.kind h.order h.length head x mid = rw c.in-Ok-Some.field-0-is at c.in-Ok-Some.ensures.opened in
    λ fault is. refuses_read place h.kind h.order h.length head c.in-Ok.block.items fault x mid new opens c.in-Ok.ensures.closed (c.in-Err-give.ensures.refused fault (retyped c.in-Err-give.fault (Ng fault) is))

pub returns-in-Err-give-clause-taken : goal.returns-in-Err-give-clause-taken
returns-in-Err-give-clause-taken g c =
    taken_twice 20 16777216 (g.D.Desk.slots c.args.desk.now CaptureSlot) (g.D.Desk.slots c.open.new.desk CaptureSlot) (g.D.Desk.slots c.close.new.desk CaptureSlot) c.in-Ok-Some.ensures.taken c.in-Ok.ensures.taken

pub returns-in-Err-close-clause-first_block : goal.returns-in-Err-close-clause-first_block
returns-in-Err-close-clause-first_block g c = λ is none fault told. number_first c.args.place.now fault none (c.in-Err-close.ensures.number fault (retyped c.in-Err-close.fault (Ng fault) told))

pub returns-in-Err-close-clause-later_block : goal.returns-in-Err-close-clause-later_block
returns-in-Err-close-clause-later_block g c = λ some fault told. number_later c.args.place.now fault some (c.in-Err-close.ensures.number fault (retyped c.in-Err-close.fault (Ng fault) told))

pub returns-in-Err-give-clause-first_block : goal.returns-in-Err-give-clause-first_block
returns-in-Err-give-clause-first_block g c =
    let h = c.in-Ok-Some.head in
    λ is none fault told. first_content c.args.place.now h.order h.kind c.in-Ok.block.items fault (rw c.in-Ok-Some.field-0-is at (c.in-Ok-Some.ensures.section is)) none (c.in-Err-give.ensures.refused fault (retyped c.in-Err-give.fault (Ng fault) told))

pub returns-in-Err-give-clause-later_block : goal.returns-in-Err-give-clause-later_block
returns-in-Err-give-clause-later_block g c =
    let h = c.in-Ok-Some.head in
    λ some fault told. later_content c.args.place.now h.order h.kind c.in-Ok.block.items fault some (c.in-Err-give.ensures.refused fault (retyped c.in-Err-give.fault (Ng fault) told))
