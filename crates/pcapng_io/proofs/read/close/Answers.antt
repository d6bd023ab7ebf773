use Rattle.std.proofs.Common.{◌≡◌, ◌∙◌, ap, sym, take, length}
use Rattle.nfp_outside.specs.declared.slot.Slot.TheVariants.{Capture as CaptureSlot}
use Rattle.capture_bytes.specs.Filling.{unread}
use Rattle.pcapng_io.specs.Reader.{RefusesBlock, head_length}
use Rattle.pcapng_io.proofs.FirstBlock.{IsNumbered, cut_numbered}
use Rattle.pcapng_io.proofs.Slots.{only_fault, cut_of, rest_cut, known_first}
use Rattle.pcapng_io.proofs.read.close.Goals as goal

pub returns-then-count-length-clause-refused : goal.returns-then-count-length-clause-refused
returns-then-count-length-clause-refused g c =
    let old = g.D.Desk.slots c.args.desk.now CaptureSlot in
    let new = g.D.Desk.slots c.fill_behind.new.desk CaptureSlot in
    let place = c.args.place.now in
    let bytes = c.args.head.now.bytes in
    let block = c.in-Ok.block.items in
    let known = c.head_length-known.result in
    let is : known ≡ head_length c.args.head.now.kind = c.head_length-known.ensures in
    let first = take (head_length c.args.head.now.kind) bytes in
    let size : length (take known bytes) ≡ known = ap (λ n. length (take n bytes)) is ∙ c.requires.says.enough ∙ sym is in
    let same : take known c.deref_mut.result.now ≡ first = ap (take known) c.deref_mut.ensures.value ∙ ap (λ n. take n block) (sym size) ∙ c.in-Ok.ensures.front ∙ ap (λ n. take n bytes) is in
    only_fault (λ f. RefusesBlock f place (unread first old)) (cut_of place)
    (rest_cut c.in_ok-count.count place c.args.head.now.kind c.args.head.now.order c.args.head.now.length first c.fill_behind.new.buffer old new c.requires.says
    (c.fill_behind.auto.buffer ∙ ap length c.deref_mut.ensures.value ∙ c.in-Ok.ensures.size) c.if-count-length.true
    (known_first c.in_ok-count.count c.fill_behind.new.buffer (take known c.deref_mut.result.now) first old new same c.in_ok-count.ensures.ok))

pub returns-then-count-length-clause-number : goal.returns-then-count-length-clause-number
returns-then-count-length-clause-number g c = let place = c.args.place.now in only_fault (IsNumbered place) (cut_of place) (cut_numbered place)
