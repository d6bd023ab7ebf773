use Rattle.std.proofs.Common.{◌≡◌, ◌∙◌, ap, sym, take, length, arith}
use Rattle.nfp_outside.specs.declared.slot.Slot.TheVariants.{Capture as CaptureSlot}
use Rattle.capture_bytes.specs.Filling.{unread}
use Rattle.pcapng_io.specs.declared.block_kind.BlockKind.TheVariants.{SectionHeader}
use Rattle.pcapng_io.specs.Blocks.{kind_in, order_in}
use Rattle.pcapng_io.specs.Reader.{RefusesBlock}
use Rattle.pcapng_io.proofs.FirstBlock.{IsNumbered, cut_numbered, head_numbered}
use Rattle.pcapng_io.proofs.Heads.{Begins, same_kind}
use Rattle.pcapng_io.proofs.Slots.{only_fault, cut_of, section_cut, head_told, known_first, full_length}
use Rattle.pcapng_io.proofs.read.open_section.Goals as goal

pub returns-then-count-lt-SECTION_HEAD-clause-refused : goal.returns-then-count-lt-SECTION_HEAD-clause-refused
returns-then-count-lt-SECTION_HEAD-clause-refused g c =
    let old = g.D.Desk.slots c.args.desk.now CaptureSlot in
    let new = g.D.Desk.slots c.fill_behind.new.desk CaptureSlot in
    let front = c.args.front.now in
    let fills = known_first c.in_ok-count.count c.fill_behind.new.buffer (take 8 c.longer-head.result) front old new c.longer-head.ensures.front c.in_ok-count.ensures.ok in
    let place = c.args.place.now in
    only_fault (λ f. RefusesBlock f place (unread front old)) (cut_of place)
    (section_cut c.in_ok-count.count c.args.place.now front c.fill_behind.new.buffer old new c.requires.enough (c.fill_behind.auto.buffer ∙ c.longer-head.ensures.size) c.requires.section c.if-count-lt-SECTION_HEAD.true fills)

pub returns-in-Err-clause-refused : goal.returns-in-Err-clause-refused
returns-in-Err-clause-refused g c =
    let old = g.D.Desk.slots c.args.desk.now CaptureSlot in
    let new = g.D.Desk.slots c.fill_behind.new.desk CaptureSlot in
    let front = c.args.front.now in
    let head = c.fill_behind.new.buffer in
    let size : length head ≡ 12 = c.fill_behind.auto.buffer ∙ c.longer-head.ensures.size in
    let same : front ≡ take (length front) head = sym (ap (λ n. take n head) c.requires.enough ∙ c.fill_behind.ensures.kept ∙ c.longer-head.ensures.front) in
    let begins : Begins front head = record { front = same; long = omega (arith, c.requires.enough, size) } in
    let section : SectionHeader ≡ kind_in c.args.place.now.order head = sym c.requires.section ∙ same_kind c.args.place.now.order front head begins (omega (arith, c.requires.enough)) in
    let fills = known_first c.in_ok-count.count head (take 8 c.longer-head.result) front old new c.longer-head.ensures.front c.in_ok-count.ensures.ok in
    only_fault (λ f. RefusesBlock f c.args.place.now (unread front old)) c.in-Err.fault
    (head_told c.args.place.now SectionHeader head c.in-Err.fault (unread front old) new size section (full_length c.in_ok-count.count 12 head (unread front old) new size c.if-count-lt-SECTION_HEAD.false fills) c.in-Err.ensures.err)

pub returns-then-count-lt-SECTION_HEAD-clause-number : goal.returns-then-count-lt-SECTION_HEAD-clause-number
returns-then-count-lt-SECTION_HEAD-clause-number g c = let place = c.args.place.now in only_fault (IsNumbered place) (cut_of place) (cut_numbered place)

pub returns-in-Err-clause-number : goal.returns-in-Err-clause-number
returns-in-Err-clause-number g c =
    let place = c.args.place.now in
    only_fault (IsNumbered place) c.in-Err.fault (head_numbered place (order_in place.order SectionHeader c.fill_behind.new.buffer) SectionHeader c.fill_behind.new.buffer c.in-Err.fault c.in-Err.ensures.err)
