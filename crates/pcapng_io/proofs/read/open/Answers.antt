use Rattle.std.proofs.Common.{◌≡◌, ◌∙◌, ap, sym, take, length, arith}
use Rattle.nfp_outside.specs.declared.slot.Slot.TheVariants.{Capture as CaptureSlot}
use Rattle.capture_bytes.specs.Filling.{unread}
use Rattle.capture_bytes.specs.FillingLaws.{taken_twice}
use Rattle.pcapng_io.specs.declared.read.BlockHead.{BlockHead}
use Rattle.pcapng_io.specs.Blocks.{kind_in, kind_of, is_section}
use Rattle.pcapng_io.proofs.Choices.{otherwise}
use Rattle.pcapng_io.specs.Reader.{RefusesBlock, Opens, head_length}
use Rattle.std.specs.Prelude.{false}
use Rattle.pcapng_io.proofs.FirstBlock.{IsNumbered, cut_numbered, not_section, section_begins}
use Rattle.pcapng_io.proofs.Slots.{only_fault, cut_of, at_end, head_cut, head_told, known_first, full, full_length, opens_further, refuses_further, ok_some}
use Rattle.pcapng_io.proofs.read.open.Goals as goal

pub returns-then-count-eq0-clause-end : goal.returns-then-count-eq0-clause-end
returns-then-count-eq0-clause-end g c =
    let old = g.D.Desk.slots c.args.desk.now CaptureSlot in
    let new = g.D.Desk.slots c.fill_behind.new.desk CaptureSlot in
    let first = c.args.first.now in
    at_end c.in_ok-count.count c.args.place.now c.fill_behind.new.buffer (unread first old) new (c.fill_behind.auto.buffer ∙ c.behind-front.ensures.size) c.if-count-eq0.true
    (known_first c.in_ok-count.count c.fill_behind.new.buffer (take (length first) c.behind-front.result) first old new c.behind-front.ensures.front c.in_ok-count.ensures.ok)

pub returns-then-count-lt-HEAD-clause-refused : goal.returns-then-count-lt-HEAD-clause-refused
returns-then-count-lt-HEAD-clause-refused g c =
    let old = g.D.Desk.slots c.args.desk.now CaptureSlot in
    let new = g.D.Desk.slots c.fill_behind.new.desk CaptureSlot in
    let first = c.args.first.now in
    let place = c.args.place.now in
    only_fault (λ f. RefusesBlock f place (unread first old)) (cut_of place)
    (head_cut c.in_ok-count.count c.args.place.now c.fill_behind.new.buffer (unread first old) new (c.fill_behind.auto.buffer ∙ c.behind-front.ensures.size) (omega (arith, c.if-count-eq0.false)) c.if-count-lt-HEAD.true
    (known_first c.in_ok-count.count c.fill_behind.new.buffer (take (length first) c.behind-front.result) first old new c.behind-front.ensures.front c.in_ok-count.ensures.ok))

pub returns-then-count-lt-HEAD-clause-number : goal.returns-then-count-lt-HEAD-clause-number
returns-then-count-lt-HEAD-clause-number g c = let place = c.args.place.now in only_fault (IsNumbered place) (cut_of place) (cut_numbered place)

pub returns-then-is_section-clause-opened : goal.returns-then-is_section-clause-opened
returns-then-is_section-clause-opened g c =
    let old = g.D.Desk.slots c.args.desk.now CaptureSlot in
    let mid = g.D.Desk.slots c.fill_behind.new.desk CaptureSlot in
    let new = g.D.Desk.slots c.open_section.new.desk CaptureSlot in
    let first = c.args.first.now in
    let front = c.fill_behind.new.buffer in
    let place = c.args.place.now in
    let size : length front ≡ 8 = c.fill_behind.auto.buffer ∙ c.behind-front.ensures.size in
    let fills = full c.in_ok-count.count 8 front (unread first old) mid size c.if-count-lt-HEAD.false
    (known_first c.in_ok-count.count front (take (length first) c.behind-front.result) first old mid c.behind-front.ensures.front c.in_ok-count.ensures.ok) in
    ok_some (λ (b : BlockHead). Opens place b.kind b.order b.length (take (head_length b.kind) b.bytes) (unread front mid) new) (λ (b : BlockHead). Opens place b.kind b.order b.length (take (head_length b.kind) b.bytes) (unread first old) new)
    c.open_section.result (λ b opens. opens_further place b.kind b.order b.length 8 front (take (head_length b.kind) b.bytes) (unread first old) mid new size fills opens) c.open_section.ensures.opened

pub returns-then-is_section-clause-refused : goal.returns-then-is_section-clause-refused
returns-then-is_section-clause-refused g c =
    let old = g.D.Desk.slots c.args.desk.now CaptureSlot in
    let mid = g.D.Desk.slots c.fill_behind.new.desk CaptureSlot in
    let first = c.args.first.now in
    let front = c.fill_behind.new.buffer in
    let size : length front ≡ 8 = c.fill_behind.auto.buffer ∙ c.behind-front.ensures.size in
    let fills = full c.in_ok-count.count 8 front (unread first old) mid size c.if-count-lt-HEAD.false
    (known_first c.in_ok-count.count front (take (length first) c.behind-front.result) first old mid c.behind-front.ensures.front c.in_ok-count.ensures.ok) in
    λ fault is. refuses_further fault c.args.place.now 8 front (unread first old) mid size fills (c.open_section.ensures.refused fault is)

pub returns-then-is_section-clause-taken : goal.returns-then-is_section-clause-taken
returns-then-is_section-clause-taken g c =
    taken_twice 8 12 (g.D.Desk.slots c.args.desk.now CaptureSlot) (g.D.Desk.slots c.fill_behind.new.desk CaptureSlot) (g.D.Desk.slots c.open_section.new.desk CaptureSlot)
    (rw (sym c.behind-front.ensures.size) c.fill_behind.ensures.taken) c.open_section.ensures.taken

pub returns-else-is_section-clause-refused : goal.returns-else-is_section-clause-refused
returns-else-is_section-clause-refused g c =
    let old = g.D.Desk.slots c.args.desk.now CaptureSlot in
    let mid = g.D.Desk.slots c.fill_behind.new.desk CaptureSlot in
    let first = c.args.first.now in
    let front = c.fill_behind.new.buffer in
    let size : length front ≡ 8 = c.fill_behind.auto.buffer ∙ c.behind-front.ensures.size in
    let place = c.args.place.now in
    let kind = c.kind_of-kind.result in
    let is_kind : kind ≡ kind_in place.order front = c.kind_of-kind.ensures ∙ ap kind_of c.u32_at.ensures in
    let eight : head_length kind ≡ 8 = otherwise (is_section kind) 12 8 (sym c.is_section.ensures ∙ c.if-is_section.false) in
    let fills = full_length c.in_ok-count.count 8 front (unread first old) mid size c.if-count-lt-HEAD.false
    (known_first c.in_ok-count.count front (take (length first) c.behind-front.result) first old mid c.behind-front.ensures.front c.in_ok-count.ensures.ok) in
    λ fault is. head_told place kind front fault (unread first old) mid (size ∙ sym eight) is_kind fills (c.open_other.ensures.refused fault is)

pub returns-else-is_section-clause-section : goal.returns-else-is_section-clause-section
returns-else-is_section-clause-section g c =
    let place = c.args.place.now in
    let front = c.fill_behind.new.buffer in
    let kind = c.kind_of-kind.result in
    let is_kind : kind ≡ kind_in place.order front = c.kind_of-kind.ensures ∙ ap kind_of c.u32_at.ensures in
    let other : is_section kind ≡ false = sym c.is_section.ensures ∙ c.if-is_section.false in
    λ is. absurd (not_section kind (is_kind ∙ section_begins place.order c.args.first.now front is (c.fill_behind.ensures.kept ∙ c.behind-front.ensures.front)) other)
