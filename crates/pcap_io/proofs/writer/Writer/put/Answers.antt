-- A record is put by putting its head, and then its frame.
use Rattle.std.proofs.Common.{rules, ◌≡◌, subst}
use Rattle.std.proofs.lemmas.Result.{on_ok_weaker}
use Rattle.nfp_outside.specs.declared.slot.Slot.TheVariants.{Out}
use Rattle.nfp_outside.specs.Outside.{Appends}
use Rattle.nfp_outside.specs.Adding.{appends_more}
use Rattle.pcap_io.specs.Written.{record_head}
use Rattle.pcap_io.proofs.writer.Writer.put.Goals as goal

pub returns-clause-ok : goal.returns-clause-ok
returns-clause-ok g c =
    let slots = g.D.Desk.slots in
    let old = slots c.args.desk.now Out in
    let mid = slots c.write_whole.new.desk Out in
    let new = slots c.write_whole-2.new.desk Out in
    let head : c.spell_record_head-head.result ≡ record_head c.args.self.now c.args.packet.now = search rules in
    let frame : c.bytes.result.now ≡ c.args.packet.now.frame = search rules in
    let first : Appends (record_head c.args.self.now c.args.packet.now) old mid = subst (λ h. Appends h old mid) head c.in_default.ensures.ok in
    on_ok_weaker c.write_whole-2.result
    (λ second. appends_more (record_head c.args.self.now c.args.packet.now) c.args.packet.now.frame old mid new first (subst (λ b. Appends b mid new) frame second))
    c.write_whole-2.ensures.ok
