use Rattle.std.proofs.Common.{◌++◌}
use Rattle.std.specs.Prelude.{replicate}
use Rattle.std.proofs.lemmas.Result.{on_ok_weaker}
use Rattle.nfp_outside.specs.declared.slot.Slot.TheVariants.{Out}
use Rattle.nfp_outside.specs.Adding.{appends_more}
use Rattle.capture_bytes.specs.Numbers.{bytes_of}
use Rattle.pcapng_io.proofs.writer.put_long.Goals as goal

pub returns-clause-ok : goal.returns-clause-ok
returns-clause-ok g c =
    on_ok_weaker c.put_tail.result
    (λ second. appends_more (c.args.head.now ++ c.args.frame.now) (replicate c.args.padding 0 ++ c.args.options.now ++ bytes_of c.args.order 4 c.args.size) (g.D.Desk.slots c.args.desk.now Out) (g.D.Desk.slots c.put_two.new.desk Out) (g.D.Desk.slots c.put_tail.new.desk Out) c.in_default.ensures.ok second)
    c.put_tail.ensures.ok
