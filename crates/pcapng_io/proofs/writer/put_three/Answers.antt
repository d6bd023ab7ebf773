use Rattle.std.proofs.Common.{◌++◌}
use Rattle.std.proofs.lemmas.Result.{on_ok_weaker}
use Rattle.nfp_outside.specs.declared.slot.Slot.TheVariants.{Out}
use Rattle.nfp_outside.specs.Adding.{appends_more}
use Rattle.pcapng_io.proofs.writer.put_three.Goals as goal

pub returns-clause-ok : goal.returns-clause-ok
returns-clause-ok g c =
    on_ok_weaker c.write_whole.result
    (λ second. appends_more (c.args.a.now ++ c.args.b.now) c.args.c.now (g.D.Desk.slots c.args.desk.now Out) (g.D.Desk.slots c.put_two.new.desk Out) (g.D.Desk.slots c.write_whole.new.desk Out) c.in_default.ensures.ok second)
    c.write_whole.ensures.ok
