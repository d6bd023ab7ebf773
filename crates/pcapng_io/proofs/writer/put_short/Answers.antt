use Rattle.std.proofs.Common.{subst}
use Rattle.std.proofs.lemmas.Result.{on_ok_weaker, on_err_weaker}
use Rattle.nfp_outside.specs.declared.slot.Slot.TheVariants.{Out}
use Rattle.nfp_outside.specs.Outside.{Appends, AppendsPrefix}
use Rattle.pcapng_io.proofs.Short.{pieces_whole}
use Rattle.pcapng_io.proofs.writer.put_short.Goals as goal

pub returns-clause-ok : goal.returns-clause-ok
returns-clause-ok g c =
    on_ok_weaker c.write_whole.result
    (subst (λ l. Appends l (g.D.Desk.slots c.args.desk.now Out) (g.D.Desk.slots c.write_whole.new.desk Out))
    (pieces_whole c.args.head.now c.args.frame.now _ c.put_piece.new.bytes c.put_piece-2.new.bytes c.put_u32.new.bytes c.args.padding c.requires.head c.requires.short c.requires.few c.put_piece.ensures c.put_piece-2.ensures c.put_u32.ensures.number))
    c.write_whole.ensures.ok

pub returns-clause-err : goal.returns-clause-err
returns-clause-err g c =
    on_err_weaker c.write_whole.result
    (subst (λ l. AppendsPrefix l (g.D.Desk.slots c.args.desk.now Out) (g.D.Desk.slots c.write_whole.new.desk Out))
    (pieces_whole c.args.head.now c.args.frame.now _ c.put_piece.new.bytes c.put_piece-2.new.bytes c.put_u32.new.bytes c.args.padding c.requires.head c.requires.short c.requires.few c.put_piece.ensures c.put_piece-2.ensures c.put_u32.ensures.number))
    c.write_whole.ensures.err
