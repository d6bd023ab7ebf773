-- A section header is put in three pieces.
use Rattle.std.proofs.Common.{◌≡◌, ◌∙◌, ◌++◌, ◌-◌, ℕ, List, ap, sym, subst, take, drop, length}
use Rattle.std.specs.Prelude.{replicate}
use Rattle.std.proofs.lemmas.Result.{on_ok_weaker, on_err_weaker}
use Rattle.nfp_outside.specs.declared.slot.Slot.TheVariants.{Out}
use Rattle.nfp_outside.specs.Outside.{Appends, AppendsPrefix}
use Rattle.pcapng_io.specs.Written.{section_bytes, item_bytes}
use Rattle.pcapng_io.specs.declared.item.NgItem.{NgItem}
use Rattle.pcapng_io.specs.declared.item.NgItem.TheVariants.{Section}
use Rattle.pcapng_io.proofs.Pieces.{rest_is}
use Rattle.pcapng_io.proofs.writer.put_item.Goals as goal

whole : (growth : ℕ) (item : NgItem) (block bytes : List ℕ) → item ≡ Section block → bytes ≡ block → take 16 bytes ++ replicate 8 255 ++ take (length bytes - 24) (drop 24 bytes) ≡ item_bytes growth item
whole growth item block bytes is same = ap (λ l. take 16 bytes ++ replicate 8 255 ++ l) (rest_is 24 bytes) ∙ ap section_bytes same ∙ sym (ap (item_bytes growth) is)

pub returns-in-Section-clause-ok : goal.returns-in-Section-clause-ok
returns-in-Section-clause-ok g c =
    on_ok_weaker c.put_three.result
    (subst (λ l. Appends l (g.D.Desk.slots c.args.desk.now Out) (g.D.Desk.slots c.put_three.new.desk Out)) (whole c.args.growth c.args.item.now c.in-Section.block c.bytes-block.result.now c.in-Section.is c.bytes-block.ensures))
    c.put_three.ensures.ok

pub returns-in-Section-clause-err : goal.returns-in-Section-clause-err
returns-in-Section-clause-err g c =
    on_err_weaker c.put_three.result
    (subst (λ l. AppendsPrefix l (g.D.Desk.slots c.args.desk.now Out) (g.D.Desk.slots c.put_three.new.desk Out)) (whole c.args.growth c.args.item.now c.in-Section.block c.bytes-block.result.now c.in-Section.is c.bytes-block.ensures))
    c.put_three.ensures.err
