-- What follows a frame is put in three pieces, if there are options.
use Rattle.std.proofs.Common.{◌≡◌, ◌≤◌, ◌++◌, ◌∷◌, [], ℕ, List, subst, take}
use Rattle.std.specs.Prelude.{replicate}
use Rattle.std.proofs.lemmas.Result.{on_ok_weaker, on_err_weaker}
use Rattle.nfp_outside.specs.declared.slot.Slot.TheVariants.{Out}
use Rattle.nfp_outside.specs.Outside.{Appends, AppendsPrefix}
use Rattle.pcapng_io.proofs.Pieces.{zeros}
use Rattle.pcapng_io.proofs.writer.put_tail.Goals as goal

whole : (padding : ℕ) (options tail length : List ℕ) → padding ≤ 4 → tail ≡ length → take {A = ℕ} padding (0 ∷ 0 ∷ 0 ∷ 0 ∷ []) ++ options ++ tail ≡ replicate padding 0 ++ options ++ length
whole padding options tail length few is = λ i. zeros padding few i ++ options ++ is i

pub returns-else-is_empty-clause-ok : goal.returns-else-is_empty-clause-ok
returns-else-is_empty-clause-ok g c =
    on_ok_weaker c.put_three.result
    (subst (λ l. Appends l (g.D.Desk.slots c.args.desk.now Out) (g.D.Desk.slots c.put_three.new.desk Out)) (whole c.args.padding c.args.options.now c.spelled.result _ c.requires.few c.spelled.ensures))
    c.put_three.ensures.ok

pub returns-else-is_empty-clause-err : goal.returns-else-is_empty-clause-err
returns-else-is_empty-clause-err g c =
    on_err_weaker c.put_three.result
    (subst (λ l. AppendsPrefix l (g.D.Desk.slots c.args.desk.now Out) (g.D.Desk.slots c.put_three.new.desk Out)) (whole c.args.padding c.args.options.now c.spelled.result _ c.requires.few c.spelled.ensures))
    c.put_three.ensures.err
