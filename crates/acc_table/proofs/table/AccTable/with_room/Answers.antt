use Rattle.std.proofs.Common.{ap, sym, ◌∙◌, is_some, unwrap_or}
use Rattle.std.proofs.lemmas.Bool.{false≢true}
use Rattle.acc_table.specs.Arrivals.{nothing}
use Rattle.acc_table.proofs.Keeping.{none_waits, shown, shown-free}
use Rattle.acc_table.proofs.Placing.{kept_begun, linked_begun}
use Rattle.acc_table.proofs.table.AccTable.with_room.Goals as goal

pub returns : goal.returns
returns g c =
    let none = none_waits c.args.branches c.in_ok-free_rows.field-0.items c.args.entries (nothing c.args.branches) c.in_ok-free_rows.ensures in
    record {
      made = ap (shown c.args.branches) c.in_ok-free_rows.ensures ∙ shown-free c.args.branches c.args.entries (nothing c.args.branches);
      nothing = λ p. ap (λ o. unwrap_or o (nothing c.args.branches)) (none p);
      none_open = λ p is. false≢true (sym (ap is_some (none p)) ∙ is);
    }

pub invariant_of-result : goal.invariant_of-result
invariant_of-result g c = record {
  kept = kept_begun c.args.entries c.args.branches c.in_ok-free_rows.field-0.items c.requires.few_entries c.in_ok-free_rows.ensures;
  linked = linked_begun c.args.entries (nothing c.args.branches) c.in_ok-free_rows.field-0.items c.in_ok-all_free.field-0 c.in_ok-free_rows.ensures c.in_ok-all_free.ensures;
}
