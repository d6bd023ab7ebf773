use Rattle.std.proofs.Common.{◌≡◌, take}
use Rattle.policy_judge.specs.Kept.{kept_each}
use Rattle.policy_judge.specs.Settings.{least_among}
use Rattle.policy_judge.proofs.making.make_each.Given as goal

abbrev pub invariant-decls : goal.invariant-decls
invariant-decls l = record {
  least : l.least ≡ least_among l.fn.least (take l.decl-index l.decls);
  functions : l.functions.items ≡ kept_each (take l.decl-index l.decls);
}
