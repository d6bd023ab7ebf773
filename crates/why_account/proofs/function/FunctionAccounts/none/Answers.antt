use Rattle.std.proofs.Common.{[]}
use Rattle.why_account.specs.Accounts.{function_account}
use Rattle.why_account.proofs.Naming.{made_one}
use Rattle.why_account.proofs.function.FunctionAccounts.none.Goals as goal

pub decls-preserved : goal.decls-preserved
decls-preserved c = λ number order are.
    made_one (function_account number order []) c.args.decls.now c.decls.decl-index c.decl-item.result c.in_ok-none.field-0 c.decls.items.items c.push.new.self.items c.decls-test.true c.decl-item.is
    (c.decls.invariant number order are) (c.in_ok-none.ensures number order are) c.in_ok-push.ensures.items
