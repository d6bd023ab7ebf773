use Rattle.std.proofs.Common.{◌∙◌, ◌++◌, ◌∷◌, [], sym, arith}
use Rattle.why_account.specs.Accounts.{function_account}
use Rattle.why_account.proofs.Parts.{all_done, one_done}
use Rattle.why_account.proofs.function.note_each.Goals as goal

pub functions-preserved : goal.functions-preserved
functions-preserved c = λ number order decls ways way keeps class are was.
    one_done (function_account number order (ways ++ way ∷ [])) (function_account number order ways) decls c.functions.functions c.functions.function-index c.function-item.result c.note.new.self
    (omega arith) (c.functions.invariant number order decls ways way keeps class are was) c.function-item.is
    (λ decl is. c.note.ensures number order decl ways way keeps class are (sym c.function-item.is ∙ is))

pub returns : goal.returns
returns c = λ number order decls ways way keeps class are was.
    all_done (function_account number order (ways ++ way ∷ [])) (function_account number order ways) decls c.functions.functions c.functions.function-index
    (omega arith) (c.functions.invariant number order decls ways way keeps class are was)
