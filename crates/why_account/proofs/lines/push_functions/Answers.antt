use Rattle.std.proofs.Common.{length, refl}
use Rattle.std.proofs.lemmas.Option.{slice_get_read}
use Rattle.why_account.specs.Accounts.{function_lines_of}
use Rattle.why_account.proofs.Adding.{functions_more}
use Rattle.why_account.proofs.lines.push_functions.Goals as goal

pub decls-preserved : goal.decls-preserved
decls-preserved c = λ number order ways are.
    functions_more (function_lines_of c.args.chain.now number order ways) c.args.decls.now c.decls.place c.index-decls-place.result c.args.text.now.items c.decls.text.items c.push_function.new.text.items
    c.decls-test.true c.index-decls-place.is (c.decls.invariant number order ways are)
    (c.in_ok-push_function.ensures number order ways c.args.decls.now are (slice_get_read c.args.decls.now (length c.args.decls.now) c.decls.place c.index-decls-place.result refl c.decls-test.true c.index-decls-place.is))
