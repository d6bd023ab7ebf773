use Rattle.std.proofs.Common.{◌∙◌, length, refl, sym}
use Rattle.std.proofs.lemmas.Option.{slice_get_past, slice_get_read}
use Rattle.why_account.proofs.Noting.{function_noted, function_unmoved}
use Rattle.why_account.proofs.function.FunctionAccount.note.Goals as goal

pub returns-in-Some : goal.returns-in-Some
returns-in-Some c = λ number order decl ways way keeps class are was.
    function_noted number order decl ways way keeps c.args.acts.now class are c.args.self.now c.in-Some.act.now c.note.new.self was
    (slice_get_read c.args.acts.now (length c.args.acts.now) c.args.self.now.place c.in-Some.act.now refl c.in-Some.ensures.lookup.3.0 c.in-Some.ensures.lookup.1)
    (λ d acts act is_lines is_deciding dropped changed before. c.note.ensures d acts act is_lines (is_deciding ∙ sym c.as_slice.ensures) dropped changed before)

pub returns-in-None : goal.returns-in-None
returns-in-None c = λ number order decl ways way keeps class are was.
    function_unmoved number order decl ways way keeps c.args.acts.now class are c.args.self.now was (slice_get_past c.args.acts.now c.args.self.now.place c.in-None.ensures.lookup.3)
