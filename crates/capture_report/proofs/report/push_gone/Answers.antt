use Rattle.std.proofs.Common.{◌≡◌, ◌∙◌, ◌++◌, length, refl, ap, subst, sym}
use Rattle.std.specs.Prelude.{OnOk}
use Rattle.std.proofs.lemmas.List.{append-nil}
use Rattle.std.proofs.lemmas.Option.{slice_get_past, slice_get_read}
use Rattle.capture_report.proofs.Dropping.{line_of_chain, line_of_none}
use Rattle.capture_report.proofs.report.push_gone.Goals as goal

pub returns-in-Some : goal.returns-in-Some
returns-in-Some c =
    subst (λ l. OnOk c.push_dropped.result (c.push_dropped.new.text.items ≡ c.args.text.now.items ++ l))
    (sym (line_of_chain c.args.chains.now c.in-Some.chain.now c.args.number c.args.class c.args.position
    (slice_get_read c.args.chains.now (length c.args.chains.now) c.args.class c.in-Some.chain.now refl c.in-Some.ensures.lookup.3.0 c.in-Some.ensures.lookup.1)))
    c.push_dropped.ensures

pub returns-in-None : goal.returns-in-None
returns-in-None c =
    sym (append-nil c.args.text.now.items)
    ∙ ap (λ l. c.args.text.now.items ++ l) (sym (line_of_none c.args.chains.now c.args.number c.args.class c.args.position (slice_get_past c.args.chains.now c.args.class c.in-None.ensures.lookup.3)))
