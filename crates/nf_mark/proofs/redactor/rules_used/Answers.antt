use Rattle.std.proofs.Common.{◌∙◌, ◌++◌, ◌+◌, ◌∷◌, [], drop, ap}
use Rattle.packet_function.specs.declared.deciding.DecidingLine.TheVariants.{Rule}
use Rattle.nf_mark.specs.Redactors.{rules_from}
use Rattle.nf_mark.proofs.UsedPatterns.{one_begins, one_follows}
use Rattle.nf_mark.proofs.redactor.rules_used.Goals as goal

pub returns-then-later-patterns : goal.returns-then-later-patterns
returns-then-later-patterns c =
    c.in_ok-push.ensures.items
    ∙ ap (λ l. l ++ Rule c.args.first ∷ []) c.new-rules.ensures.items
    ∙ one_begins c.args.patterns.now c.args.payload.now c.args.first c.requires.first c.if-later-patterns.true

pub returns : goal.returns
returns c =
    c.in_ok-push_later.ensures
    ∙ ap (λ l. l ++ rules_from (c.args.first + 1) (drop (c.args.first + 1) c.args.patterns.now) c.as_mut_slice.result.now)
    (c.in_ok-push.ensures.items ∙ ap (λ l. l ++ Rule c.args.first ∷ []) c.new-rules.ensures.items)
    ∙ one_follows c.args.patterns.now c.args.payload.now c.args.first c.requires.first c.index-patterns-first.result c.as_mut_slice.result.now c.index-patterns-first.is
    (c.as_mut_slice.ensures.value ∙ c.in_ok-left.ensures)
