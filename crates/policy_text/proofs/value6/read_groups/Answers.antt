use Rattle.std.proofs.Common.{◌∙◌, sym}
use Rattle.policy_text.proofs.GroupReading.{no_part, last_part}
use Rattle.policy_text.proofs.value6.read_groups.Goals as goal

pub returns-in_err-groups-clause-read : goal.returns-in_err-groups-clause-read
returns-in_err-groups-clause-read c =
    let some = sym c.is_empty.ensures ∙ c.if-is_empty.false in
    c.from_residual.ensures ∙ no_part c.args.text.now c.parts.rest.now c.in-Some.part.now c.in-Some.behind.now c.parts.groups c.parts.invariant c.in-Some.ensures (sym c.in_err-groups.ensures.more) some

pub returns-clause-read : goal.returns-clause-read
returns-clause-read c =
    let some = sym c.is_empty.ensures ∙ c.if-is_empty.false in
    c.with-2.ensures.more ∙ last_part c.args.text.now c.parts.rest.now c.parts.groups c.parts.invariant c.in_default.ensures some
