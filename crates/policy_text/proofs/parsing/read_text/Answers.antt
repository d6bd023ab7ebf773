use Rattle.std.proofs.Common.{◌∙◌, sym, ap}
use Rattle.std.specs.Prelude.{Err}
use Rattle.policy_text.specs.declared.fault.TextFault.TheVariants.{NotUtf8}
use Rattle.policy_text.proofs.Remaining.{whole_text, part_text}
use Rattle.policy_text.proofs.parsing.read_text.Goals as goal

pub returns-in-Ok : goal.returns-in-Ok
returns-in-Ok c = rw (whole_text c.args.bytes.now c.in-Ok.ensures.cases.1) c.read_utf8.ensures

pub returns-in-Err : goal.returns-in-Err
returns-in-Err c = part_text c.args.bytes.now _ c.in-Err.ensures.cases.1 ∙ ap (λ n. Err (NotUtf8 n)) (sym c.valid_up_to.ensures)
