use Rattle.std.proofs.Common.{◌∙◌, ap, sym, Some}
use Rattle.std.specs.Prelude.{bit_or}
use Rattle.policy_text.specs.Addresses6.{groups_of}
use Rattle.policy_text.proofs.GapFilling.{gap_filled}
use Rattle.policy_text.proofs.value6.around_gap.Goals as goal

pub returns-then-front-back-lt8 : goal.returns-then-front-back-lt8
returns-then-front-back-lt8 c =
    ap (λ v. Some (bit_or v c.in_ok-back.back.value)) c.in_front.ensures ∙
    gap_filled (groups_of c.args.front.now) (groups_of c.args.back.now) c.in_ok-front.front c.in_ok-back.back (sym c.in_ok-front.ensures.read) (sym c.in_ok-back.ensures.read) c.in_ok-back.ensures.narrow c.if-front-back-lt8.true
