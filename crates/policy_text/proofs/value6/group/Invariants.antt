use Rattle.policy_text.proofs.GroupReading.{IsRead}
use Rattle.policy_text.proofs.value6.group.Given as goal

-- the digits so far
abbrev pub invariant-digits : goal.invariant-digits
invariant-digits l = IsRead l.text l.digit-index l.value
