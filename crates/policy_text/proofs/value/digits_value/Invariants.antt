use Rattle.std.proofs.Common.{◌≡◌, take}
use Rattle.std.specs.Str.Parse.{digits_value}
use Rattle.policy_text.proofs.value.digits_value.Given as goal

-- the value of the digits so far
abbrev pub invariant-digits : goal.invariant-digits
invariant-digits l = l.value ≡ digits_value 10 (take l.b-index l.text)
