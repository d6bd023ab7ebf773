use Rattle.std.proofs.Common.{rules, ◌≡◌, ◌<◌, ◌^◌, true, arith}
use Rattle.command_words.specs.Words.{is_numeral}
use Rattle.command_words.proofs.Digits.{no_number}
use Rattle.command_words.proofs.numbers.number.Goals as goal

pub returns-in_default-clause-value : goal.returns-in_default-clause-value
returns-in_default-clause-value c =
    let spelled : is_numeral c.args.word.now ≡ true = search rules in
    let fits : c.args.high < 2 ^ 64 = omega arith in
    no_number c.args.which c.args.low c.args.high c.args.word.now c.in_default.field-0 fits spelled c.in_default.ensures.value.0
