use Rattle.nf_translate.proofs.DecidingLines.{does_as}
use Rattle.nf_translate.proofs.laws.a_translation_does_what_the_deciding_line_says.Goals as goal

pub returns : goal.returns
returns c = record { does = λ fixed n v. does_as n _ }
