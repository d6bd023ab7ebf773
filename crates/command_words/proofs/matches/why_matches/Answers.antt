use Rattle.std.proofs.Common.{map, string_bytes}
use Rattle.command_words.specs.Apps.{why_app, why_names}
use Rattle.command_words.specs.WhyWords.{why_options}
use Rattle.command_words.proofs.Agreement.{why_is_simple, why_reads}
use Rattle.command_words.proofs.Matching.{all_text, matches_fit}
use Rattle.command_words.proofs.matches.why_matches.Goals as goal

pub returns : goal.returns
returns c =
    let words = map string_bytes c.args.words.now in
    matches_fit why_app why_names why_options words c.matches_of.result why_is_simple (why_reads words (all_text c.args.words.now)) c.matches_of.ensures
