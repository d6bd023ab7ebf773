use Rattle.std.proofs.Common.{map, string_bytes}
use Rattle.command_words.specs.Apps.{demo_app, demo_names}
use Rattle.command_words.specs.Words.{demo_options}
use Rattle.command_words.proofs.Agreement.{demo_is_simple, demo_reads}
use Rattle.command_words.proofs.Matching.{all_text, matches_fit}
use Rattle.command_words.proofs.matches.demo_matches.Goals as goal

pub returns : goal.returns
returns c =
    let words = map string_bytes c.args.words.now in
    matches_fit demo_app demo_names demo_options words c.matches_of.result demo_is_simple (demo_reads words (all_text c.args.words.now)) c.matches_of.ensures
