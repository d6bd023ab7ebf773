use Rattle.std.proofs.Common.{map, string_bytes}
use Rattle.command_words.specs.Apps.{run_app, run_names}
use Rattle.command_words.specs.Words.{run_options}
use Rattle.command_words.proofs.Agreement.{run_is_simple, run_reads}
use Rattle.command_words.proofs.Matching.{all_text, matches_fit}
use Rattle.command_words.proofs.matches.run_matches.Goals as goal

pub returns : goal.returns
returns c =
    let words = map string_bytes c.args.words.now in
    matches_fit run_app run_names run_options words c.matches_of.result run_is_simple (run_reads words (all_text c.args.words.now)) c.matches_of.ensures
