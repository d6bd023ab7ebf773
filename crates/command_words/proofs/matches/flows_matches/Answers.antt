use Rattle.std.proofs.Common.{map, string_bytes}
use Rattle.command_words.specs.Apps.{flows_app, flows_names}
use Rattle.command_words.specs.Words.{flows_options}
use Rattle.command_words.proofs.Agreement.{flows_is_simple, flows_reads}
use Rattle.command_words.proofs.Matching.{all_text, matches_fit}
use Rattle.command_words.proofs.matches.flows_matches.Goals as goal

pub returns : goal.returns
returns c =
    let words = map string_bytes c.args.words.now in
    matches_fit flows_app flows_names flows_options words c.matches_of.result flows_is_simple (flows_reads words (all_text c.args.words.now)) c.matches_of.ensures
