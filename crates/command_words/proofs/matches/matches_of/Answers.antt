use Rattle.std.proofs.Common.{[], map, string_bytes}
use Rattle.clap.specs.Words.{app_of}
use Rattle.command_words.specs.Apps.{app, rule_for, with_rules}
use Rattle.command_words.proofs.Matching.{matched_to, refused_to}
use Rattle.command_words.proofs.matches.matches_of.Goals as goal

pub returns-in-Ok : goal.returns-in-Ok
returns-in-Ok c =
    matched_to (app_of c.in_ok-command.command) (with_rules (app c.args.name.now [] []) (map rule_for c.args.arguments.now)) (map string_bytes c.args.words.now)
    c.in-Ok.matches c.in_ok-command.ensures c.in-Ok.ensures.kinds c.in-Ok.ensures.matches

pub returns-in-Err : goal.returns-in-Err
returns-in-Err c =
    refused_to (app_of c.in_ok-command.command) (with_rules (app c.args.name.now [] []) (map rule_for c.args.arguments.now)) (map string_bytes c.args.words.now)
    c.in-Err.error c.refusal.result c.in_ok-command.ensures c.in-Err.ensures.kinds c.refusal.ensures
