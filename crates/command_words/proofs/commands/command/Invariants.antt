use Rattle.std.proofs.Common.{◌≡◌, [], map, take}
use Rattle.clap.specs.Words.{app_of}
use Rattle.command_words.specs.Apps.{app, rule_for, with_rules}
use Rattle.command_words.proofs.commands.command.Given as goal

-- the arguments so far
abbrev pub invariant-loop-argument : goal.invariant-loop-argument
invariant-loop-argument l = app_of l.command ≡ with_rules (app l.name [] []) (map rule_for (take l.argument-index l.arguments))
