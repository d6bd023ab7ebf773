use Rattle.std.proofs.Common.{◌∙◌, []}
use Rattle.clap.specs.Words.{with_rule}
use Rattle.command_words.specs.Apps.{app}
use Rattle.command_words.proofs.Rules.{one_more}
use Rattle.command_words.proofs.commands.command.Goals as goal

pub loop-argument-preserved : goal.loop-argument-preserved
loop-argument-preserved c =
    c.in_ok-command.ensures.shape c.told.ensures.local ∙ (λ i. with_rule (c.loop-argument.invariant i) (c.told.ensures.rule i))
    ∙ one_more (app c.args.name.now [] []) c.args.arguments.now c.loop-argument.argument-index _ c.loop-argument-test.true
