use Rattle.merge_ops.proofs.OnlyBranch.{alone_whole, alone_gone, alone_short}
use Rattle.merge_ops.proofs.alone.merge_only.Goals as goal

pub returns-in-Version : goal.returns-in-Version
returns-in-Version c = λ base keeps. alone_whole base c.args.arrival c.in-Version.version c.merge_whole.result c.in-Version.is keeps c.merge_whole.ensures

pub returns-in-Nil : goal.returns-in-Nil
returns-in-Nil c = λ base keeps. alone_gone base c.args.arrival c.in-Nil.position c.in-Nil.is

pub returns-in-Short : goal.returns-in-Short
returns-in-Short c = λ base keeps. alone_short base c.args.arrival c.in-Short.is
