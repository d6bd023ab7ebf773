use Rattle.std.proofs.Common.{◌-◌, ◌*◌, arith}
use Rattle.std.proofs.lemmas.Nat.{shl_whole}
use Rattle.policy_text.proofs.value6.Groups.in_front.Goals as goal

pub returns-else-self-eq0 : goal.returns-else-self-eq0
returns-else-self-eq0 c = shl_whole c.args.self.value (16 * c.args.self.count) (16 * (8 - c.args.self.count)) 128 c.requires.narrow (omega arith)
