use Rattle.std.proofs.Common.{ap, arith, length}
use Rattle.policy_text.proofs.Latest.{set_up_here}
use Rattle.policy_text.proofs.draft.Draft.add_setting.Goals as goal

pub returns : goal.returns
returns c = set_up_here c.self.inside.chains.items c.args.self.now _ c.index_mut.result.now _ _ c.self.view_is c.requires (omega (arith, ap length c.self.view_is)) c.index_mut.ensures.value c.in_ok-push_setting.ensures.ok
