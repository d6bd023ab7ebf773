use Rattle.segment_run.proofs.Leading.{entry_adds}
use Rattle.segment_run.proofs.laws.entry_grows.Goals as goal

pub returns : goal.returns
returns c = λ frame. entry_adds c.args.tunnel.now frame (c.an_entry_adds_twenty_bytes.ensures.changes frame) (c.an_entry_adds_twenty_bytes.ensures.length frame)
