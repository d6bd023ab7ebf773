-- The search is over the desk's list, and the number is that of the slot's next call.
use Rattle.std.proofs.Common.{◌↔◌, IsTrue, Contains, subst}
use Rattle.nfp_outside.specs.Memory.{listed}
use Rattle.nfp_outside.proofs.memory.MemDesk.fails_next.Goals as goal

pub returns : goal.returns
returns c =
    let here = subst (λ calls. IsTrue c.is_listed.result ↔ Contains calls (c.args.slot, c.calls.result)) c.deref.ensures.value c.is_listed.ensures in
    subst (λ number. IsTrue c.is_listed.result ↔ Contains (listed c.args.self.now) (c.args.slot, number)) c.calls.ensures here
