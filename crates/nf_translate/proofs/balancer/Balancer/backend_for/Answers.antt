use Rattle.std.proofs.Common.{◌≡◌, length, subst, sym, true≢false}
use Rattle.nf_translate.specs.Balancers.{PlainBalancer}
use Rattle.nf_translate.specs.Clients.{with_client}
use Rattle.nf_translate.proofs.NoNewKey.{no_new_flow}
use Rattle.nf_translate.proofs.balancer.Balancer.backend_for.Goals as goal

pub returns-in_err-place-clause-known : goal.returns-in_err-place-clause-known
returns-in_err-place-clause-known c = λ as_many.
    absurd (true≢false (sym (c.in_err-place.ensures.known
    (subst (λ (b : PlainBalancer). length (with_client b.flows c.args.flow) ≡ length b.flows) (sym c.self.view_is) (no_new_flow c.args.self.now c.args.flow as_many)))))
