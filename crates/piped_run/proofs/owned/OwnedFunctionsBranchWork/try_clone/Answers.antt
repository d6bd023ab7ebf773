use Rattle.std.proofs.Common.{◌≡◌, ◌∙◌, All, ap, refl, subst, sym}
use Rattle.std.specs.Prelude.{◌==◌, IsSome}
use Rattle.chain_walk.specs.Counting.{quiet}
use Rattle.piped_run.proofs.Cloning.{KeepsNone, none_there, owned_stays, some_so}
use Rattle.piped_run.proofs.owned.OwnedFunctionsBranchWork.try_clone.Goals as goal

pub returns-clause-same : goal.returns-clause-same
returns-clause-same g c =
    let own : c.self.inside.functions.items ≡ c.args.self.now.functions = ap (λ o. o.functions) c.self.view_is in
    let same = some_so (λ all. all.items ≡ c.as_slice.result.now) _ _ c.in-Some.is c.in_ok-functions.ensures.same ∙ c.as_slice.ensures.value ∙ own in
    let none = none_there c.self.inside.listed.items c.is_empty.result (c.is_empty.ensures ∙ ap (λ n. n == 0) c.self.inside.listed.ok.0) c.if-not-is_empty.false ∙ ap (λ o. o.listed) c.self.view_is in
    c.in_ok-work.ensures ∙ (λ i. record c.args.self.now { functions = same i; listed = none i })

pub returns-clause-stateless : goal.returns-clause-stateless
returns-clause-stateless g c _ =
    let own : c.self.inside.functions.items ≡ c.args.self.now.functions = ap (λ o. o.functions) c.self.view_is in
    let none = c.in_ok-functions.ensures.stateless (subst IsSome (sym c.in-Some.is) refl) in
    owned_stays (quiet g.F.Function.behaviour) g.F.Function.notes c.args.self.now (c.quiet_functions_keep_to_profiles.ensures.keeps g.F.Function.behaviour c.functions_keep_to_profiles.ensures) (subst (All (KeepsNone (quiet g.F.Function.behaviour))) (c.as_slice.ensures.value ∙ own) none) (sym (ap (λ o. o.counts) c.self.view_is) ∙ c.if-self.false)
