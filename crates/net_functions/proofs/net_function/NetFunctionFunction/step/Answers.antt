use Rattle.std.proofs.Common.{◌≡◌, subst, sym}
use Rattle.std.specs.Result.{OnOk}
use Rattle.chain_walk.specs.Shown.{shown_by}
use Rattle.packet_version.specs.Views.{seen_values, wrote_all}
use Rattle.net_functions.specs.NetFunctions.{profile_by, step_by}
use Rattle.net_functions.specs.declared.net_function.NetFunction.TheVariants.{Tagger}
use Rattle.net_functions.proofs.net_function.NetFunctionFunction.step.Goals as goal

pub returns-in-Tagger-clause-view : goal.returns-in-Tagger-clause-view
unfolding profile_by step_by
returns-in-Tagger-clause-view c =
    subst (λ f. OnOk c.step-in-Tagger.result (c.step-in-Tagger.new.view ≡ wrote_all (step_by f (shown_by (profile_by f) c.args.view.now.version.fixed (seen_values c.args.view.now))).written c.args.view.now))
    (sym c.in-Tagger.is)
    (subst (λ r. OnOk r (c.step-in-Tagger.new.view ≡ wrote_all (step_by (Tagger c.in-Tagger.tagger) (shown_by (profile_by (Tagger c.in-Tagger.tagger)) c.args.view.now.version.fixed (seen_values c.args.view.now))).written c.args.view.now))
    (sym c.step-in-Tagger.ensures.verdict) c.step-in-Tagger.ensures.view)
