use Rattle.std.proofs.Common.{◌∙◌, sym}
use Rattle.graph_run.proofs.Quieted.{acts, drops_it, looks}
use Rattle.graph_run.proofs.branch.step_on.Goals as goal

pub returns-then-profile-clause-function : goal.returns-then-profile-clause-function
returns-then-profile-clause-function g c = (looks g.F.Function.behaviour g.F.Function.notes _ _ _ _ _ _ _ (c.quiet_functions_keep_to_profiles.ensures.keeps _ g.met.F.Function.keeps) c.profile-profile.ensures c.if-profile.true c.view-view.ensures c.unwritten_stays.ensures.same c.end-version.ensures c.look-note.ensures.noted).function

pub returns-then-profile-clause-arrival : goal.returns-then-profile-clause-arrival
returns-then-profile-clause-arrival g c = (looks g.F.Function.behaviour g.F.Function.notes _ _ _ _ _ _ _ (c.quiet_functions_keep_to_profiles.ensures.keeps _ g.met.F.Function.keeps) c.profile-profile.ensures c.if-profile.true c.view-view.ensures c.unwritten_stays.ensures.same c.end-version.ensures c.look-note.ensures.noted).arrival

pub returns-in-Pass-clause-function : goal.returns-in-Pass-clause-function
returns-in-Pass-clause-function g c = (acts g.F.Function.behaviour g.F.Function.notes _ _ _ _ _ _ _ _ (c.quiet_functions_keep_to_profiles.ensures.keeps _ g.met.F.Function.keeps) c.profile-profile.ensures c.if-profile.false c.view-view.ensures (sym c.in-Pass.is ∙ c.in_ok-verdict.ensures.verdict) c.in_ok-verdict.ensures.after c.in_ok-verdict.ensures.view c.end-version-2.ensures).function

pub returns-in-Pass-clause-arrival : goal.returns-in-Pass-clause-arrival
returns-in-Pass-clause-arrival g c = (acts g.F.Function.behaviour g.F.Function.notes _ _ _ _ _ _ _ _ (c.quiet_functions_keep_to_profiles.ensures.keeps _ g.met.F.Function.keeps) c.profile-profile.ensures c.if-profile.false c.view-view.ensures (sym c.in-Pass.is ∙ c.in_ok-verdict.ensures.verdict) c.in_ok-verdict.ensures.after c.in_ok-verdict.ensures.view c.end-version-2.ensures).arrival

pub returns-in-Drop-clause-function : goal.returns-in-Drop-clause-function
returns-in-Drop-clause-function g c = (drops_it g.F.Function.behaviour g.F.Function.notes _ _ _ _ _ _ c.profile-profile.ensures c.if-profile.false c.view-view.ensures (sym c.in-Drop.is ∙ c.in_ok-verdict.ensures.verdict) c.in_ok-verdict.ensures.after).function

pub returns-in-Drop-clause-arrival : goal.returns-in-Drop-clause-arrival
returns-in-Drop-clause-arrival g c = (drops_it g.F.Function.behaviour g.F.Function.notes _ _ _ _ _ _ c.profile-profile.ensures c.if-profile.false c.view-view.ensures (sym c.in-Drop.is ∙ c.in_ok-verdict.ensures.verdict) c.in_ok-verdict.ensures.after).arrival
