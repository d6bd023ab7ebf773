use Rattle.std.proofs.Common.{◌≡◌, ◌∙◌, false, ap, subst}
use Rattle.packet_fields.specs.declared.field.Field.{Field}
use Rattle.packet_fields.specs.declared.field.Field.TheVariants.{Tag}
use Rattle.action_profile.specs.Profiles.{writes_of}
use Rattle.action_profile.specs.declared.rights.Profile.{Profile}
use Rattle.packet_version.specs.Views.{PlainView}
use Rattle.traced_run.proofs.Seeing.{adds_nothing, view_stays}
use Rattle.traced_run.proofs.turn.look.Goals as goal

pub act-verdict-requires-clause-room : goal.act-verdict-requires-clause-room
act-verdict-requires-clause-room g c = λ adds there.
    let silent = subst (λ (p : Profile). (x : Field) → writes_of p x ≡ false) c.requires.profile c.requires.silent in
    absurd (adds_nothing (g.F.Function.behaviour.profile c.args.function.now) (silent Tag) adds)

pub returns-clause-version : goal.returns-clause-version
returns-clause-version g c =
    let silent = subst (λ (p : Profile). (x : Field) → writes_of p x ≡ false) c.requires.profile c.requires.silent in
    c.end-version.ensures
    ∙ ap (λ (v : PlainView). v.version) (view_stays g.F.Function.behaviour c.args.function.now c.view-view.result c.act-verdict.new.view
    g.met.F.Function.keeps silent c.unwritten_stays.ensures.same c.in_ok-verdict.ensures.view)
    ∙ ap (λ (v : PlainView). v.version) c.view-view.ensures
