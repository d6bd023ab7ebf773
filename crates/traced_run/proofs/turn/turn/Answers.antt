use Rattle.std.proofs.Common.{◌∙◌, List, ap, sym, subst, refl}
use Rattle.std.specs.Prelude.{IfOk}
use Rattle.action_profile.specs.declared.rights.Profile.{Profile}
use Rattle.packet_function.specs.declared.deciding.DecidingLine.{DecidingLine}
use Rattle.packet_version.specs.Splitting.{joined}
use Rattle.packet_version.specs.Versions.{HoldsNamed}
use Rattle.traced_run.specs.Turning.{IsTurned}
use Rattle.traced_run.proofs.Seeing.{AreRead, IsDealt, fits_again, frame_stays, is_silent, lines_same, none_written, step_same, whole_again}
use Rattle.traced_run.proofs.Turning.{dropped_turn, passed_turn}
use Rattle.traced_run.proofs.turn.turn.Goals as goal

pub look-requires-clause-silent : goal.look-requires-clause-silent
look-requires-clause-silent g c =
    is_silent c.profile-profile.result c.touch_of-touch.result (record { touched = c.touch_of-touch.ensures.touched; written = c.touch_of-touch.ensures.written })
    (none_written c.touch_of-touch.result c.if-ne.ensures)

pub returns-then-ne : goal.returns-then-ne
returns-then-ne g c =
    let holds = subst (λ (p : Profile). HoldsNamed p c.touch_of-touch.result) c.profile-profile.ensures
    (record { touched = c.touch_of-touch.ensures.touched; written = c.touch_of-touch.ensures.written }) in
    let read : AreRead = record { version = c.dealt_is_read.ensures.version; base = c.dealt_is_read.ensures.base; parts = c.frames_come_apart.ensures.parts } in
    let dealt_so : IsDealt c.args.packet.whole c.touch_of-touch.result (g.F.Function.behaviour.profile c.args.function.now) c.args.packet.time c.args.packet.frame c.in_ok-version.version =
    record { read = read; apart = c.requires.apart; is = c.in_ok-version.ensures.version; holds = holds } in
    let told = lines_same g.F.Function.behaviour g.F.Function.decides c.args.function.now c.args.packet.whole c.touch_of-touch.result c.args.packet.time
    c.args.packet.frame c.in_ok-version.version c.new-lines-2.result c.decide.new.lines.items c.new-lines.result.items
    dealt_so c.new-lines-2.ensures c.in_ok-version-2.ensures.lines c.new-lines.ensures.items in
    subst (λ (l : List DecidingLine). IfOk c.step.result (λ left. IsTurned g.F.Function.behaviour l c.args.packet.time c.args.packet.frame
    c.args.function.now c.step.new.function left c.args.trace.now c.step.new.trace)) told c.step.ensures

pub rejoin-whole-requires-clause-whole : goal.rejoin-whole-requires-clause-whole
rejoin-whole-requires-clause-whole g c =
    let holds = subst (λ (p : Profile). HoldsNamed p c.touch_of-touch.result) c.profile-profile.ensures
    (record { touched = c.touch_of-touch.ensures.touched; written = c.touch_of-touch.ensures.written }) in
    let read : AreRead = record { version = c.dealt_is_read.ensures.version; base = c.dealt_is_read.ensures.base; parts = c.frames_come_apart.ensures.parts } in
    let none = none_written c.touch_of-touch.result c.if-ne.ensures in
    let left_so : IsDealt c.args.packet.whole c.touch_of-touch.result (g.F.Function.behaviour.profile c.args.function.now) c.args.packet.time c.args.packet.frame c.in_ok-verdict.version =
    record { read = read; apart = c.requires.apart; is = c.in_ok-verdict.ensures.version ∙ c.in_ok-version-2.ensures.version ∙ c.in_ok-version.ensures.version; holds = holds } in
    fits_again c.args.packet.whole c.touch_of-touch.result _ c.args.packet.time c.args.packet.frame c.in_ok-verdict.version left_so none c.in_ok-version.ensures.fits

pub returns-in_ok-add_same-in-Drop : goal.returns-in_ok-add_same-in-Drop
returns-in_ok-add_same-in-Drop g c =
    let holds = subst (λ (p : Profile). HoldsNamed p c.touch_of-touch.result) c.profile-profile.ensures
    (record { touched = c.touch_of-touch.ensures.touched; written = c.touch_of-touch.ensures.written }) in
    let read : AreRead = record { version = c.dealt_is_read.ensures.version; base = c.dealt_is_read.ensures.base; parts = c.frames_come_apart.ensures.parts } in
    let dealt_so : IsDealt c.args.packet.whole c.touch_of-touch.result (g.F.Function.behaviour.profile c.args.function.now) c.args.packet.time c.args.packet.frame c.in_ok-version.version =
    record { read = read; apart = c.requires.apart; is = c.in_ok-version.ensures.version; holds = holds } in
    let told = lines_same g.F.Function.behaviour g.F.Function.decides c.args.function.now c.args.packet.whole c.touch_of-touch.result c.args.packet.time
    c.args.packet.frame c.in_ok-version.version c.new-lines-2.result c.decide.new.lines.items c.new-lines.result.items
    dealt_so c.new-lines-2.ensures c.in_ok-version-2.ensures.lines c.new-lines.ensures.items in
    let seen_so : IsDealt c.args.packet.whole c.touch_of-touch.result (g.F.Function.behaviour.profile c.args.function.now) c.args.packet.time c.args.packet.frame c.in_ok-version-2.version =
    record { read = read; apart = c.requires.apart; is = c.in_ok-version-2.ensures.version ∙ c.in_ok-version.ensures.version; holds = holds } in
    let same = step_same g.F.Function.behaviour c.args.function.now c.args.packet.whole c.touch_of-touch.result c.args.packet.time c.args.packet.frame c.in_ok-version-2.version seen_so in
    dropped_turn g.F.Function.behaviour _ c.new-lines-2.result c.args.packet.time c.args.packet.frame c.args.function.now c.look.new.function c.args.trace.now c.add_same.new.self (sym told)
    (c.in_ok-verdict.ensures.after ∙ ap (λ s. s.after) same) (sym (c.in_ok-verdict.ensures.verdict ∙ ap (λ s. s.verdict) same) ∙ c.in-Drop.is) c.in_ok-add_same-in-Drop.ensures

pub returns-in_ok-add_same-in-Pass : goal.returns-in_ok-add_same-in-Pass
returns-in_ok-add_same-in-Pass g c =
    let holds = subst (λ (p : Profile). HoldsNamed p c.touch_of-touch.result) c.profile-profile.ensures
    (record { touched = c.touch_of-touch.ensures.touched; written = c.touch_of-touch.ensures.written }) in
    let read : AreRead = record { version = c.dealt_is_read.ensures.version; base = c.dealt_is_read.ensures.base; parts = c.frames_come_apart.ensures.parts } in
    let dealt_so : IsDealt c.args.packet.whole c.touch_of-touch.result (g.F.Function.behaviour.profile c.args.function.now) c.args.packet.time c.args.packet.frame c.in_ok-version.version =
    record { read = read; apart = c.requires.apart; is = c.in_ok-version.ensures.version; holds = holds } in
    let told = lines_same g.F.Function.behaviour g.F.Function.decides c.args.function.now c.args.packet.whole c.touch_of-touch.result c.args.packet.time
    c.args.packet.frame c.in_ok-version.version c.new-lines-2.result c.decide.new.lines.items c.new-lines.result.items
    dealt_so c.new-lines-2.ensures c.in_ok-version-2.ensures.lines c.new-lines.ensures.items in
    let none = none_written c.touch_of-touch.result c.if-ne.ensures in
    let seen_so : IsDealt c.args.packet.whole c.touch_of-touch.result (g.F.Function.behaviour.profile c.args.function.now) c.args.packet.time c.args.packet.frame c.in_ok-version-2.version =
    record { read = read; apart = c.requires.apart; is = c.in_ok-version-2.ensures.version ∙ c.in_ok-version.ensures.version; holds = holds } in
    let same = step_same g.F.Function.behaviour c.args.function.now c.args.packet.whole c.touch_of-touch.result c.args.packet.time c.args.packet.frame c.in_ok-version-2.version seen_so in
    let left_so : IsDealt c.args.packet.whole c.touch_of-touch.result (g.F.Function.behaviour.profile c.args.function.now) c.args.packet.time c.args.packet.frame c.in_ok-verdict.version =
    record { read = read; apart = c.requires.apart; is = c.in_ok-verdict.ensures.version ∙ c.in_ok-version-2.ensures.version ∙ c.in_ok-version.ensures.version; holds = holds } in
    let again = whole_again c.args.packet.whole c.rejoin-whole.result c.touch_of-touch.result _ c.args.packet.time c.args.packet.frame c.in_ok-verdict.version left_so none c.rejoin-whole.ensures in
    let silent = is_silent (g.F.Function.behaviour.profile c.args.function.now) c.touch_of-touch.result holds none in
    let stays = frame_stays g.F.Function.behaviour c.args.function.now c.args.packet.time c.args.packet.frame c.args.packet.whole g.met.F.Function.keeps read silent
    (c.step_is_put_together.ensures g.F.Function.behaviour c.args.packet.time c.args.function.now c.args.packet.frame g.met.F.Function.keeps) c.requires.apart c.requires.again in
    passed_turn g.F.Function.behaviour _ c.new-lines-2.result c.args.packet.time c.args.packet.frame c.args.function.now c.look.new.function
    (record { time = c.args.packet.time; frame = c.args.packet.frame; whole = c.rejoin-whole.result }) c.args.trace.now c.add_same-in-Pass.new.self (sym told)
    (c.in_ok-verdict.ensures.after ∙ ap (λ s. s.after) same) (sym (c.in_ok-verdict.ensures.verdict ∙ ap (λ s. s.verdict) same) ∙ c.in-Pass.is) stays refl refl
    (record { apart = again ∙ c.requires.apart; again = ap joined again ∙ c.requires.again }) c.in_ok-add_same-in-Pass.ensures
