use Rattle.std.proofs.Common.{◌≡◌, ◌∙◌, List, ℕ, Bool, [], ◌∷◌, Some, None, inr, sym, ap}
use Rattle.std.specs.Prelude.{if◌then◌else◌}
use Rattle.packet_fields.specs.Writing.{rest_of}
use Rattle.chain_walk.specs.Shown.{fixed_of}
use Rattle.chain_walk.specs.Walk.{frame_after}
use Rattle.chain_walk.specs.declared.verdict.Verdict.TheVariants.{Pass, Drop}
use Rattle.packet_version.specs.Splitting.{split_parts}
use Rattle.frame_walk.proofs.FunctionOnFrame.{turn, turn_room, turn_from, turn_made, turn_verdict, on_err}
use Rattle.frame_walk.proofs.step.step_frame.Goals as goal

pub act-verdict-requires-clause-room : goal.act-verdict-requires-clause-room
act-verdict-requires-clause-room g c =
    let t = turn g.F.Function.behaviour c.args.function.now c.in_ok-whole.whole c.touch_of-touch.result c.new.result c.adders.result c.args.time c.args.frame.now c.profile-profile.result c.in_ok-base.versions.items c.pop.new.self.items c.in-Some.version c.view-view.result
    (record { parts = c.in_ok-whole.ensures.parts ∙ ap (λ (xs : List ℕ). split_parts c.adders.result xs) c.bytes.ensures; rest = c.in_ok-whole.ensures.rest ∙ ap rest_of c.bytes.ensures; fixed = c.in_ok-whole.ensures.fixed ∙ ap (fixed_of c.args.time) c.bytes.ensures; fits = c.in_ok-whole.ensures.fits })
    (c.dealt_is_read.ensures.version c.in_ok-whole.whole c.touch_of-touch.result) c.profile-profile.ensures (record { touched = c.touch_of-touch.ensures.touched; written = c.touch_of-touch.ensures.written }) (c.new.ensures ∙ c.in_ok-from_array.ensures.items) c.in_ok-base.ensures.versions c.in-Some.ensures.items c.view-view.ensures in
    turn_room _ _ _ _ _ _ _ _ _ t c.profile-profile.ensures c.adders.ensures

pub returns-in-Drop-clause-after : goal.returns-in-Drop-clause-after
returns-in-Drop-clause-after g c =
    let t = turn g.F.Function.behaviour c.args.function.now c.in_ok-whole.whole c.touch_of-touch.result c.new.result c.adders.result c.args.time c.args.frame.now c.profile-profile.result c.in_ok-base.versions.items c.pop.new.self.items c.in-Some.version c.view-view.result
    (record { parts = c.in_ok-whole.ensures.parts ∙ ap (λ (xs : List ℕ). split_parts c.adders.result xs) c.bytes.ensures; rest = c.in_ok-whole.ensures.rest ∙ ap rest_of c.bytes.ensures; fixed = c.in_ok-whole.ensures.fixed ∙ ap (fixed_of c.args.time) c.bytes.ensures; fits = c.in_ok-whole.ensures.fits })
    (c.dealt_is_read.ensures.version c.in_ok-whole.whole c.touch_of-touch.result) c.profile-profile.ensures (record { touched = c.touch_of-touch.ensures.touched; written = c.touch_of-touch.ensures.written }) (c.new.ensures ∙ c.in_ok-from_array.ensures.items) c.in_ok-base.ensures.versions c.in-Some.ensures.items c.view-view.ensures in
    c.in_ok-verdict.ensures.after ∙ ap (λ s. s.after) t.step

pub returns-in-Drop-clause-frame : goal.returns-in-Drop-clause-frame
returns-in-Drop-clause-frame g c =
    let t = turn g.F.Function.behaviour c.args.function.now c.in_ok-whole.whole c.touch_of-touch.result c.new.result c.adders.result c.args.time c.args.frame.now c.profile-profile.result c.in_ok-base.versions.items c.pop.new.self.items c.in-Some.version c.view-view.result
    (record { parts = c.in_ok-whole.ensures.parts ∙ ap (λ (xs : List ℕ). split_parts c.adders.result xs) c.bytes.ensures; rest = c.in_ok-whole.ensures.rest ∙ ap rest_of c.bytes.ensures; fixed = c.in_ok-whole.ensures.fixed ∙ ap (fixed_of c.args.time) c.bytes.ensures; fits = c.in_ok-whole.ensures.fits })
    (c.dealt_is_read.ensures.version c.in_ok-whole.whole c.touch_of-touch.result) c.profile-profile.ensures (record { touched = c.touch_of-touch.ensures.touched; written = c.touch_of-touch.ensures.written }) (c.new.ensures ∙ c.in_ok-from_array.ensures.items) c.in_ok-base.ensures.versions c.in-Some.ensures.items c.view-view.ensures in
    sym (ap (λ (d : Bool). if d then None else Some (frame_after g.F.Function.behaviour c.args.time c.args.function.now c.args.frame.now)) (turn_verdict _ _ _ _ _ _ _ _ _ Drop t c.in_ok-verdict.ensures.verdict c.in-Drop.is))

pub put_together-requires : goal.put_together-requires
put_together-requires g c =
    let t = turn g.F.Function.behaviour c.args.function.now c.in_ok-whole.whole c.touch_of-touch.result c.new.result c.adders.result c.args.time c.args.frame.now c.profile-profile.result c.in_ok-base.versions.items c.pop.new.self.items c.in-Some.version c.view-view.result
    (record { parts = c.in_ok-whole.ensures.parts ∙ ap (λ (xs : List ℕ). split_parts c.adders.result xs) c.bytes.ensures; rest = c.in_ok-whole.ensures.rest ∙ ap rest_of c.bytes.ensures; fixed = c.in_ok-whole.ensures.fixed ∙ ap (fixed_of c.args.time) c.bytes.ensures; fits = c.in_ok-whole.ensures.fits })
    (c.dealt_is_read.ensures.version c.in_ok-whole.whole c.touch_of-touch.result) c.profile-profile.ensures (record { touched = c.touch_of-touch.ensures.touched; written = c.touch_of-touch.ensures.written }) (c.new.ensures ∙ c.in_ok-from_array.ensures.items) c.in_ok-base.ensures.versions c.in-Some.ensures.items c.view-view.ensures in
    record { whole = c.in_ok-whole.whole; touches = c.touch_of-touch.result ∷ []; from = turn_from _ _ c.in_ok-whole.whole c.in_ok-base.base c.touch_of-touch.result _ _ _ _ _ _ c.end-version.result t c.later_write_stands_over.ensures.parts g.met.F.Function.keeps c.view_is_formed.ensures c.in_ok-verdict.ensures.view c.end-version.ensures (c.new.ensures ∙ c.in_ok-from_array.ensures.items) c.in_ok-base.ensures.base }

pub returns-in_err-put_together-in-Pass-clause-refused : goal.returns-in_err-put_together-in-Pass-clause-refused
returns-in_err-put_together-in-Pass-clause-refused g c =
    let t = turn g.F.Function.behaviour c.args.function.now c.in_ok-whole.whole c.touch_of-touch.result c.new.result c.adders.result c.args.time c.args.frame.now c.profile-profile.result c.in_ok-base.versions.items c.pop.new.self.items c.in-Some.version c.view-view.result
    (record { parts = c.in_ok-whole.ensures.parts ∙ ap (λ (xs : List ℕ). split_parts c.adders.result xs) c.bytes.ensures; rest = c.in_ok-whole.ensures.rest ∙ ap rest_of c.bytes.ensures; fixed = c.in_ok-whole.ensures.fixed ∙ ap (fixed_of c.args.time) c.bytes.ensures; fits = c.in_ok-whole.ensures.fits })
    (c.dealt_is_read.ensures.version c.in_ok-whole.whole c.touch_of-touch.result) c.profile-profile.ensures (record { touched = c.touch_of-touch.ensures.touched; written = c.touch_of-touch.ensures.written }) (c.new.ensures ∙ c.in_ok-from_array.ensures.items) c.in_ok-base.ensures.versions c.in-Some.ensures.items c.view-view.ensures in
    on_err c.from_residual-in_err-put_together-in-Pass.result _ (inr (turn_verdict _ _ _ _ _ _ _ _ _ Pass t c.in_ok-verdict.ensures.verdict c.in-Pass.is, c.in_ok-verdict.ensures.after ∙ ap (λ s. s.after) t.step))

pub returns-clause-after : goal.returns-clause-after
returns-clause-after g c =
    let t = turn g.F.Function.behaviour c.args.function.now c.in_ok-whole.whole c.touch_of-touch.result c.new.result c.adders.result c.args.time c.args.frame.now c.profile-profile.result c.in_ok-base.versions.items c.pop.new.self.items c.in-Some.version c.view-view.result
    (record { parts = c.in_ok-whole.ensures.parts ∙ ap (λ (xs : List ℕ). split_parts c.adders.result xs) c.bytes.ensures; rest = c.in_ok-whole.ensures.rest ∙ ap rest_of c.bytes.ensures; fixed = c.in_ok-whole.ensures.fixed ∙ ap (fixed_of c.args.time) c.bytes.ensures; fits = c.in_ok-whole.ensures.fits })
    (c.dealt_is_read.ensures.version c.in_ok-whole.whole c.touch_of-touch.result) c.profile-profile.ensures (record { touched = c.touch_of-touch.ensures.touched; written = c.touch_of-touch.ensures.written }) (c.new.ensures ∙ c.in_ok-from_array.ensures.items) c.in_ok-base.ensures.versions c.in-Some.ensures.items c.view-view.ensures in
    c.in_ok-verdict.ensures.after ∙ ap (λ s. s.after) t.step

pub returns-clause-frame : goal.returns-clause-frame
returns-clause-frame g c =
    let t = turn g.F.Function.behaviour c.args.function.now c.in_ok-whole.whole c.touch_of-touch.result c.new.result c.adders.result c.args.time c.args.frame.now c.profile-profile.result c.in_ok-base.versions.items c.pop.new.self.items c.in-Some.version c.view-view.result
    (record { parts = c.in_ok-whole.ensures.parts ∙ ap (λ (xs : List ℕ). split_parts c.adders.result xs) c.bytes.ensures; rest = c.in_ok-whole.ensures.rest ∙ ap rest_of c.bytes.ensures; fixed = c.in_ok-whole.ensures.fixed ∙ ap (fixed_of c.args.time) c.bytes.ensures; fits = c.in_ok-whole.ensures.fits })
    (c.dealt_is_read.ensures.version c.in_ok-whole.whole c.touch_of-touch.result) c.profile-profile.ensures (record { touched = c.touch_of-touch.ensures.touched; written = c.touch_of-touch.ensures.written }) (c.new.ensures ∙ c.in_ok-from_array.ensures.items) c.in_ok-base.ensures.versions c.in-Some.ensures.items c.view-view.ensures in
    let from = turn_from _ _ c.in_ok-whole.whole c.in_ok-base.base c.touch_of-touch.result _ _ _ _ _ _ c.end-version.result t c.later_write_stands_over.ensures.parts g.met.F.Function.keeps c.view_is_formed.ensures c.in_ok-verdict.ensures.view c.end-version.ensures (c.new.ensures ∙ c.in_ok-from_array.ensures.items) c.in_ok-base.ensures.base in
    ap (λ (bytes : List ℕ). Some bytes) (turn_made _ _ c.in_ok-whole.whole c.touch_of-touch.result _ _ _ _ _ _ c.end-version.result t c.later_write_stands_over.ensures.parts c.last_writer_is_greatest.ensures.unwritten c.last_writer_is_greatest.ensures.wrote g.met.F.Function.keeps
    (c.step_is_put_together.ensures g.F.Function.behaviour c.args.time c.args.function.now c.args.frame.now g.met.F.Function.keeps) c.in_ok-verdict.ensures.view c.end-version.ensures (c.in_ok-put_together-in-Pass.ensures c.in_ok-whole.whole c.touch_of-touch.result from))
    ∙ sym (ap (λ (d : Bool). if d then None else Some (frame_after g.F.Function.behaviour c.args.time c.args.function.now c.args.frame.now)) (turn_verdict _ _ _ _ _ _ _ _ _ Pass t c.in_ok-verdict.ensures.verdict c.in-Pass.is))
