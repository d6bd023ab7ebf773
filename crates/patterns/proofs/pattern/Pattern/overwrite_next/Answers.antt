use Rattle.std.proofs.Common.{arith, length, ap, ◌∙◌, ◌≡◌, ◌-◌, ◌+◌, take, drop, replicate, subst, length-drop, length-take-le}
use Rattle.std.proofs.lemmas.List.{take_rest}
use borrow.Rule.Slice.PartMut.{put_mid}
use Rattle.patterns.specs.Overwriting.{cross}
use Rattle.patterns.specs.Steps.{TakesNext, TakesNone}
use Rattle.patterns.proofs.Overwriting.{next_taken, none_taken}
use Rattle.patterns.proofs.pattern.Pattern.overwrite_next.Goals as goal

pub returns-in_default : goal.returns-in_default
returns-in_default c =
    subst (λ pattern. TakesNone pattern c.args.from c.args.payload.now c.args.payload.now) c.self.view_is
    (none_taken c.self.inside.finder c.args.payload.now c.args.from _ (take_rest c.args.payload.now c.args.from) c.in_default.ensures)

pub returns : goal.returns
returns c =
    let at = c.args.from + c.in-Some.place in
    let end = at + length c.needle.result.now in
    let long = ap length c.needle.ensures in
    let fits = c.in-Some.ensures.1.fits in
    let left = ap length (take_rest c.args.payload.now c.args.from) ∙ length-drop c.args.from c.args.payload.now in
    let rest = length-drop at c.args.payload.now in
    let part : length (take (end - at) (drop at c.args.payload.now)) ≡ end - at = length-take-le (end - at) (drop at c.args.payload.now) (omega arith) in
    subst (λ pattern. TakesNext pattern c.args.from c.args.payload.now (put_mid at (end - at) c.args.payload.now c.fill.new.self) end) c.self.view_is
    (next_taken c.self.inside.finder c.args.payload.now c.args.from _ c.fill.new.self c.in-Some.place (end - at) end (take_rest c.args.payload.now c.args.from) c.in-Some.ensures
    c.requires c.self.invariant (omega arith) (c.fill.ensures.after (λ y e. e) ∙ ap (λ n. replicate n cross) part) (omega arith))
