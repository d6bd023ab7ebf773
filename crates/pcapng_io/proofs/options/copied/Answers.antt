-- Each option is copied, or left out.
use Rattle.std.proofs.Common.{◌≡◌, ◌++◌, ◌∙◌, drop, ap, sym, refl, arith, length-drop}
use Rattle.std.proofs.lemmas.List.{take_rest}
use Rattle.pcapng_io.specs.Options.{copied, front_length}
use Rattle.pcapng_io.proofs.Copying.{copied_end, front_whole, front_within, next_option}
use Rattle.pcapng_io.proofs.options.copied.Goals as goal

pub options-preserved : goal.options-preserved
options-preserved c =
    let rest = c.options.rest.now in
    let size = c.options.size in
    let so_far = c.options.invariant in
    rw (take_rest rest size) (
      next_option c.args.order c.options.options.items c.copy_option.new.options.items rest (drop size rest) (copied c.args.order c.args.bytes.now) size c.u16_at.result so_far.0 so_far.2 c.options-test.true c.u16_at.ensures c.in_ok-copy_option.ensures refl,
      omega (arith, so_far.1, so_far.2, front_whole c.args.order rest, front_within c.args.order rest, length-drop size rest),
      c.front_length-size-in-options.ensures.value ∙ ap (front_length c.args.order) (take_rest rest size),
    )

pub returns : goal.returns
returns c =
    let so_far = c.options.invariant in
    let none : front_length c.args.order c.options.rest.now ≡ 0 = omega (arith, c.options-test.false, so_far.2) in
    c.in_ok-extend_from_slice.ensures.items ∙ ap (λ l. c.options.options.items ++ l) (sym (copied_end c.args.order c.options.rest.now none)) ∙ so_far.0
