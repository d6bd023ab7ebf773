use Rattle.std.proofs.Common.{◌++◌, ◌∙◌, ℕ, ap}
use Rattle.demo_capture.specs.Draws.{letters, payload_len}
use Rattle.demo_capture.proofs.Lengths.{all_letters, letters_begin, letters_step}
use Rattle.demo_capture.proofs.frame.push_letters.Goals as goal

pub letters-init : goal.letters-init
letters-init c = letters_begin c.args.draws c.args.from c.args.bytes.now.items

pub letters-preserved : goal.letters-preserved
letters-preserved c =
    letters_step c.args.draws c.args.from c.letters.place c.letter.result c.args.bytes.now.items c.letters.bytes.items c.push.new.self.items c.letters.auto.place c.letters.invariant c.letter.ensures c.in_ok-push.ensures.items

pub returns : goal.returns
returns c =
    c.letters.invariant
    ∙ ap (λ (n : ℕ). c.args.bytes.now.items ++ letters c.args.draws c.args.from n)
    (all_letters c.args.from c.letters.place c.payload_len-place-end.result (payload_len c.args.draws) c.letters.auto.place c.letters.auto.place-end c.letters-test.false c.payload_len-place-end.ensures.value c.requires)
