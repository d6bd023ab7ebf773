use Rattle.std.proofs.Common.{◌≡◌, map, take}
use Rattle.policy_text.proofs.chain_lines.texts.Given as goal

abbrev pub invariant-words : goal.invariant-words
invariant-words l = map (λ x. x.now) l.texts.items ≡ map (λ w. w.text) (take l.word-index l.word-items)
