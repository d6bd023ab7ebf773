use Rattle.std.proofs.Common.{◌≡◌, map, take}
use Rattle.policy_text.proofs.reading.setting_of.Given as goal

abbrev pub invariant-words : goal.invariant-words
invariant-words l = l.words.items ≡ map (λ w. w.text) (take l.word-index l.word-items)
