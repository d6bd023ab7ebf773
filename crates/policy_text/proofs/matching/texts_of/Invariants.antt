use Rattle.std.proofs.Common.{◌≡◌, map, take}
use Rattle.policy_text.proofs.matching.texts_of.Given as goal

abbrev pub invariant-words : goal.invariant-words
invariant-words l = map (λ x. x.now) l.texts.items ≡ take l.w-index l.words
