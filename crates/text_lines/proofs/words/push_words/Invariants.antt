use Rattle.std.proofs.Common.{◌≡◌, ◌++◌, take, map}
use Rattle.text_lines.specs.Texts.{spaced}
use Rattle.text_lines.proofs.words.push_words.Given as goal

-- the words so far
abbrev pub invariant-words : goal.invariant-words
invariant-words l = l.text.items ≡ l.fn.text.items ++ spaced (map (λ w. w.now) (take l.word-index l.words))
