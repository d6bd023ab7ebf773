-- Worked rows of patterns, computed by the definitions.
use Rattle.std.proofs.Common.{◌≡◌, [], ◌∷◌, true, false, refl}
use Rattle.std.specs.Prelude.{codes, Some, None, replicate}
use Rattle.patterns.specs.Occurrences.{occurs, some_occurs}
use Rattle.patterns.specs.Overwriting.{overwritten, redacted}
use Rattle.patterns.specs.Lines.{line_of}

-- at the front, within, and at the end
first : occurs (codes "ab") (codes "abc") ≡ true
first = refl

within : occurs (codes "cre") (codes "my secret") ≡ true
within = refl

last : occurs (codes "bc") (codes "abc") ≡ true
last = refl

-- not past the end, and not in parts
cut_off : occurs (codes "cd") (codes "abc") ≡ false
cut_off = refl

torn : occurs (codes "ac") (codes "abc") ≡ false
torn = refl

in_nothing : occurs (codes "a") [] ≡ false
in_nothing = refl

second_alone : some_occurs (codes "x" ∷ codes "b" ∷ []) (codes "abc") ≡ true
second_alone = refl

-- every occurrence is overwritten
secrets : overwritten (codes "secret") (codes "my secret, secret") ≡ codes "my xxxxxx, xxxxxx"
secrets = refl

-- an occurrence that overlaps one before it isn't taken
overlapping : overwritten (codes "aba") (codes "ababac") ≡ codes "xxxbac"
overlapping = refl

repeated : overwritten (codes "aa") (codes "aaaaa") ≡ codes "xxxxa"
repeated = refl

-- a near miss doesn't hide a pattern that begins in it
restarted : overwritten (codes "aab") (codes "aaab") ≡ codes "axxx"
restarted = refl

-- a pattern is searched in what those before it left
one_after_another : redacted (codes "ab" ∷ codes "xc" ∷ []) (codes "abc") ≡ codes "xxx"
one_after_another = refl

other_order : redacted (codes "xc" ∷ codes "ab" ∷ []) (codes "abc") ≡ codes "xxc"
other_order = refl

twice : redacted (codes "b" ∷ codes "b" ∷ []) (codes "abc") ≡ codes "axc"
twice = refl

-- lines
text_line : line_of (codes "rule" ∷ codes "text" ∷ codes "evil" ∷ []) ≡ Some (codes "evil")
unfolding line_of
text_line = refl

hex_line : line_of (codes "rule" ∷ codes "hex" ∷ codes "0aFf" ∷ []) ≡ Some (10 ∷ 255 ∷ [])
unfolding line_of
hex_line = refl

odd_digits : line_of (codes "rule" ∷ codes "hex" ∷ codes "0af" ∷ []) ≡ None
unfolding line_of
odd_digits = refl

no_pattern : line_of (codes "rule" ∷ codes "text" ∷ []) ≡ None
unfolding line_of
no_pattern = refl

two_words : line_of (codes "rule" ∷ codes "text" ∷ codes "so" ∷ codes "evil" ∷ []) ≡ None
unfolding line_of
two_words = refl

no_set : line_of (codes "set" ∷ codes "text" ∷ codes "evil" ∷ []) ≡ None
unfolding line_of
no_set = refl

longest : line_of (codes "rule" ∷ codes "text" ∷ replicate 256 97 ∷ []) ≡ Some (replicate 256 97)
unfolding line_of
longest = refl

too_long : line_of (codes "rule" ∷ codes "text" ∷ replicate 257 97 ∷ []) ≡ None
unfolding line_of
too_long = refl
