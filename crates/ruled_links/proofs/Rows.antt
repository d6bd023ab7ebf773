-- Rows worked by hand: the numbers 5 and 6 are due.
use Rattle.std.proofs.Common.{◌≡◌, ℕ, true, false, List, [], ◌∷◌, ◌++◌, sym, refl, ap, ◌∙◌, arith, length, slice_index_or}
use mathlib.Core.Option.{some-ne-none, some-injective}
use Rattle.ruled_links.specs.declared.rule.Knowledge.{Knowledge}
use Rattle.ruled_links.specs.Fitting.{FitsAt}
use Rattle.ruled_links.specs.Rule.{knowledge, IsOpen}

abbrev Equal : ℕ → ℕ → Type 0
Equal due message = message ≡ due

abbrev five_six : List ℕ
five_six = 5 ∷ 6 ∷ []

second_fits : FitsAt Equal five_six 1 6
second_fits = (6, refl, refl)

another_number : FitsAt Equal five_six 1 5 → ⊥
another_number f = absurd (omega (arith, some-injective 6 f.0 f.1, f.2))

none_is_due : FitsAt Equal five_six 2 7 → ⊥
none_is_due f = some-ne-none f.0 (sym f.1)

-- what the ends know after both numbers were put and these were taken
abbrev after : List ℕ → List (Knowledge ℕ)
after taken = knowledge true true false five_six five_six [] ∷ knowledge true false true five_six [] taken ∷ []

-- then what was put is what was taken and what the link holds
still_held : (items taken : List ℕ) → IsOpen Equal items (after taken) → five_six ≡ taken ++ items
still_held items taken h =
    ((h.knows 0 (knowledge true true false five_six five_six []) refl).puts refl).2
    ∙ h.whole
    ∙ ap (λ l. l ++ items) (sym ((h.knows 1 (knowledge true false true five_six [] taken) refl).takes refl).2)

overtaken : IsOpen Equal (5 ∷ []) (after (6 ∷ [])) → ⊥
overtaken h = absurd (omega (arith, ap (λ l. slice_index_or l 0 0) (still_held (5 ∷ []) (6 ∷ []) h)))

lost : IsOpen Equal [] (after (5 ∷ [])) → ⊥
lost h = absurd (omega (arith, ap length (still_held [] (5 ∷ []) h)))

doubled : IsOpen Equal (5 ∷ 6 ∷ []) (after (5 ∷ [])) → ⊥
doubled h = absurd (omega (arith, ap length (still_held (5 ∷ 6 ∷ []) (5 ∷ []) h)))
