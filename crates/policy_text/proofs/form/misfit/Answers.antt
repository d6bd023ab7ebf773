use Rattle.std.proofs.Common.{◌≡◌, ◌<◌, ◌∙◌, ℕ, List, [], ◌∷◌, length, drop, length-drop, Some, sym, ap, refl, arith}
use Rattle.std.proofs.lemmas.List.{drop_all}
use Rattle.policy_text.specs.declared.form.WordForm.{WordForm}
use Rattle.policy_text.specs.Forms.{misfit_from}
use Rattle.policy_text.specs.Lines.{PlacedWord}
use Rattle.policy_text.proofs.form.misfit.Goals as goal

missing : (place : ℕ) (form : List WordForm) → 0 < length form → misfit_from place form [] ≡ Some place
missing place [] some = absurd (omega arith)
missing place (wanted ∷ form) some = refl

too_many : (place : ℕ) (words : List PlacedWord) → 0 < length words → misfit_from place [] words ≡ Some place
too_many place [] some = absurd (omega arith)
too_many place (word ∷ words) some = refl

pub returns-then-place-words : goal.returns-then-place-words
returns-then-place-words c =
    sym (missing c.forms.place (drop c.forms.wanted-index c.args.form.now) (omega (arith, length-drop c.forms.wanted-index c.args.form.now))) ∙
    ap (misfit_from c.forms.place (drop c.forms.wanted-index c.args.form.now)) (sym (drop_all c.forms.place c.args.words.now (omega arith))) ∙
    c.forms.invariant.2

pub returns-then-place-words-2 : goal.returns-then-place-words-2
returns-then-place-words-2 c =
    sym (too_many c.forms.place (drop c.forms.place c.args.words.now) (omega (arith, length-drop c.forms.place c.args.words.now))) ∙
    ap (λ form. misfit_from c.forms.place form (drop c.forms.place c.args.words.now)) (sym (drop_all c.forms.wanted-index c.args.form.now (omega arith))) ∙
    c.forms.invariant.2
