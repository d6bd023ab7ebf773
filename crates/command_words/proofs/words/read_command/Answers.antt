use Rattle.std.proofs.Common.{◌≡◌, ◌≢◌, ◌∙◌, Bool, true, false, refl, sym, ap, List, ◌∷◌, Err, codes, map, string_bytes}
use Rattle.std.specs.Str.{bytes_eq}
use Rattle.command_words.specs.declared.usage.UsageFault.TheVariants.{UnknownCommand}
use Rattle.command_words.specs.Given.{Word}
use Rattle.command_words.specs.Words.{command_of}
use Rattle.command_words.proofs.Table.{same_text}
use Rattle.command_words.proofs.words.read_command.Goals as goal

other_text : (x y : Word) → x ≢ y → bytes_eq x y ≡ false
other_text x y differ = go (bytes_eq x y) refl
  where
    go : (b : Bool) → bytes_eq x y ≡ b → bytes_eq x y ≡ false
    go true e = absurd (differ (same_text x y e))
    go false e = e

unknown : (words : List Word) (word : Word) (rest : List Word) → words ≡ word ∷ rest → word ≢ codes "run" → word ≢ codes "plan" → word ≢ codes "demo" → word ≢ codes "flows"
    → command_of words ≡ Err UnknownCommand
unknown words word rest e run plan demo flows =
    rw (e, other_text word (codes "run") run, other_text word (codes "plan") plan, other_text word (codes "demo") demo, other_text word (codes "flows") flows) refl

pub returns-in_default-as_str-clause-reads : goal.returns-in_default-as_str-clause-reads
returns-in_default-as_str-clause-reads c =
    let rest = map string_bytes c.in-Some.rest.now in
    let k = c.in_default-as_str in
    unknown (map string_bytes c.args.words.now) c.as_str.result.now rest
    (ap (map string_bytes) c.in-Some.ensures.cases.0 ∙ ap (λ w. w ∷ rest) (sym c.as_str.ensures.value)) k.not-run k.not-plan k.not-demo k.not-flows
