use Rattle.std.proofs.Common.{◌≡◌, ◌<◌, ◌+◌, ◌∙◌, ◌++◌, ◌∷◌, [], ℕ, List, length, get_or, drop, Some, None, sym, ap, refl, arith, append_assoc}
use Rattle.std.specs.Prelude.{Option}
use Rattle.std.specs.Option.{option_map}
use Rattle.std.proofs.lemmas.List.{drop_more, drop_all}
use Rattle.policy_text.specs.Bytes.{bytes_of, byte_of_digits}
use Rattle.policy_text.proofs.bytes.bytes_of.Goals as goal

-- a digit alone
alone : (digits : List ℕ) (at : ℕ) → at < length digits → at + 1 ≡ length digits → bytes_of (drop at digits) ≡ None
alone digits at inside end = ap bytes_of (drop_more digits at 0 inside ∙ ap (λ ds. get_or digits at 0 ∷ ds) (drop_all (at + 1) digits (omega arith)))

-- two digits in front
pair_at : (digits : List ℕ) (at : ℕ) → at + 1 < length digits → drop at digits ≡ get_or digits at 0 ∷ get_or digits (at + 1) 0 ∷ drop (at + 2) digits
pair_at digits at inside =
    drop_more digits at 0 (omega arith) ∙ ap (λ ds. get_or digits at 0 ∷ ds) (drop_more digits (at + 1) 0 inside ∙ ap (λ n. get_or digits (at + 1) 0 ∷ drop n digits) (omega arith))

behind : (bytes more : List ℕ) (b : ℕ) (rest : Option (List ℕ)) → more ≡ bytes ++ b ∷ [] → option_map (λ bs. more ++ bs) rest ≡ option_map (λ bs. bytes ++ bs) (option_map (λ bs. b ∷ bs) rest)
behind bytes more b None is = refl
behind bytes more b (Some bs) is = ap Some (ap (λ m. m ++ bs) is ∙ append_assoc bytes (b ∷ []) bs)

one_more : (digits bytes more : List ℕ) (at b : ℕ) → at + 1 < length digits → byte_of_digits (get_or digits at 0) (get_or digits (at + 1) 0) ≡ Some b → more ≡ bytes ++ b ∷ [] →
    option_map (λ bs. more ++ bs) (bytes_of (drop (at + 2) digits)) ≡ option_map (λ bs. bytes ++ bs) (bytes_of (drop at digits))
one_more digits bytes more at b inside byte is =
    behind bytes more b (bytes_of (drop (at + 2) digits)) is ∙ ap (option_map (λ bs. bytes ++ bs)) (sym (ap bytes_of (pair_at digits at inside) ∙ rw byte refl))

pub returns-then-at-digits : goal.returns-then-at-digits
returns-then-at-digits c =
    ap (option_map (λ bs. c.pairs.bytes.items ++ bs)) (sym (alone c.args.digits.now c.pairs.at c.pairs-test.true c.if-at-digits.true)) ∙ c.pairs.invariant.1

pub pairs-preserved : goal.pairs-preserved
pairs-preserved c =
    (omega arith, one_more c.args.digits.now c.pairs.bytes.items _ c.pairs.at c.in-Some.byte (omega arith) (sym c.in-Some.ensures) c.in_ok-push.ensures.items ∙ c.pairs.invariant.1)
