-- A policy that was read has few functions in each chain.
use Rattle.std.proofs.Common.{◌≡◌, ◌<◌, ◌≤◌, ◌+◌, ◌∙◌, ℕ, List, [], ◌∷◌, length, map, arith, ap, sym, subst, false, Err}
use Rattle.std.specs.Prelude.{All, nat_lt, Result}
use Rattle.std.specs.List.{range_with_len}
use Rattle.std.proofs.lemmas.List.Sorted.{All-permutation}
use Rattle.std.proofs.lemmas.List.Elements.{All-nil, All-cons}
use Rattle.std.proofs.lemmas.List.FromFn.{get_or-range_with_len, length-range_with_len}
use Rattle.std.proofs.lemmas.List.{length-append, length-map}
use Rattle.policy_text.specs.declared.policy.ChainPolicy.{ChainPolicy}
use Rattle.policy_text.specs.Soundness.{IsSound, function_names}
use Rattle.policy_check.specs.declared.fault.Order.{Order}
use Rattle.policy_check.specs.Arrangements.{IsArrangement}
use Rattle.policy_check.specs.Edges.{Edges}
use Rattle.policy_judge.specs.Orders.{IsOrdered}
use Rattle.policy_text.specs.declared.fault.TextFault.{TextFault}
use Rattle.policy_text.specs.declared.fault.TextFault.TheVariants as texts
use Rattle.policy_text.specs.Grammar.{policy_of}
use Rattle.policy_text.specs.Steps.{IsFaultOf}
use Rattle.policy_judge.specs.declared.fault.PolicyFault.TheVariants.{Text}
use Rattle.policy_judge.specs.declared.fault.Refusal.{Refusal}
use Rattle.policy_judge.specs.declared.fault.JudgeFault.{JudgeFault}
use Rattle.policy_judge.specs.declared.fault.JudgeFault.TheVariants.{Refused, OutOfMemory}
use Rattle.policy_judge.specs.declared.judged.Judged.{Judged}
use Rattle.policy_judge.specs.Judging.{told, judged, judged_text, Judges, Tells, TellsText}
use Rattle.policy_judge.specs.Lines.{text_line}
use Rattle.std.proofs.lemmas.Bool.Decides.{nat_tests}

-- the order of a chain has each of its functions once
pub is_ordered : (edge : Edges) (chain : ChainPolicy) (order : Order) → length chain.functions ≤ 64 → IsArrangement edge (length chain.functions) order.positions → IsOrdered chain order
is_ordered edge chain order few arranged = record {
  each_once = arranged.each_once;
  inside = All-permutation (λ p. p < length chain.functions) (range_with_len 0 (length chain.functions)) order.positions arranged.each_once (all_below (length chain.functions));
  few = few;
}
  where
    all_below : (n : ℕ) → All (λ p. p < n) (range_with_len 0 n)
    all_below n k d inside = omega (arith, get_or-range_with_len 0 n k d (omega (arith, length-range_with_len 0 n)), length-range_with_len 0 n)

-- a chain has at most as many functions as the policy
few_each : (chains : List ChainPolicy) (most : ℕ) → length (function_names chains) ≤ most → All (λ c. length c.functions ≤ most) chains
few_each [] most few = All-nil (λ c. length c.functions ≤ most)
few_each (c ∷ chains) most few =
    let here : length (function_names (c ∷ chains)) ≡ length c.functions + length (function_names chains) =
    length-append (map (λ f. f.name) c.functions) (function_names chains) ∙ ap (λ n. n + length (function_names chains)) (length-map c.functions (λ f. f.name)) in
    All-cons (λ d. length d.functions ≤ most) c chains (omega (arith, here)) (few_each chains most (omega (arith, here)))

pub few_here : (chains : List ChainPolicy) → IsSound chains → All (λ c. length c.functions ≤ 64) chains
few_here chains sound = few_each chains 64 sound.few_functions

judged_err : (bytes : List ℕ) (fault : TextFault) → length bytes ≤ 1048576 → policy_of bytes ≡ Err fault → judged bytes ≡ Err (told (Text fault) (text_line fault))
unfolding judged
judged_err bytes fault short is =
    let within : nat_lt 1048576 (length bytes) ≡ false = grind (arith, nat_tests) in
    rw within (ap judged_text is)

judges_err : (due : Result Judged Refusal) (refusal : Refusal) (answer : JudgeFault) → due ≡ Err refusal → Tells refusal answer → Judges due (Err answer)
judges_err due refusal (Refused r) is tells = is ∙ ap (λ x. Err x) tells
judges_err due refusal OutOfMemory is tells = tt

-- a text with a fault is refused with it
pub text_refused : (bytes : List ℕ) (fault : TextFault) (answer : JudgeFault) → length bytes ≤ 1048576 → IsFaultOf fault (policy_of bytes) → TellsText fault answer → Judges (judged bytes) (Err answer)
text_refused bytes texts.OutOfMemory answer short is tells = subst (λ a. Judges (judged bytes) (Err a)) (sym tells) tt
text_refused bytes (texts.NotUtf8 place) answer short is tells = judges_err (judged bytes) _ answer (judged_err bytes (texts.NotUtf8 place) short is) tells
text_refused bytes (texts.Syntax line column) answer short is tells = judges_err (judged bytes) _ answer (judged_err bytes (texts.Syntax line column) short is) tells
text_refused bytes (texts.UnknownKind line) answer short is tells = judges_err (judged bytes) _ answer (judged_err bytes (texts.UnknownKind line) short is) tells
text_refused bytes (texts.DuplicateName line) answer short is tells = judges_err (judged bytes) _ answer (judged_err bytes (texts.DuplicateName line) short is) tells
text_refused bytes (texts.UnknownName line) answer short is tells = judges_err (judged bytes) _ answer (judged_err bytes (texts.UnknownName line) short is) tells
text_refused bytes (texts.TooManyFunctions line) answer short is tells = judges_err (judged bytes) _ answer (judged_err bytes (texts.TooManyFunctions line) short is) tells
text_refused bytes (texts.TooManyChains line) answer short is tells = judges_err (judged bytes) _ answer (judged_err bytes (texts.TooManyChains line) short is) tells
text_refused bytes (texts.TooManyRules line) answer short is tells = judges_err (judged bytes) _ answer (judged_err bytes (texts.TooManyRules line) short is) tells
text_refused bytes texts.BadVersionLine answer short is tells = judges_err (judged bytes) _ answer (judged_err bytes texts.BadVersionLine short is) tells
