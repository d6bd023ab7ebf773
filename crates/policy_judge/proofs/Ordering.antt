-- How the orders of the chains are found, one after another.
use Rattle.std.proofs.Common.{◌≡◌, ◌<◌, ◌≤◌, ◌+◌, ◌∙◌, ℕ, List, [], ◌∷◌, ◌++◌, length, take, drop, get_or, refl, sym, ap, append_assoc, subst, Ok, Err}
use Rattle.std.proofs.lemmas.List.{take_more, take_all, drop_more, drop_all, append-nil}
use Rattle.std.specs.Prelude.{Result}
use Rattle.std.specs.List.{AllZip}
use Rattle.policy_text.specs.declared.policy.ChainPolicy.{ChainPolicy}
use Rattle.policy_text.specs.Steps.{◌>>=◌}
use Rattle.policy_check.specs.declared.fault.Order.{Order}
use Rattle.policy_check.specs.Checked.{answer_of}
use Rattle.policy_judge.specs.declared.fault.Refusal.{Refusal}
use Rattle.policy_judge.specs.declared.fault.JudgeFault.{JudgeFault}
use Rattle.policy_judge.specs.declared.fault.JudgeFault.TheVariants.{Refused, OutOfMemory}
use Rattle.policy_judge.specs.Judging.{order_due, orders_from, Judges}
use Rattle.policy_judge.specs.Orders.{IsOrdered}

-- orders before what becomes of the later chains
abbrev pub behind : List Order → Result (List Order) Refusal → Result (List Order) Refusal
behind orders (Err refusal) = Err refusal
behind orders (Ok later) = Ok (orders ++ later)

-- the chains before this place have these orders
pub record IsFound (chains : List ChainPolicy) (place : ℕ) (orders : List Order) : Type 0 where
  pub due : behind orders (orders_from place (drop place chains)) ≡ orders_from 0 chains
  pub ordered : AllZip IsOrdered (take place chains) orders

behind_none : (due : Result (List Order) Refusal) → behind [] due ≡ due
behind_none (Err refusal) = refl
behind_none (Ok later) = refl

pub begins : (chains : List ChainPolicy) → IsFound chains 0 []
begins chains = record { due = behind_none (orders_from 0 chains); ordered = tt }

from_here : (place : ℕ) (chain : ChainPolicy) (chains : List ChainPolicy) → orders_from place (chain ∷ chains) ≡ (order_due place chain (answer_of chain) >>= (λ order. orders_from (place + 1) chains >>= (λ orders. Ok (order ∷ orders))))
unfolding orders_from
from_here place chain chains = refl

behind_one : (orders : List Order) (order : Order) (due : Result (List Order) Refusal) → behind (orders ++ order ∷ []) due ≡ behind orders (due >>= (λ later. Ok (order ∷ later)))
behind_one orders order (Err refusal) = refl
behind_one orders order (Ok later) = ap (λ l. Ok l) (append_assoc orders (order ∷ []) later)

ordered_more : (chains : List ChainPolicy) (orders : List Order) (chain : ChainPolicy) (order : Order) → AllZip IsOrdered chains orders → IsOrdered chain order → AllZip IsOrdered (chains ++ chain ∷ []) (orders ++ order ∷ [])
ordered_more [] [] chain order all one = (one, tt)
ordered_more [] (o ∷ orders) chain order all one = absurd all
ordered_more (c ∷ chains) [] chain order all one = absurd all
ordered_more (c ∷ chains) (o ∷ orders) chain order all one = (all.0, ordered_more chains orders chain order all.1 one)

pub goes_on : (chains : List ChainPolicy) (place : ℕ) (orders : List Order) (d chain : ChainPolicy) (order : Order) → IsFound chains place orders → place < length chains → chain ≡ get_or chains place d →
    order_due place chain (answer_of chain) ≡ Ok order → IsOrdered chain order → IsFound chains (place + 1) (orders ++ order ∷ [])
goes_on chains place orders d chain order found inside is due one =
    let rest : drop place chains ≡ chain ∷ drop (place + 1) chains = drop_more chains place d inside ∙ ap (λ c. c ∷ drop (place + 1) chains) (sym is) in
    let front : take (place + 1) chains ≡ take place chains ++ chain ∷ [] = take_more chains place d inside ∙ ap (λ c. take place chains ++ c ∷ []) (sym is) in
    record {
      due = behind_one orders order (orders_from (place + 1) (drop (place + 1) chains))
          ∙ ap (λ r. behind orders (r >>= (λ o. orders_from (place + 1) (drop (place + 1) chains) >>= (λ later. Ok (o ∷ later))))) (sym due)
          ∙ ap (behind orders) (sym (from_here place chain (drop (place + 1) chains)))
          ∙ ap (λ l. behind orders (orders_from place l)) (sym rest)
          ∙ found.due;
      ordered = subst (λ l. AllZip IsOrdered l (orders ++ order ∷ [])) (sym front) (ordered_more (take place chains) orders chain order found.ordered one);
    }

-- a chain has a fault
fails : (chains : List ChainPolicy) (place : ℕ) (orders : List Order) (d chain : ChainPolicy) (refusal : Refusal) → IsFound chains place orders → place < length chains → chain ≡ get_or chains place d →
    order_due place chain (answer_of chain) ≡ Err refusal → orders_from 0 chains ≡ Err refusal
fails chains place orders d chain refusal found inside is due =
    let rest : drop place chains ≡ chain ∷ drop (place + 1) chains = drop_more chains place d inside ∙ ap (λ c. c ∷ drop (place + 1) chains) (sym is) in
    sym found.due
    ∙ ap (λ l. behind orders (orders_from place l)) rest
    ∙ ap (behind orders) (from_here place chain (drop (place + 1) chains))
    ∙ ap (λ r. behind orders (r >>= (λ o. orders_from (place + 1) (drop (place + 1) chains) >>= (λ later. Ok (o ∷ later))))) due

pub fails_so : (chains : List ChainPolicy) (place : ℕ) (orders : List Order) (d chain : ChainPolicy) (fault : JudgeFault) → IsFound chains place orders → place < length chains → chain ≡ get_or chains place d →
    Judges (order_due place chain (answer_of chain)) (Err fault) → Judges (orders_from 0 chains) (Err fault)
fails_so chains place orders d chain (Refused refusal) found inside is due = fails chains place orders d chain refusal found inside is due
fails_so chains place orders d chain OutOfMemory found inside is due = tt

none_left : (place : ℕ) → orders_from place [] ≡ Ok []
unfolding orders_from
none_left place = refl

-- all chains have an order
pub all_found : (chains : List ChainPolicy) (place : ℕ) (orders : List Order) → IsFound chains place orders → length chains ≤ place → orders_from 0 chains ≡ Ok orders
all_found chains place orders found past =
    sym found.due
    ∙ ap (λ l. behind orders (orders_from place l)) (drop_all place chains past)
    ∙ ap (behind orders) (none_left place)
    ∙ ap (λ l. Ok l) (append-nil orders)

pub all_ordered : (chains : List ChainPolicy) (place : ℕ) (orders : List Order) → IsFound chains place orders → length chains ≤ place → AllZip IsOrdered chains orders
all_ordered chains place orders found past = subst (λ l. AllZip IsOrdered l orders) (take_all place chains past) found.ordered
