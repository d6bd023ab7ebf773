-- Chains are made one after another, each with its order and its functions.
use Rattle.std.proofs.Common.{◌≡◌, ◌+◌, ℕ, List, [], ◌∷◌, ◌++◌, length, map, refl, ap, subst, sym, ◌∙◌, arith}
use Rattle.std.specs.Prelude.{◌⊎◌, All, Option}
use Rattle.std.specs.Vec.Iter.{into_iter_items, into_iter_len}
use Rattle.std.specs.declared.vec.IntoIter.{IntoIter}
use Rattle.std.specs.List.{AllZip}
use Rattle.std.proofs.lemmas.List.{append-nil, append_assoc, map-append}
use Rattle.std.proofs.lemmas.List.Elements.{All-nil, All-push}
use Rattle.policy_check.specs.declared.fault.Order.{Order}
use Rattle.policy_text.specs.declared.policy.ChainPolicy.{ChainPolicy}
use Rattle.policy_judge.specs.Making.{functions_made}
use Rattle.policy_judge.specs.Orders.{IsOrdered}
use Rattle.net_functions.specs.declared.making.Made.{Made}
use Rattle.plain_chains.specs.Plain.{IsPlain}
use Rattle.plain_chains.specs.declared.chain.PlainChain.{PlainChain}

abbrev pub AllMade : Type 0
AllMade = List (List (Option Made))

-- Some chains are made, and with the rest they will be all of them.
pub record IsUnderway (all : List ChainPolicy) (all_orders : List Order) (plain : List PlainChain) (chains : List ChainPolicy) (orders : List Order) (left : AllMade) : Type 0 where
  pub declared : map (λ c. c.declared) plain ++ chains ≡ all
  pub in_order : map (λ c. c.order) plain ++ orders ≡ all_orders
  pub ready : All IsPlain plain
  pub ordered : AllZip IsOrdered chains orders
  pub made : left ≡ functions_made chains

-- An iterator knows the number of its remaining items.
pub record IsCounted {X Z : Type 0} (it : IntoIter X Z) : Type 0 where
  pub count : into_iter_len it ≡ length (into_iter_items it)

pub begins : (chains : List ChainPolicy) (orders : List Order) (left : AllMade) → AllZip IsOrdered chains orders → left ≡ functions_made chains → IsUnderway chains orders [] chains orders left
begins chains orders left ordered made = record { declared = refl; in_order = refl; ready = All-nil IsPlain; ordered = ordered; made = made }

goes_on : (all : List ChainPolicy) (all_orders : List Order) (plain : List PlainChain) (chains : List ChainPolicy) (orders : List Order) (left : AllMade) (chain : PlainChain) (made : List (Option Made)) →
    IsUnderway all all_orders plain (chain.declared ∷ chains) (chain.order ∷ orders) (made ∷ left) → IsPlain chain → IsUnderway all all_orders (plain ++ chain ∷ []) chains orders left
goes_on all all_orders plain chains orders left chain made under ready = record {
  declared = simp (map-append, append_assoc) under.declared;
  in_order = simp (map-append, append_assoc) under.in_order;
  ready = All-push IsPlain plain chain under.ready ready;
  ordered = under.ordered.1;
  made = cc (under.made);
}

-- The rest is one chain with its order and its functions, and then the others.
pub record IsNext (chains : List ChainPolicy) (orders : List Order) (left : AllMade) (chain : ChainPolicy) (order : Order) (made : List (Option Made))
    (more_chains : List ChainPolicy) (more_orders : List Order) (more_left : AllMade) : Type 0 where
  pub chain_next : chains ≡ chain ∷ more_chains
  pub order_next : orders ≡ order ∷ more_orders
  pub made_next : left ≡ made ∷ more_left

-- the state of the next one
pub next_underway : (all : List ChainPolicy) (all_orders : List Order) (plain : List PlainChain) (chains : List ChainPolicy) (orders : List Order) (left : AllMade)
    (chain : ChainPolicy) (order : Order) (made : List (Option Made)) (more_chains : List ChainPolicy) (more_orders : List Order) (more_left : AllMade) →
    IsUnderway all all_orders plain chains orders left → IsNext chains orders left chain order made more_chains more_orders more_left →
    IsUnderway all all_orders plain (chain ∷ more_chains) (order ∷ more_orders) (made ∷ more_left)
next_underway all all_orders plain chains orders left chain order made more_chains more_orders more_left under next =
    let one = subst (λ (cs : List ChainPolicy). IsUnderway all all_orders plain cs orders left) next.chain_next under in
    let two = subst (λ (os : List Order). IsUnderway all all_orders plain (chain ∷ more_chains) os left) next.order_next one in
    subst (λ (ms : AllMade). IsUnderway all all_orders plain (chain ∷ more_chains) (order ∷ more_orders) ms) next.made_next two

pub goes_on_with : (all : List ChainPolicy) (all_orders : List Order) (plain : List PlainChain) (chains : List ChainPolicy) (orders : List Order) (left : AllMade)
    (made : List (Option Made)) (more_chains : List ChainPolicy) (more_orders : List Order) (more_left : AllMade) (chain : PlainChain) →
    IsUnderway all all_orders plain chains orders left → IsNext chains orders left chain.declared chain.order made more_chains more_orders more_left → IsPlain chain →
    IsUnderway all all_orders (plain ++ chain ∷ []) more_chains more_orders more_left
goes_on_with all all_orders plain chains orders left made more_chains more_orders more_left chain under next ready =
    let here = next_underway all all_orders plain chains orders left chain.declared chain.order made more_chains more_orders more_left under next in
    goes_on all all_orders plain more_chains more_orders more_left chain made here ready

pub counted_on : {X Z : Type 0} (old new : IntoIter X Z) (x : X) → IsCounted old → into_iter_items old ≡ x ∷ into_iter_items new → into_iter_len new + 1 ≡ into_iter_len old → IsCounted new
counted_on old new x counted items len = record { count = omega (arith, counted.count, ap length items, len) }

-- with the shortest of the three all are at their ends
pub ends : (all : List ChainPolicy) (all_orders : List Order) (plain : List PlainChain) (chains : List ChainPolicy) (orders : List Order) (left : AllMade) →
    IsUnderway all all_orders plain chains orders left → (((length chains ≡ 0) ⊎ (length orders ≡ 0)) ⊎ (length left ≡ 0)) → IsUnderway all all_orders plain [] [] []
ends all all_orders plain [] [] [] under ended = under
ends all all_orders plain [] [] (m ∷ left) under ended = absurd (cc (under.made))
ends all all_orders plain [] (o ∷ orders) left under ended = absurd under.ordered
ends all all_orders plain (c ∷ chains) [] left under ended = absurd under.ordered
ends all all_orders plain (c ∷ chains) (o ∷ orders) [] under ended = absurd (cc (under.made))
ends all all_orders plain (c ∷ chains) (o ∷ orders) (m ∷ left) under ended = absurd (omega (arith, ended))

pub all_declared : (all : List ChainPolicy) (all_orders : List Order) (plain : List PlainChain) → IsUnderway all all_orders plain [] [] [] → map (λ c. c.declared) plain ≡ all
all_declared all all_orders plain under = sym (append-nil (map (λ c. c.declared) plain)) ∙ under.declared

pub all_ordered : (all : List ChainPolicy) (all_orders : List Order) (plain : List PlainChain) → IsUnderway all all_orders plain [] [] [] → map (λ c. c.order) plain ≡ all_orders
all_ordered all all_orders plain under = sym (append-nil (map (λ c. c.order) plain)) ∙ under.in_order
