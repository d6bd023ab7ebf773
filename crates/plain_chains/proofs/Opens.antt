-- Chains that are ready are those that a policy runs.
use Rattle.std.proofs.Common.{◌≡◌, ◌≤◌, ◌∙◌, List, [], ◌∷◌, length, map, ap, arith, refl, sym}
use Rattle.std.specs.Prelude.{All}
use Rattle.std.specs.List.{range_with_len}
use Rattle.std.proofs.lemmas.List.Elements.{All-head, All-tail}
use Rattle.std.proofs.lemmas.List.FromFn.{length-range_with_len}
use Rattle.std.proofs.lemmas.List.Sorted.{length_permutation}
use Rattle.graph_text.specs.Graphs.{no_graph}
use Rattle.piece_walk.specs.Pieces.{Piece}
use Rattle.policy_text.specs.Names.{names_at}
use Rattle.policy_text.specs.declared.clause.Match.{Match}
use Rattle.policy_text.specs.declared.policy.ChainPolicy.{ChainPolicy}
use Rattle.policy_check.specs.declared.fault.Order.{Order}
use Rattle.policy_judge.specs.Orders.{IsOrdered}
use Rattle.policy_chains.specs.Services.{Chains, names_by, pieces_by, pieces_at, service_among}
use Rattle.policy_chains.specs.declared.named.NamedFunction.{NamedFunction}
use Rattle.plain_chains.specs.Plain.{IsPlain, chains_of, pieces_in}
use Rattle.plain_chains.specs.declared.chain.PlainChain.{PlainChain}

pub few_places : (chain : ChainPolicy) (order : Order) → IsOrdered chain order → length order.positions ≤ 64
few_places chain order ordered =
    let all = length_permutation (range_with_len 0 (length chain.functions)) order.positions ordered.each_once in
    let few = ordered.few in
    omega (arith, all, few, length-range_with_len 0 (length chain.functions))

-- the clauses of chains are those that are declared for them
pub fits_declared : (chains : List PlainChain) → map (λ c. c.fit) (map (λ c. c.declared) chains) ≡ map (λ c. c.declared.fit) chains
fits_declared [] = refl
fits_declared (c ∷ chains) = ap (λ (fits : List Match). c.declared.fit ∷ fits) (fits_declared chains)

names_here : (chains : List PlainChain) → (chains_of chains).names ≡ names_by (map (λ c. c.declared) chains) (map (λ c. c.order) chains)
names_here [] = refl
names_here (c ∷ chains) = ap (λ names. names_at c.declared.functions c.order.positions ∷ names) (names_here chains)

pieces_here : (chains : List PlainChain) → All IsPlain chains → (chains_of chains).pieces ≡ pieces_by (map (λ c. c.declared) chains) (map (λ c. c.order) chains) (map no_graph (map (λ c. c.declared) chains))
pieces_here [] ready = refl
pieces_here (c ∷ chains) ready =
    ap (λ (pieces : List (Piece NamedFunction)). pieces ∷ (chains_of chains).pieces) (All-head IsPlain c chains ready).pieces
    ∙ ap (λ (pieces : List (List (Piece NamedFunction))). pieces_at c.declared.functions c.order.positions ∷ pieces) (pieces_here chains (All-tail IsPlain c chains ready))

own : (chains : List PlainChain) → All IsPlain chains → chains_of chains ≡ service_among (map (λ c. c.declared) chains) (map (λ c. c.order) chains) (map no_graph (map (λ c. c.declared) chains))
own chains ready =
    ap (λ names. let s : Chains = record { declared = map (λ c. c.declared) chains; names = names; pieces = (chains_of chains).pieces } in s) (names_here chains)
    ∙ ap (λ pieces. let s : Chains = record { declared = map (λ c. c.declared) chains; names = names_by (map (λ c. c.declared) chains) (map (λ c. c.order) chains); pieces = pieces } in s) (pieces_here chains ready)

pub runs : (chains : List PlainChain) (declared : List ChainPolicy) (orders : List Order) → map (λ c. c.declared) chains ≡ declared → map (λ c. c.order) chains ≡ orders → All IsPlain chains →
    chains_of chains ≡ service_among declared orders (map no_graph declared)
runs chains declared orders same in_order ready =
    own chains ready
    ∙ ap (λ (d : List ChainPolicy). service_among d (map (λ c. c.order) chains) (map no_graph d)) same
    ∙ ap (λ (o : List Order). service_among declared o (map no_graph declared)) in_order

pub classes_fit : (classes : List Match) (chains : List PlainChain) (declared : List ChainPolicy) → classes ≡ map (λ c. c.fit) declared → map (λ c. c.declared) chains ≡ declared → classes ≡ map (λ c. c.declared.fit) chains
classes_fit classes chains declared told same = told ∙ ap (λ (cs : List ChainPolicy). map (λ c. c.fit) cs) (sym same) ∙ fits_declared chains
