-- Chains are made one after another, each with its order and its functions.
use Rattle.std.proofs.Common.{◌≡◌, ◌+◌, List, [], ◌∷◌, ◌++◌, length, map, refl, ap, subst, sym, ◌∙◌, arith}
use Rattle.std.specs.Prelude.{◌⊎◌, All, Option}
use Rattle.std.specs.Vec.Iter.{into_iter_items, into_iter_len}
use Rattle.std.specs.declared.vec.IntoIter.{IntoIter}
use Rattle.std.specs.List.{AllZip}
use Rattle.std.proofs.lemmas.List.{append-nil, append_assoc, map-append}
use Rattle.std.proofs.lemmas.List.Elements.{All-nil, All-push}
use Rattle.policy_check.specs.declared.fault.Order.{Order}
use Rattle.policy_text.specs.Names.{names_at}
use Rattle.policy_text.specs.declared.policy.ChainPolicy.{ChainPolicy}
use Rattle.policy_judge.specs.Making.{functions_made}
use Rattle.policy_judge.specs.Orders.{IsOrdered}
use Rattle.net_functions.specs.declared.making.Made.{Made}
use Rattle.chain_service.specs.Opening.{IsOpeningChain, pieces_in}
use Rattle.graph_compile.specs.declared.graph.Graph.{Graph as StagedGraph}
use Rattle.chain_service.specs.Fitting.{FitAll}
use Rattle.policy_chains.specs.Services.{in_graph, names_by, pieces_at, pieces_by}
use Rattle.chain_service.specs.declared.service.ServiceChain.{ServiceChain}

abbrev pub Graphs : Type 0
Graphs = List (Option StagedGraph)

abbrev pub AllMade : Type 0
AllMade = List (List (Option Made))

-- Some chains are made, and with the rest they will be all of them.
pub record IsUnderway (all : List ChainPolicy) (all_orders : List Order) (all_graphs : Graphs) (running : List ServiceChain) (chains : List ChainPolicy) (orders : List Order) (graphs : Graphs) (left : AllMade) : Type 0 where
  pub declared : map (λ c. c.declared) running ++ chains ≡ all
  pub names : map (λ c. c.names) running ++ names_by chains orders ≡ names_by all all_orders
  pub pieces : map pieces_in running ++ pieces_by chains orders graphs ≡ pieces_by all all_orders all_graphs
  pub opening : All IsOpeningChain running
  pub ordered : AllZip IsOrdered chains orders
  pub fit : FitAll chains orders graphs
  pub made : left ≡ functions_made chains

-- An iterator knows the number of its remaining items.
pub record IsCounted {X Z : Type 0} (it : IntoIter X Z) : Type 0 where
  pub count : into_iter_len it ≡ length (into_iter_items it)

pub begins : (chains : List ChainPolicy) (orders : List Order) (graphs : Graphs) (left : AllMade) → AllZip IsOrdered chains orders → FitAll chains orders graphs → left ≡ functions_made chains → IsUnderway chains orders graphs [] chains orders graphs left
begins chains orders graphs left ordered fit made = record { declared = refl; names = refl; pieces = refl; opening = All-nil IsOpeningChain; ordered = ordered; fit = fit; made = made }

goes_on : (all : List ChainPolicy) (all_orders : List Order) (all_graphs : Graphs) (running : List ServiceChain) (chains : List ChainPolicy) (orders : List Order) (graphs : Graphs) (left : AllMade)
    (chain : ServiceChain) (order : Order) (graph : Option StagedGraph) (made : List (Option Made)) →
    IsUnderway all all_orders all_graphs running (chain.declared ∷ chains) (order ∷ orders) (graph ∷ graphs) (made ∷ left) → chain.names ≡ names_at chain.declared.functions order.positions →
    pieces_in chain ≡ in_graph graph (pieces_at chain.declared.functions order.positions) → IsOpeningChain chain →
    IsUnderway all all_orders all_graphs (running ++ chain ∷ []) chains orders graphs left
goes_on all all_orders all_graphs running chains orders graphs left chain order graph made under names pieces opening = record {
  declared = simp (map-append, append_assoc) under.declared;
  names = simp (map-append, append_assoc) (ap (λ n. map (λ c. c.names) running ++ n ∷ names_by chains orders) names ∙ under.names);
  pieces = simp (map-append, append_assoc) (ap (λ p. map pieces_in running ++ p ∷ pieces_by chains orders graphs) pieces ∙ under.pieces);
  opening = All-push IsOpeningChain running chain under.opening opening;
  ordered = under.ordered.1;
  fit = under.fit.1;
  made = cc (under.made);
}

-- The rest is one chain with its order, its graph and its functions, and then the others.
pub record IsNext (chains : List ChainPolicy) (orders : List Order) (graphs : Graphs) (left : AllMade) (chain : ChainPolicy) (order : Order) (graph : Option StagedGraph) (made : List (Option Made))
    (more_chains : List ChainPolicy) (more_orders : List Order) (more_graphs : Graphs) (more_left : AllMade) : Type 0 where
  pub chain_next : chains ≡ chain ∷ more_chains
  pub order_next : orders ≡ order ∷ more_orders
  pub graph_next : graphs ≡ graph ∷ more_graphs
  pub made_next : left ≡ made ∷ more_left

-- the state of the next one
pub next_underway : (all : List ChainPolicy) (all_orders : List Order) (all_graphs : Graphs) (running : List ServiceChain) (chains : List ChainPolicy) (orders : List Order) (graphs : Graphs) (left : AllMade)
    (chain : ChainPolicy) (order : Order) (graph : Option StagedGraph) (made : List (Option Made)) (more_chains : List ChainPolicy) (more_orders : List Order) (more_graphs : Graphs) (more_left : AllMade) →
    IsUnderway all all_orders all_graphs running chains orders graphs left → IsNext chains orders graphs left chain order graph made more_chains more_orders more_graphs more_left →
    IsUnderway all all_orders all_graphs running (chain ∷ more_chains) (order ∷ more_orders) (graph ∷ more_graphs) (made ∷ more_left)
next_underway all all_orders all_graphs running chains orders graphs left chain order graph made more_chains more_orders more_graphs more_left under next =
    let one = subst (λ (cs : List ChainPolicy). IsUnderway all all_orders all_graphs running cs orders graphs left) next.chain_next under in
    let two = subst (λ (os : List Order). IsUnderway all all_orders all_graphs running (chain ∷ more_chains) os graphs left) next.order_next one in
    let three = subst (λ (gs : Graphs). IsUnderway all all_orders all_graphs running (chain ∷ more_chains) (order ∷ more_orders) gs left) next.graph_next two in
    subst (λ (ms : AllMade). IsUnderway all all_orders all_graphs running (chain ∷ more_chains) (order ∷ more_orders) (graph ∷ more_graphs) ms) next.made_next three

pub goes_on_with : (all : List ChainPolicy) (all_orders : List Order) (all_graphs : Graphs) (running : List ServiceChain) (chains : List ChainPolicy) (orders : List Order) (graphs : Graphs) (left : AllMade)
    (order : Order) (graph : Option StagedGraph) (made : List (Option Made)) (more_chains : List ChainPolicy) (more_orders : List Order) (more_graphs : Graphs) (more_left : AllMade) (chain : ServiceChain) →
    IsUnderway all all_orders all_graphs running chains orders graphs left → IsNext chains orders graphs left chain.declared order graph made more_chains more_orders more_graphs more_left →
    chain.names ≡ names_at chain.declared.functions order.positions → pieces_in chain ≡ in_graph graph (pieces_at chain.declared.functions order.positions) → IsOpeningChain chain →
    IsUnderway all all_orders all_graphs (running ++ chain ∷ []) more_chains more_orders more_graphs more_left
goes_on_with all all_orders all_graphs running chains orders graphs left order graph made more_chains more_orders more_graphs more_left chain under next names pieces opening =
    let here = next_underway all all_orders all_graphs running chains orders graphs left chain.declared order graph made more_chains more_orders more_graphs more_left under next in
    goes_on all all_orders all_graphs running more_chains more_orders more_graphs more_left chain order graph made here names pieces opening

pub counted_on : {X Z : Type 0} (old new : IntoIter X Z) (x : X) → IsCounted old → into_iter_items old ≡ x ∷ into_iter_items new → into_iter_len new + 1 ≡ into_iter_len old → IsCounted new
counted_on old new x counted items len = record { count = omega (arith, counted.count, ap length items, len) }

none_left : {A : Type 0} (xs : List A) → length xs ≡ 0 → xs ≡ []
none_left [] none = refl
none_left (x ∷ xs) none = absurd (omega arith)

-- with the shortest of the four all are at their ends
pub ends : (all : List ChainPolicy) (all_orders : List Order) (all_graphs : Graphs) (running : List ServiceChain) (chains : List ChainPolicy) (orders : List Order) (graphs : Graphs) (left : AllMade) →
    IsUnderway all all_orders all_graphs running chains orders graphs left → ((((length chains ≡ 0) ⊎ (length orders ≡ 0)) ⊎ (length graphs ≡ 0)) ⊎ (length left ≡ 0)) →
    IsUnderway all all_orders all_graphs running [] [] [] []
ends all all_orders all_graphs running [] [] [] [] under ended = under
ends all all_orders all_graphs running [] [] [] (m ∷ left) under ended = absurd (cc (under.made))
ends all all_orders all_graphs running [] [] (g ∷ graphs) left under ended = absurd under.fit
ends all all_orders all_graphs running [] (o ∷ orders) graphs left under ended = absurd under.ordered
ends all all_orders all_graphs running (c ∷ chains) [] graphs left under ended = absurd under.ordered
ends all all_orders all_graphs running (c ∷ chains) (o ∷ orders) [] left under ended = absurd under.fit
ends all all_orders all_graphs running (c ∷ chains) (o ∷ orders) (g ∷ graphs) [] under ended = absurd (cc (under.made))
ends all all_orders all_graphs running (c ∷ chains) (o ∷ orders) (g ∷ graphs) (m ∷ left) under ended = absurd (omega (arith, ended))

pub all_declared : (all : List ChainPolicy) (all_orders : List Order) (all_graphs : Graphs) (running : List ServiceChain) → IsUnderway all all_orders all_graphs running [] [] [] [] → map (λ c. c.declared) running ≡ all
all_declared all all_orders all_graphs running under = sym (append-nil (map (λ c. c.declared) running)) ∙ under.declared

pub all_names : (all : List ChainPolicy) (all_orders : List Order) (all_graphs : Graphs) (running : List ServiceChain) → IsUnderway all all_orders all_graphs running [] [] [] [] → map (λ c. c.names) running ≡ names_by all all_orders
all_names all all_orders all_graphs running under = sym (append-nil (map (λ c. c.names) running)) ∙ under.names

pub all_pieces : (all : List ChainPolicy) (all_orders : List Order) (all_graphs : Graphs) (running : List ServiceChain) → IsUnderway all all_orders all_graphs running [] [] [] [] → map pieces_in running ≡ pieces_by all all_orders all_graphs
all_pieces all all_orders all_graphs running under = sym (append-nil (map pieces_in running)) ∙ under.pieces
