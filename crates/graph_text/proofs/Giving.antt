-- Each graph that a text gives is lawful.
use Rattle.std.proofs.Common.{◌≡◌, ◌∙◌, ℕ, zero, suc, List, [], ◌∷◌, length, map, set, Some, None, sym, ap, refl, subst, inl, inr}
use Rattle.std.specs.Prelude.{Option, Result, Ok, Err, IfOk, ◌⊎◌, ◌==◌, nat_lt, slice_get}
use Rattle.std.specs.List.{AllByRecursion}
use Rattle.std.specs.Option.{option_map}
use Rattle.std.specs.Str.Lossy.{utf8_valid_len}
use Rattle.std.proofs.Math.ListN.{length-set}
use Rattle.std.proofs.lemmas.List.{length-map}
use Rattle.std.proofs.lemmas.Option.{slice_get-map}
use Rattle.action_profile.specs.declared.rights.Profile.{Profile}
use Rattle.graph_compile.specs.Facts.{IsLawful, IsFull}
use Rattle.graph_compile.specs.declared.graph.Graph.{Graph}
use Rattle.policy_check.specs.declared.fault.Order.{Order}
use Rattle.policy_text.specs.Lines.{lines_of}
use Rattle.policy_text.specs.declared.policy.ChainPolicy.{ChainPolicy}
use Rattle.policy_text.specs.declared.policy.FunctionDecl.{FunctionDecl}
use Rattle.graph_text.specs.Chains.{functions_at, order_at, profile_in, profiles_in}
use Rattle.graph_text.specs.Faults.{faultless}
use Rattle.graph_text.specs.Graphs.{graph_due, no_graph, graphs_with, graphs_of_utf8, graphs_of_bytes, graphs_of}
use Rattle.graph_text.specs.Listing.{listed_by}
use Rattle.graph_text.specs.Soundness.{AreSound, IsSound, EachGraph}
use Rattle.graph_text.specs.Steps.{Gives}
use Rattle.graph_text.specs.declared.fault.GraphReadFault.{GraphReadFault}
use Rattle.graph_text.specs.declared.listed.Listed.{Listed}
use Rattle.graph_text.proofs.Lawfulness.{no_fault, lawful_made, full_made}
use Rattle.graph_text.proofs.Whole.{of_due}
use Rattle.graph_text.proofs.Reading.{then_keeps, cond_keeps, all_sound}

-- What holds for a graph of a chain.
pub record IsTaken (chain : List Profile) (graph : Graph) : Type 0 where
  pub lawful : IsLawful graph chain
  pub full : IsFull graph

-- the graph of one chain
taken : (functions : List FunctionDecl) (order : List ℕ) (listed : Listed) → AreSound (length order) listed.stages → IfOk (graph_due functions order listed) (IsTaken (profiles_in functions order))
unfolding graph_due
taken functions order listed sound =
    let profiles = profiles_in functions order in
    then_keeps (IsTaken profiles) (faultless listed.chain order profiles listed.stages) _ (λ u e. record {
      lawful = lawful_made (length order) profiles listed.stages (length-map order (profile_in functions)) sound (no_fault listed.chain order profiles listed.stages u e);
      full = full_made (length order) profiles listed.stages sound;
    })

-- an item that is set, and the others
set_get : {A : Type 0} (xs : List A) (k i : ℕ) (v x : A) → slice_get (set xs k v) i ≡ Some x → ((i ≡ k) × (x ≡ v)) ⊎ (slice_get xs i ≡ Some x)
set_get [] k i v x e = inr e
set_get (y ∷ ys) zero zero v x e = let same : v ≡ x = cc in inl (refl, sym same)
set_get (y ∷ ys) zero (suc i) v x e = inr e
set_get (y ∷ ys) (suc k) zero v x e = inr e
set_get (y ∷ ys) (suc k) (suc i) v x e = elim (set_get ys k i v x e) [
  | inl h ↦ inl (ap suc h.0, h.1)
  | inr h ↦ inr h
]

one_more : (chains : List ChainPolicy) (orders : List Order) (graphs : List (Option Graph)) (k : ℕ) (graph : Graph) → IsTaken (profiles_in (functions_at chains k) (order_at orders k)) graph →
    EachGraph IsTaken chains orders graphs → EachGraph IsTaken chains orders (set graphs k (Some graph))
one_more chains orders graphs k graph h each i g e = elim (set_get graphs k i (Some graph) (Some g) e) [
  | inl it ↦
      let same : graph ≡ g = cc (it.1) in
      let P : ℕ → Graph → Type 0 = λ n x. IsTaken (profiles_in (functions_at chains n) (order_at orders n)) x in
      subst (λ (n : ℕ). P n g) (sym it.0) (subst (P k) same h)
  | inr there ↦ each i g there
]

ok_at : {A E : Type 0} (P : A → Type 0) (r : Result A E) (x : A) → IfOk r P → r ≡ Ok x → P x
ok_at P (Ok y) x h e = let same : y ≡ x = cc in subst P same h
ok_at P (Err f) x h e = cc

-- What holds for the graphs of all chains.
pub record AreTaken (chains : List ChainPolicy) (orders : List Order) (graphs : List (Option Graph)) : Type 0 where
  pub each : EachGraph IsTaken chains orders graphs
  pub many : length graphs ≡ length chains

all_taken : (chains : List ChainPolicy) (orders : List Order) (graphs : List (Option Graph)) (listed : List Listed) → AllByRecursion (IsSound orders) listed → AreTaken chains orders graphs →
    IfOk (graphs_with chains orders graphs listed) (AreTaken chains orders)
all_taken chains orders graphs [] sound so_far = so_far
all_taken chains orders graphs (l ∷ ls) sound so_far =
    let due = graph_due (functions_at chains l.chain) (order_at orders l.chain) l in
    let one = taken (functions_at chains l.chain) (order_at orders l.chain) l sound.0.stages in
    then_keeps (AreTaken chains orders) due (λ graph. graphs_with chains orders (set graphs l.chain (Some graph)) ls) (λ graph e.
    all_taken chains orders (set graphs l.chain (Some graph)) ls sound.1 (record {
      each = one_more chains orders graphs l.chain graph (ok_at (IsTaken (profiles_in (functions_at chains l.chain) (order_at orders l.chain))) due graph one e) so_far.each;
      many = length-set graphs l.chain (Some graph) ∙ so_far.many;
    }))

none_given : (o : Option ChainPolicy) (graph : Graph) → option_map no_graph o ≡ Some (Some graph) → ⊥
none_given None graph e = cc
none_given (Some c) graph e = let none : None ≡ Some graph = cc in cc

none_yet : (chains : List ChainPolicy) (orders : List Order) → AreTaken chains orders (map no_graph chains)
none_yet chains orders = record {
  each = λ i graph e. absurd (none_given (slice_get chains i) graph (sym (slice_get-map no_graph chains i) ∙ e));
  many = length-map chains no_graph;
}

-- the graphs that a text gives
text_taken : (text : List ℕ) (chains : List ChainPolicy) (orders : List Order) → IfOk (graphs_of text chains orders) (AreTaken chains orders)
unfolding graphs_of graphs_of_bytes graphs_of_utf8
text_taken text chains orders =
    let P : List (Option Graph) → Type 0 = AreTaken chains orders in
    cond_keeps P (nat_lt 1048576 (length text)) _ _ (λ _. tt)
    (cond_keeps P (utf8_valid_len text == length text) _ _ (λ _.
    then_keeps P (listed_by chains orders (lines_of text)) _ (λ listed e.
    all_taken chains orders (map no_graph chains) listed (all_sound chains orders (lines_of text) listed e) (none_yet chains orders)))
    tt)

pub given : (text : List ℕ) (chains : List ChainPolicy) (orders : List Order) (graphs : List (Option Graph)) → graphs_of text chains orders ≡ Ok graphs → AreTaken chains orders graphs
given text chains orders graphs e = ok_at (AreTaken chains orders) (graphs_of text chains orders) graphs (text_taken text chains orders) e

-- what was given, if it is the due value
pub answer : {A : Type 0} (view : A → List (Option Graph)) (r : Result A GraphReadFault) (text : List ℕ) (chains now : List ChainPolicy) (orders : List Order) → chains ≡ now →
    Gives view r (graphs_of text chains orders) → IfOk r (λ v. AreTaken now orders (view v))
answer view r text chains now orders same e =
    of_due view (AreTaken now orders) r (graphs_of text now orders) (subst (λ (cs : List ChainPolicy). Gives view r (graphs_of text cs orders)) same e) (given text now orders)

pub if_more : {A E : Type 0} (P Q : A → Type 0) (r : Result A E) → IfOk r P → ((x : A) → P x → Q x) → IfOk r Q
if_more P Q (Ok x) h k = k x h
if_more P Q (Err e) h k = tt
