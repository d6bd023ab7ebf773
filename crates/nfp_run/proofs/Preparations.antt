-- A policy and the graphs for its chains are read, one after the other.
use Rattle.std.proofs.Common.{◌≡◌, ◌<◌, ◌≤◌, ◌∙◌, inl, inr, ℕ, suc, List, [], ◌∷◌, length, map, refl, ap, sym, subst, arith}
use Rattle.std.specs.Prelude.{true, nat_lt, if◌then◌else◌, Option, Some, None, IfErr, IfOk, IfSome, IsOk, MatchResult, Result, Ok, Err}
use Rattle.std.specs.List.{AllZip, zip}
use Rattle.std.proofs.lemmas.Bool.Decides.{nat_tests}
use Rattle.graph_compile.specs.Facts.{IsFull, IsLawful}
use Rattle.graph_compile.specs.Lawful.{IsStaged}
use Rattle.graph_compile.specs.declared.graph.Graph.{Graph as StagedGraph}
use Rattle.graph_text.specs.Graphs.{graphs_of, graphs_of_bytes, no_graph}
use Rattle.graph_text.specs.Soundness.{EachGraph, IsOrderOf}
use Rattle.graph_text.specs.declared.fault.GraphFault.{GraphFault}
use Rattle.graph_text.specs.declared.fault.GraphFault.TheVariants as graph
use Rattle.nfp_outside.specs.declared.slot.Slot.{Slot}
use Rattle.nfp_outside.specs.declared.slot.Slot.TheVariants as slots
use Rattle.nfp_outside.specs.Outside.{SlotView, IsRisen}
use Rattle.policy_check.specs.declared.fault.Order.{Order}
use Rattle.policy_judge.specs.Judging.{judged}
use Rattle.policy_judge.specs.Making.{functions_made}
use Rattle.policy_judge.specs.Orders.{IsOrdered}
use Rattle.policy_judge.specs.declared.fault.Refusal.{Refusal}
use Rattle.policy_judge.specs.declared.judged.Judged.{Judged}
use Rattle.policy_text.specs.declared.policy.ChainPolicy.{ChainPolicy}
use Rattle.capture_run.specs.ChainServiceProofs.{FitAll}
use Rattle.capture_run.specs.ChainService.{Chains}
use Rattle.nfp_run.specs.Answers.{HasPolicy, WhereTexts}
use Rattle.nfp_run.specs.Plan.{plan_text}
use Rattle.nfp_run.specs.Preparing.{Unprepared, chains_prepared, prepared, prepared_by, prepared_with}
use Rattle.nfp_run.specs.Reading.{EndsAtGraph, EndsAtTexts, GraphRefusedBy, GraphUnread, IsPlanOf, IsReady, IsShownIn, PlanEnds, Prepares, Serves, ShowsPlan, TextUnread, UnreadGraphEnds, chains_run}
use Rattle.call_ending.specs.Reading.{EndsAtPolicy, IsUnread}
use Rattle.call_ending.specs.declared.ending.Ending.{Ending}
use Rattle.call_ending.specs.declared.ending.Ending.TheVariants.{Completed, Shown, Refused, GraphRefused, Stopped}
use Rattle.call_ending.specs.declared.outcome.Outcome.TheVariants.{Done, Usage, Policy, Graph, Capture, CaptureNg, ReadFault, WriteFault, OutOfMemory}
use Rattle.nfp_run.specs.declared.prepared.Prepared.{Prepared}
use Rattle.call_ending.specs.declared.read.Unread.{Unread}
use Rattle.call_ending.specs.declared.read.Unread.TheVariants.{TooLong, Failed, NoMemory}
use Rattle.nfp_run.proofs.ShownPlans.{few_ordered}
use Rattle.nfp_run.proofs.TextsTold.{if_texts, if_told, texts_by_policy}

-- ---- the policy

pub policy_ends : (named : Option (List ℕ)) (old new : Slot → SlotView) (ending : Ending) → EndsAtPolicy (old slots.Policy) (new slots.Policy) ending → EndsAtTexts named old new ending
policy_ends named old new (Refused refusal) h = h
policy_ends named old new (Stopped (ReadFault s)) h = subst (TextUnread named old new) (sym h.0) h.1
policy_ends named old new (Stopped OutOfMemory) h = tt
policy_ends named old new (Stopped Done) h = absurd h
policy_ends named old new (Stopped (Usage fault)) h = absurd h
policy_ends named old new (Stopped (Policy fault)) h = absurd h
policy_ends named old new (Stopped (Graph fault)) h = absurd h
policy_ends named old new (Stopped (Capture fault)) h = absurd h
policy_ends named old new (Stopped (CaptureNg fault)) h = absurd h
policy_ends named old new (Stopped (WriteFault s)) h = absurd h
policy_ends named old new (GraphRefused refusal) h = absurd h
policy_ends named old new (Completed totals) h = absurd h
policy_ends named old new (Shown text) h = absurd h

is_judged : (r : Result Judged Refusal) (policy : Judged) → r ≡ Ok policy → IsOk r
is_judged r policy is = subst IsOk (sym is) refl

has_policy : (old : Slot → SlotView) (policy : Judged) → IfSome (old slots.Policy).bytes (λ bytes. judged bytes ≡ Ok policy) → HasPolicy old
has_policy old policy told = if_told (old slots.Policy).bytes _ _ (λ bytes is. is_judged (judged bytes) policy is) told

-- ---- no graphs

pub none_fit : (chains : List ChainPolicy) (orders : List Order) → AllZip IsOrdered chains orders → FitAll chains orders (map no_graph chains)
none_fit [] [] all = tt
none_fit [] (o ∷ orders) all = absurd all
none_fit (c ∷ chains) [] all = absurd all
none_fit (c ∷ chains) (o ∷ orders) all = (tt, none_fit chains orders all.1)

none_shown : (chains : List ChainPolicy) (orders : List Order) → AllZip IsOrdered chains orders → AllZip IsShownIn (zip chains orders) (map no_graph chains)
none_shown [] [] all = tt
none_shown [] (o ∷ orders) all = absurd all
none_shown (c ∷ chains) [] all = absurd all
none_shown (c ∷ chains) (o ∷ orders) all = (tt, none_shown chains orders all.1)

pub ready_alone : (policy : Judged) (graphs : List (Option StagedGraph)) → AllZip IsOrdered policy.policy.chains policy.orders → policy.functions ≡ functions_made policy.policy.chains →
    length policy.policy.chains ≤ 16 →
    graphs ≡ map no_graph policy.policy.chains → IsReady (record { judged = policy; graphs = graphs })
ready_alone policy graphs ordered made few is = record {
  ordered = ordered;
  made = made;
  few = few;
  fit = subst (FitAll policy.policy.chains policy.orders) (sym is) (none_fit policy.policy.chains policy.orders ordered);
  shown = subst (AllZip IsShownIn (zip policy.policy.chains policy.orders)) (sym is) (none_shown policy.policy.chains policy.orders ordered);
}

pub none_prepares : (old new : Slot → SlotView) (policy : Judged) (r : Result Prepared Ending) → IfSome (old slots.Policy).bytes (λ bytes. judged bytes ≡ Ok policy) →
    IfOk r (λ p. p ≡ record { judged = policy; graphs = map no_graph policy.policy.chains }) → IfErr r (λ ending. ending ≡ Stopped OutOfMemory) →
    MatchResult r (Prepares None old) (EndsAtTexts None old new)
none_prepares old new policy (Ok p) told is short = record {
  policy = has_policy old policy told;
  told = texts_by_policy None old _ _ (λ b g good. ap (λ r. prepared_by None r g) good ∙ ap Ok (sym is)) told;
}
none_prepares old new policy (Err ending) told is short = subst (EndsAtTexts None old new) (sym short) tt

-- ---- graphs of a name

orders_of_one : (chain : ChainPolicy) (order : Order) → IsOrdered chain order → IsOrderOf chain order
orders_of_one chain order ordered = record { inside = ordered.inside; few = few_ordered chain order ordered }

pub orders_of : (chains : List ChainPolicy) (orders : List Order) → AllZip IsOrdered chains orders → AllZip IsOrderOf chains orders
orders_of [] [] all = tt
orders_of [] (o ∷ orders) all = absurd all
orders_of (c ∷ chains) [] all = absurd all
orders_of (c ∷ chains) (o ∷ orders) all = (orders_of_one c o all.0, orders_of chains orders all.1)

fit_each : (chains : List ChainPolicy) (orders : List Order) (graphs : List (Option StagedGraph)) → AllZip IsOrdered chains orders → length graphs ≡ length chains →
    EachGraph (λ chain g. IsLawful g chain) chains orders graphs → EachGraph (λ chain g. IsFull g) chains orders graphs → FitAll chains orders graphs
fit_each [] [] [] all many lawful full = tt
fit_each [] [] (g ∷ graphs) all many lawful full = absurd (omega (arith, many))
fit_each [] (o ∷ orders) graphs all many lawful full = absurd all
fit_each (c ∷ chains) [] graphs all many lawful full = absurd all
fit_each (c ∷ chains) (o ∷ orders) [] all many lawful full = absurd (omega (arith, many))
fit_each (c ∷ chains) (o ∷ orders) (None ∷ graphs) all many lawful full =
    (tt, fit_each chains orders graphs all.1 (omega (arith, many)) (λ i. lawful (suc i)) (λ i. full (suc i)))
fit_each (c ∷ chains) (o ∷ orders) (Some g ∷ graphs) all many lawful full =
    ((lawful 0 g refl, full 0 g refl), fit_each chains orders graphs all.1 (omega (arith, many)) (λ i. lawful (suc i)) (λ i. full (suc i)))

shown_each : (chains : List ChainPolicy) (orders : List Order) (graphs : List (Option StagedGraph)) → AllZip IsOrdered chains orders → length graphs ≡ length chains →
    EachGraph (λ chain g. IsStaged chain 1 g.stages (suc (length chain))) chains orders graphs → EachGraph (λ chain g. IsFull g) chains orders graphs → AllZip IsShownIn (zip chains orders) graphs
shown_each [] [] [] all many staged full = tt
shown_each [] [] (g ∷ graphs) all many staged full = absurd (omega (arith, many))
shown_each [] (o ∷ orders) graphs all many staged full = absurd all
shown_each (c ∷ chains) [] graphs all many staged full = absurd all
shown_each (c ∷ chains) (o ∷ orders) [] all many staged full = absurd (omega (arith, many))
shown_each (c ∷ chains) (o ∷ orders) (None ∷ graphs) all many staged full =
    (tt, shown_each chains orders graphs all.1 (omega (arith, many)) (λ i. staged (suc i)) (λ i. full (suc i)))
shown_each (c ∷ chains) (o ∷ orders) (Some g ∷ graphs) all many staged full =
    ((full 0 g refl, staged 0 g refl), shown_each chains orders graphs all.1 (omega (arith, many)) (λ i. staged (suc i)) (λ i. full (suc i)))

pub ready_with : (policy : Judged) (graphs : List (Option StagedGraph)) → AllZip IsOrdered policy.policy.chains policy.orders → policy.functions ≡ functions_made policy.policy.chains →
    length policy.policy.chains ≤ 16 →
    length graphs ≡ length policy.policy.chains → EachGraph (λ chain g. IsLawful g chain) policy.policy.chains policy.orders graphs →
    EachGraph (λ chain g. IsStaged chain 1 g.stages (suc (length chain))) policy.policy.chains policy.orders graphs → EachGraph (λ chain g. IsFull g) policy.policy.chains policy.orders graphs →
    IsReady (record { judged = policy; graphs = graphs })
ready_with policy graphs ordered made few many lawful staged full = record {
  ordered = ordered;
  made = made;
  few = few;
  fit = fit_each policy.policy.chains policy.orders graphs ordered many lawful full;
  shown = shown_each policy.policy.chains policy.orders graphs ordered many staged full;
}

long_graphs : (policy : Judged) (text : List ℕ) → 1048576 < length text → graphs_of text policy.policy.chains policy.orders ≡ Err graph.TooLong
unfolding graphs_of
long_graphs policy text long =
    let beyond : nat_lt 1048576 (length text) ≡ true = grind (arith, nat_tests) in
    ap (λ b. if b then Err graph.TooLong else graphs_of_bytes text policy.policy.chains policy.orders) beyond

pub graph_refused_ends : (policy : Judged) (old new : SlotView) (fault : GraphFault) (ending : Ending) → IfSome old.bytes (λ text. graphs_of text policy.policy.chains policy.orders ≡ Err fault) →
    GraphRefusedBy policy fault ending → EndsAtGraph policy old new ending
graph_refused_ends policy old new fault ending told (inl is) = subst (EndsAtGraph policy old new) (sym is) (if_told old.bytes _ _ (λ text due. ap (prepared_with policy) due) told)
graph_refused_ends policy old new fault ending told (inr short) = subst (EndsAtGraph policy old new) (sym short) tt

pub unread_graph_ends : (policy : Judged) (old new : SlotView) (unread : Unread) (ending : Ending) → IsUnread 1048576 old new unread → UnreadGraphEnds policy unread ending →
    EndsAtGraph policy old new ending
unread_graph_ends policy old new TooLong ending is ends = graph_refused_ends policy old new graph.TooLong ending (if_told old.bytes _ _ (λ text long. long_graphs policy text long) is) ends
unread_graph_ends policy old new Failed ending is ends = subst (EndsAtGraph policy old new) (sym ends) (refl, is)
unread_graph_ends policy old new NoMemory ending is ends = subst (EndsAtGraph policy old new) (sym ends) tt

-- what was read is what the desk shows
pub told_graphs : (policy : Judged) (old : SlotView) (read : List ℕ) (due : Result (List (Option StagedGraph)) GraphFault) → IfSome old.bytes (λ text. text ≡ read) →
    graphs_of read policy.policy.chains policy.orders ≡ due →
    IfSome old.bytes (λ text. graphs_of text policy.policy.chains policy.orders ≡ due)
told_graphs policy old read due is given = if_told old.bytes _ _ (λ text e. ap (λ t. graphs_of t policy.policy.chains policy.orders) e ∙ given) is

pub graphs_prepared : (policy : Judged) (old : SlotView) (read : List ℕ) (graphs : List (Option StagedGraph)) → IfSome old.bytes (λ text. text ≡ read) →
    graphs_of read policy.policy.chains policy.orders ≡ Ok graphs →
    IfSome old.bytes (λ text. prepared_with policy (graphs_of text policy.policy.chains policy.orders) ≡ Ok (record { judged = policy; graphs = graphs }))
graphs_prepared policy old read graphs is given = if_told old.bytes _ _ (λ text due. ap (prepared_with policy) due) (told_graphs policy old read (Ok graphs) is given)

-- both texts, stated for their slots as they were before either was read
both_told : (old : Slot → SlotView) (name : List ℕ) (policy : Judged) (graphs : SlotView) (due : Result Prepared Unprepared) → graphs ≡ old slots.Graph →
    IfSome (old slots.Policy).bytes (λ bytes. judged bytes ≡ Ok policy) →
    IfSome graphs.bytes (λ text. prepared_with policy (graphs_of text policy.policy.chains policy.orders) ≡ due) → WhereTexts (Some name) old (λ p g. prepared (Some name) p g ≡ due)
both_told old name policy graphs due same told given = if_told (old slots.Policy).bytes _ _
    (λ b good. if_told (old slots.Graph).bytes _ _ (λ t is. ap (λ r. prepared_by (Some name) r t) good ∙ is) (subst (λ v. IfSome v.bytes (λ text. prepared_with policy (graphs_of text policy.policy.chains policy.orders) ≡ due)) same given))
    told

named_ends : (name : List ℕ) (old new : Slot → SlotView) (policy : Judged) (before : SlotView) (ending : Ending) → before ≡ old slots.Graph →
    IfSome (old slots.Policy).bytes (λ bytes. judged bytes ≡ Ok policy) →
    EndsAtGraph policy before (new slots.Graph) ending → EndsAtTexts (Some name) old new ending
named_ends name old new policy before (GraphRefused refusal) same told h = record { name = name; is = refl; policy = has_policy old policy told; told = both_told old name policy before _ same told h }
named_ends name old new policy before (Stopped (ReadFault s)) same told h =
    let unread : GraphUnread (Some name) old new = record { name = name; is = refl; policy = has_policy old policy told; risen = subst (λ v. IsRisen v.faults (new slots.Graph).faults) same h.1 } in
    subst (TextUnread (Some name) old new) (sym h.0) unread
named_ends name old new policy before (Stopped OutOfMemory) same told h = tt
named_ends name old new policy before (Stopped Done) same told h = absurd h
named_ends name old new policy before (Stopped (Usage fault)) same told h = absurd h
named_ends name old new policy before (Stopped (Policy fault)) same told h = absurd h
named_ends name old new policy before (Stopped (Graph fault)) same told h = absurd h
named_ends name old new policy before (Stopped (Capture fault)) same told h = absurd h
named_ends name old new policy before (Stopped (CaptureNg fault)) same told h = absurd h
named_ends name old new policy before (Stopped (WriteFault s)) same told h = absurd h
named_ends name old new policy before (Refused refusal) same told h = absurd h
named_ends name old new policy before (Completed totals) same told h = absurd h
named_ends name old new policy before (Shown text) same told h = absurd h

pub named_prepares : (name : List ℕ) (old new : Slot → SlotView) (policy : Judged) (before : SlotView) (r : Result Prepared Ending) → before ≡ old slots.Graph →
    IfSome (old slots.Policy).bytes (λ bytes. judged bytes ≡ Ok policy) →
    MatchResult r (λ p. IfSome before.bytes (λ text. prepared_with policy (graphs_of text policy.policy.chains policy.orders) ≡ Ok p)) (EndsAtGraph policy before (new slots.Graph)) →
    MatchResult r (Prepares (Some name) old) (EndsAtTexts (Some name) old new)
named_prepares name old new policy before (Ok p) same told given = record { policy = has_policy old policy told; told = both_told old name policy before (Ok p) same told given }
named_prepares name old new policy before (Err ending) same told given = named_ends name old new policy before ending same told given

-- ---- what runs, and what is shown

pub served : (named : Option (List ℕ)) (old : Slot → SlotView) (p : Prepared) (chains : Chains) → Prepares named old p → chains ≡ chains_prepared p → Serves named old chains
served named old p chains prepares is = record {
  policy = prepares.policy;
  runs = if_texts named old _ _ (λ b g good. ap chains_run good ∙ ap Some (sym is)) prepares.told;
}

pub plan_shown : (named : Option (List ℕ)) (old : Slot → SlotView) (p : Prepared) (text : List ℕ) → Prepares named old p → text ≡ plan_text p → ShowsPlan named old text
plan_shown named old p text prepares is = record {
  policy = prepares.policy;
  plan = if_texts named old _ _ (λ b g good. subst (IsPlanOf text) (sym good) is) prepares.told;
}

pub plan_ends : (named : Option (List ℕ)) (old new : Slot → SlotView) (ending : Ending) → EndsAtTexts named old new ending → PlanEnds named old new ending
plan_ends named old new (Refused refusal) ends = ends
plan_ends named old new (GraphRefused refusal) ends = ends
plan_ends named old new (Stopped outcome) ends = ends
plan_ends named old new (Completed totals) ends = ends
plan_ends named old new (Shown text) ends = absurd ends
