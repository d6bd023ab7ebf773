-- The plan of a policy, chain by chain, and what a call that shows it, or shows a demo, leaves.
use Rattle.std.proofs.Common.{◌≡◌, ◌≢◌, ◌<◌, ◌≤◌, ◌⊎◌, ◌∙◌, inl, ℕ, List, [], ◌∷◌, ◌++◌, length, drop, get_or, zero, suc, ◌+◌, append_assoc, refl, ap, sym, subst, arith}
use Rattle.std.specs.Prelude.{Option, Some, None, IsOk, Result, Ok, Err}
use Rattle.std.specs.List.{AllZip, range_with_len, zip}
use Rattle.std.proofs.lemmas.List.{drop_more, drop_all, append-nil}
use Rattle.std.proofs.lemmas.List.FromFn.{length-range_with_len}
use Rattle.std.proofs.lemmas.List.Sorted.{length_permutation}
use Rattle.graph_compile.specs.declared.graph.Graph.{Graph as StagedGraph}
use Rattle.policy_text.specs.declared.policy.ChainPolicy.{ChainPolicy}
use Rattle.policy_check.specs.declared.fault.Order.{Order}
use Rattle.policy_judge.specs.Orders.{IsOrdered}
use Rattle.plan_text.specs.Putting.{IsShownFor}
use Rattle.nfp_run.specs.Plan.{plans}
use Rattle.nfp_outside.specs.declared.slot.Slot.{Slot}
use Rattle.nfp_outside.specs.declared.slot.Slot.TheVariants as slots
use Rattle.nfp_outside.specs.Outside.{SlotView}
use Rattle.call_ending.specs.declared.ending.Ending.{Ending}
use Rattle.call_ending.specs.declared.ending.Ending.TheVariants.{Completed, Shown, Refused, GraphRefused, Stopped}
use Rattle.call_ending.specs.declared.outcome.Outcome.TheVariants.{Done, Usage, Policy, Graph, Capture, CaptureNg, ReadFault, WriteFault, OutOfMemory}
use Rattle.nfp_run.specs.declared.prepared.Prepared.{Prepared}
use Rattle.command_words.specs.declared.usage.UsageFault.{UsageFault}
use Rattle.command_words.specs.declared.requests.DemoInput.{DemoInput}
use Rattle.command_words.specs.declared.requests.RunOptions.{RunOptions}
use Rattle.command_words.specs.Words.{Command, Plan, PlanFiles, Demo}
use Rattle.nfp_run.specs.Due.{due_of_plan, due_of_command}
use Rattle.nfp_run.specs.Answers.{HasNames, IsUntouched, ReachesCapture, ReadsToEnd}
use Rattle.nfp_run.specs.Closing.{EndsDue}
use Rattle.call_ending.specs.Endings.{outcome_seen}
use Rattle.plan_text.specs.Plan.{chain_plan}
use Rattle.nfp_run.specs.Preparing.{Unprepared, prepared}
use Rattle.nfp_run.specs.Ran.{Ran}
use Rattle.nfp_run.specs.Reading.{DemoEnds, EndsAtTexts, IsPlanOf, IsShownIn, PlanEnds}
use Rattle.nfp_run.proofs.HeldBytes.{untouched_same}
use Rattle.nfp_run.proofs.OtherSlots.{capture_is_not_graph, capture_is_not_policy, note_is_not_graph, note_is_not_policy, out_is_not_graph, out_is_not_policy, report_is_not_graph, report_is_not_policy}
use Rattle.nfp_run.proofs.TextEnds.{Beside, IsTextCommand, beside_name, leaves_both, none_attached, texts_ran, untouched_prefixes}
use Rattle.nfp_run.proofs.TextsTold.{if_texts, read_always}
use Rattle.nfp_run.proofs.UnreadWords.{unread_ran}

plan_due : (text : List ℕ) (r : Result Prepared Unprepared) (old new : Slot → SlotView) → Beside old new → IsPlanOf text r → EndsDue (due_of_plan r) old new (Shown text)
plan_due text (Ok p) old new b is = record { answer = refl; left = leaves_both old new b; note = is }
plan_due text (Err fault) old new b is = absurd is

plan_names : (names : PlanFiles) (old new : Slot → SlotView) → Beside old new → ((new slots.Policy).name ≡ None) ⊎ ((new slots.Policy).name ≡ Some names.policy) →
    ((new slots.Graph).name ≡ None) ⊎ ((new slots.Graph).name ≡ names.graph) → HasNames (Ok (Plan names)) new
plan_names names old new b policy graph slots.Policy = policy
plan_names names old new b policy graph slots.Graph = graph
plan_names names old new b policy graph slots.Capture = inl (beside_name old new b slots.Capture capture_is_not_policy capture_is_not_graph)
plan_names names old new b policy graph slots.Out = inl (beside_name old new b slots.Out out_is_not_policy out_is_not_graph)
plan_names names old new b policy graph slots.Report = inl (beside_name old new b slots.Report report_is_not_policy report_is_not_graph)
plan_names names old new b policy graph slots.Note = inl (beside_name old new b slots.Note note_is_not_policy note_is_not_graph)

planned_ok : (text : List ℕ) (r : Result Prepared Unprepared) → IsPlanOf text r → IsOk r
planned_ok text (Ok p) is = refl
planned_ok text (Err fault) is = absurd is

plan_reaches : (names : PlanFiles) (old new : Slot → SlotView) (e : Ending) → EndsAtTexts names.graph old new e → ReachesCapture (Ok (Plan names)) (outcome_seen e) old
plan_reaches names old new (Refused refusal) h = tt
plan_reaches names old new (GraphRefused refusal) h = tt
plan_reaches names old new (Stopped (ReadFault s)) h = tt
plan_reaches names old new (Stopped OutOfMemory) h = tt
plan_reaches names old new (Stopped Done) h = absurd h
plan_reaches names old new (Stopped (Usage fault)) h = absurd h
plan_reaches names old new (Stopped (Policy fault)) h = absurd h
plan_reaches names old new (Stopped (Graph fault)) h = absurd h
plan_reaches names old new (Stopped (Capture fault)) h = absurd h
plan_reaches names old new (Stopped (CaptureNg fault)) h = absurd h
plan_reaches names old new (Stopped (WriteFault s)) h = absurd h
plan_reaches names old new (Completed totals) h = absurd h
plan_reaches names old new (Shown text) h = absurd h

-- the state after a plan
pub plan_ran : (names : PlanFiles) (old new : Slot → SlotView) (ending : Ending) → ((s : Slot) → (old s).name ≡ None) →
    ((new slots.Policy).name ≡ None) ⊎ ((new slots.Policy).name ≡ Some names.policy) →
    ((new slots.Graph).name ≡ None) ⊎ ((new slots.Graph).name ≡ names.graph) → ((s : Slot) → s ≢ slots.Policy → s ≢ slots.Graph → new s ≡ old s) → PlanEnds names.graph old new ending →
    (outcome_seen ending ≡ Done → ReadsToEnd (Ok (Plan names)) new) → Ran (Ok (Plan names)) old new ending
plan_ran names old new ending free policy graph others ends whole = go ending ends whole
  where
    b : Beside old new
    b = record { free = free; others = others }

    t : IsTextCommand (Ok (Plan names)) names.graph old new
    t = record {
      accepted = λ fault x. absurd cc;
      policy = tt;
      graph = λ name is. is;
      names = plan_names names old new b policy graph;
      attaches = λ e h. none_attached old new b;
      reaches = plan_reaches names old new;
      due = λ e h. if_texts names.graph old _ _ (λ p g is c. subst (λ r. EndsDue (due_of_plan r) old new e) (sym is.is) is.ends) h;
    }

    go : (e : Ending) → PlanEnds names.graph old new e → (outcome_seen e ≡ Done → ReadsToEnd (Ok (Plan names)) new) → Ran (Ok (Plan names)) old new e
    go (Shown text) h drained = record {
      due = λ f. if_texts names.graph old _ _ (λ p g is c. plan_due text (prepared names.graph p g) old new b is) h.plan;
      prefixes = read_always (Ok (Plan names)) old _ (λ p g c. untouched_prefixes (due_of_command (Ok (Plan names)) p g c).written old new (leaves_both old new b));
      within = tt;
      names_are = plan_names names old new b policy graph;
      attached = none_attached old new b;
      report_behind = inl (none_attached old new b).1;
      note_stays = others slots.Note note_is_not_policy note_is_not_graph;
      usage = λ fault x. absurd cc;
      usage_always = λ fault x. absurd cc;
      refused = λ fault x. absurd cc;
      graph_refused = λ fault x. absurd cc;
      drained = drained;
      policy = (h.policy, if_texts names.graph old _ _ (λ p g is. planned_ok text (prepared names.graph p g) is) h.plan);
      read_faults = λ s x. absurd cc;
      write_faults = λ s x. absurd cc;
      no_note_fault = λ x. cc;
    }
    go (Refused refusal) h drained = texts_ran (Ok (Plan names)) names.graph old new (Refused refusal) t b h
    go (GraphRefused refusal) h drained = texts_ran (Ok (Plan names)) names.graph old new (GraphRefused refusal) t b h
    go (Stopped outcome) h drained = texts_ran (Ok (Plan names)) names.graph old new (Stopped outcome) t b h
    go (Completed totals) h drained = absurd h

-- the state after a demo
pub demo_ran : (input : DemoInput) (options : RunOptions) (old : Slot → SlotView) (ending : Ending) → ((s : Slot) → (old s).name ≡ None) → DemoEnds input ending →
    Ran (Ok (Demo input options)) old old ending
demo_ran input options old ending free ends = go ending ends
  where
    left : IsUntouched (old slots.Out) (old slots.Out) × IsUntouched (old slots.Report) (old slots.Report)
    left = (untouched_same (old slots.Out) (old slots.Out) (free slots.Out) refl, untouched_same (old slots.Report) (old slots.Report) (free slots.Report) refl)

    go : (e : Ending) → DemoEnds input e → Ran (Ok (Demo input options)) old old e
    go (Shown text) h = record {
      due = λ f p g c. record { answer = refl; left = left; note = h };
      prefixes = λ p g c. left;
      within = tt;
      names_are = λ s. inl (free s);
      attached = (free slots.Out, free slots.Report);
      report_behind = inl (free slots.Report);
      note_stays = refl;
      usage = λ fault x. absurd cc;
      usage_always = λ fault x. absurd cc;
      refused = λ fault x. absurd cc;
      graph_refused = λ fault x. absurd cc;
      policy = tt;
      drained = λ x. tt;
      read_faults = λ s x. absurd cc;
      write_faults = λ s x. absurd cc;
      no_note_fault = λ x. cc;
    }
    go (Stopped OutOfMemory) h = unread_ran (Ok (Demo input options)) old free
    go (Stopped (ReadFault s)) h = absurd h
    go (Stopped Done) h = absurd h
    go (Stopped (Usage fault)) h = absurd h
    go (Stopped (Policy fault)) h = absurd h
    go (Stopped (Graph fault)) h = absurd h
    go (Stopped (Capture fault)) h = absurd h
    go (Stopped (CaptureNg fault)) h = absurd h
    go (Stopped (WriteFault s)) h = absurd h
    go (Refused refusal) h = absurd h
    go (GraphRefused refusal) h = absurd h
    go (Completed totals) h = absurd h

-- the state after words that are refused
pub usage_ran : (fault : UsageFault) (old : Slot → SlotView) → ((s : Slot) → (old s).name ≡ None) → Ran (Err fault) old old (Stopped (Usage fault))
usage_ran fault old free = record {
  due = λ f p g c. record { answer = refl; left = untouched; note = refl };
  prefixes = λ p g c. untouched;
  within = tt;
  names_are = free;
  attached = (free slots.Out, free slots.Report);
  report_behind = inl (free slots.Report);
  note_stays = refl;
  usage = λ f x. ap Err (same_usage fault f x);
  usage_always = λ f x. inl (ap (λ y. Usage y) (same_err fault f x));
  refused = λ f x. absurd cc;
  graph_refused = λ f x. absurd cc;
  policy = tt;
  drained = λ x. tt;
  read_faults = λ s x. absurd cc;
  write_faults = λ s x. absurd cc;
  no_note_fault = λ x. cc;
}
  where
    untouched : IsUntouched (old slots.Out) (old slots.Out) × IsUntouched (old slots.Report) (old slots.Report)
    untouched = (untouched_same (old slots.Out) (old slots.Out) (free slots.Out) refl, untouched_same (old slots.Report) (old slots.Report) (free slots.Report) refl)

    same_usage : (a c : UsageFault) → Usage a ≡ Usage c → a ≡ c
    same_usage a c x = cc

    same_err : (a c : UsageFault) → ◌≡◌ {A = Result Command UsageFault} (Err a) (Err c) → a ≡ c
    same_err a c x = cc

-- the plans from this place on are still to be shown
pub record IsShown (chains : List ChainPolicy) (orders : List Order) (graphs : List (Option StagedGraph)) (place : ℕ) (text : List ℕ) : Type 0 where
  pub due : text ++ plans (drop place chains) (drop place orders) (drop place graphs) ≡ plans chains orders graphs

pub none_shown : (chains : List ChainPolicy) (orders : List Order) (graphs : List (Option StagedGraph)) → IsShown chains orders graphs 0 []
none_shown chains orders graphs = record { due = refl }

pub one_shown : (chains : List ChainPolicy) (orders : List Order) (graphs : List (Option StagedGraph)) (place : ℕ) (text text' : List ℕ) (c chain : ChainPolicy) (o order : Order) (g graph : Option StagedGraph) →
    IsShown chains orders graphs place text → place < length chains → place < length orders → place < length graphs → chain ≡ get_or chains place c → order ≡ get_or orders place o →
    graph ≡ get_or graphs place g →
    text' ≡ text ++ chain_plan chain order.positions graph → IsShown chains orders graphs (place + 1) text'
one_shown chains orders graphs place text text' c chain o order g graph at inside inside' inside'' is is' is'' more =
    let here : List ℕ = chain_plan chain order.positions graph in
    let later : List ℕ = plans (drop (place + 1) chains) (drop (place + 1) orders) (drop (place + 1) graphs) in
    let head : plans (drop place chains) (drop place orders) (drop place graphs) ≡ here ++ later =
    ap (λ l. plans l (drop place orders) (drop place graphs)) (drop_more chains place c inside ∙ ap (λ x. x ∷ drop (place + 1) chains) (sym is))
    ∙ ap (λ l. plans (chain ∷ drop (place + 1) chains) l (drop place graphs)) (drop_more orders place o inside' ∙ ap (λ x. x ∷ drop (place + 1) orders) (sym is'))
    ∙ ap (λ l. plans (chain ∷ drop (place + 1) chains) (order ∷ drop (place + 1) orders) l) (drop_more graphs place g inside'' ∙ ap (λ x. x ∷ drop (place + 1) graphs) (sym is'')) in
    record {
      due = ap (λ t. t ++ later) more ∙ append_assoc text here later ∙ ap (λ l. text ++ l) (sym head) ∙ at.due;
    }

pub all_shown : (chains : List ChainPolicy) (orders : List Order) (graphs : List (Option StagedGraph)) (place : ℕ) (text : List ℕ) → IsShown chains orders graphs place text → length chains ≤ place →
    text ≡ plans chains orders graphs
all_shown chains orders graphs place text at past =
    sym (append-nil text) ∙ ap (λ l. text ++ plans l (drop place orders) (drop place graphs)) (sym (drop_all place chains past)) ∙ at.due

-- each chain has its order at the same place
ordered_at : (chains : List ChainPolicy) (orders : List Order) (place : ℕ) (c : ChainPolicy) (o : Order) → AllZip IsOrdered chains orders → place < length chains →
    IsOrdered (get_or chains place c) (get_or orders place o)
ordered_at [] orders place c o all inside = absurd (omega arith)
ordered_at (x ∷ chains) [] place c o all inside = absurd all
ordered_at (x ∷ chains) (y ∷ orders) zero c o all inside = all.0
ordered_at (x ∷ chains) (y ∷ orders) (suc place) c o all inside = ordered_at chains orders place c o all.1 (omega arith)

pub ordered_here : (chains chains' : List ChainPolicy) (orders orders' : List Order) (place : ℕ) (chain : ChainPolicy) (order : Order) → chains ≡ chains' → orders ≡ orders' →
    AllZip IsOrdered chains' orders' →
    place < length chains → chain ≡ get_or chains place chain → order ≡ get_or orders place order → IsOrdered chain order
ordered_here chains chains' orders orders' place chain order same same' all inside is is' =
    let ordered : AllZip IsOrdered chains orders = subst (λ l. AllZip IsOrdered l orders) (sym same) (subst (AllZip IsOrdered chains') (sym same') all) in
    subst (λ c. IsOrdered c order) (sym is) (subst (IsOrdered (get_or chains place chain)) (sym is') (ordered_at chains orders place chain order ordered inside))

pub as_many : (chains : List ChainPolicy) (orders : List Order) → AllZip IsOrdered chains orders → length orders ≡ length chains
as_many [] [] all = refl
as_many [] (y ∷ orders) all = absurd all
as_many (x ∷ chains) [] all = absurd all
as_many (x ∷ chains) (y ∷ orders) all = ap suc (as_many chains orders all.1)

-- and its graph, which may be shown
shown_at : (chains : List ChainPolicy) (orders : List Order) (graphs : List (Option StagedGraph)) (place : ℕ) (c : ChainPolicy) (o : Order) (g : Option StagedGraph) →
    AllZip IsOrdered chains orders → AllZip IsShownIn (zip chains orders) graphs →
    place < length chains → IsShownIn (get_or chains place c, get_or orders place o) (get_or graphs place g)
shown_at [] orders graphs place c o g all shown inside = absurd (omega arith)
shown_at (x ∷ chains) [] graphs place c o g all shown inside = absurd all
shown_at (x ∷ chains) (y ∷ orders) [] place c o g all shown inside = absurd shown
shown_at (x ∷ chains) (y ∷ orders) (z ∷ graphs) zero c o g all shown inside = shown.0
shown_at (x ∷ chains) (y ∷ orders) (z ∷ graphs) (suc place) c o g all shown inside = shown_at chains orders graphs place c o g all.1 shown.1 (omega arith)

pub shown_here : (chains chains' : List ChainPolicy) (orders orders' : List Order) (graphs graphs' : List (Option StagedGraph)) (place : ℕ) (chain : ChainPolicy) (order : Order) (graph : Option StagedGraph) →
    chains ≡ chains' → orders ≡ orders' → graphs ≡ graphs' → AllZip IsOrdered chains' orders' → AllZip IsShownIn (zip chains' orders') graphs' →
    place < length chains → chain ≡ get_or chains place chain → order ≡ get_or orders place order → graph ≡ get_or graphs place graph → IsShownFor chain.functions order.positions graph
shown_here chains chains' orders orders' graphs graphs' place chain order graph same same' same'' all shown inside is is' is'' =
    let inside' : place < length chains' = subst (λ l. place < length l) same inside in
    let at = shown_at chains' orders' graphs' place chain order graph all shown inside' in
    let chain_is : chain ≡ get_or chains' place chain = is ∙ ap (λ l. get_or l place chain) same in
    let order_is : order ≡ get_or orders' place order = is' ∙ ap (λ l. get_or l place order) same' in
    let graph_is : graph ≡ get_or graphs' place graph = is'' ∙ ap (λ l. get_or l place graph) same'' in
    subst (λ c. IsShownIn (c, order) graph) (sym chain_is) (subst (λ o. IsShownIn (get_or chains' place chain, o) graph) (sym order_is)
    (subst (λ g. IsShownIn (get_or chains' place chain, get_or orders' place order) g) (sym graph_is) at))

pub as_many_graphs : (chains : List ChainPolicy) (orders : List Order) (graphs : List (Option StagedGraph)) → AllZip IsOrdered chains orders → AllZip IsShownIn (zip chains orders) graphs →
    length graphs ≡ length chains
as_many_graphs [] [] [] all shown = refl
as_many_graphs [] [] (z ∷ graphs) all shown = absurd shown
as_many_graphs [] (y ∷ orders) graphs all shown = absurd all
as_many_graphs (x ∷ chains) [] graphs all shown = absurd all
as_many_graphs (x ∷ chains) (y ∷ orders) [] all shown = absurd shown
as_many_graphs (x ∷ chains) (y ∷ orders) (z ∷ graphs) all shown = ap suc (as_many_graphs chains orders graphs all.1 shown.1)

pub few_ordered : (chain : ChainPolicy) (order : Order) → IsOrdered chain order → length order.positions ≤ 64
few_ordered chain order ordered =
    let all = length_permutation (range_with_len 0 (length chain.functions)) order.positions ordered.each_once in
    let few = ordered.few in
    omega (arith, all, few, length-range_with_len 0 (length chain.functions))
