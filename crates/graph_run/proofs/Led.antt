-- After all items of a burst have run, its packets are through.
use Rattle.std.proofs.Common.{◌≡◌, ◌∙◌, ◌≤◌, ℕ, List, length, take, ap, sym, subst}
use Rattle.std.specs.Prelude.{All}
use Rattle.std.proofs.lemmas.List.{take_all}
use Rattle.capture_bytes.specs.declared.packet.Unit.{Unit as TimeUnit}
use Rattle.chain_walk.specs.Laws.{KeepsProfile}
use Rattle.chain_walk.specs.Packets.{fates, functions_after}
use Rattle.chain_walk.specs.Step.{Behaviour}
use Rattle.chain_walk.specs.Walk.{walk, EndsWithin}
use Rattle.chain_walk.specs.declared.walk.Fate.{Fate}
use Rattle.classifier.specs.declared.burst.Item.{Item}
use Rattle.graph_compile.specs.declared.graph.Graph.{Graph}
use Rattle.graph_run.specs.Counting.{RaisesAll}
use Rattle.graph_run.specs.Leading.{Leads}
use Rattle.graph_run.specs.Packets.{packets_taken}
use Rattle.graph_run.specs.Running.{PlainRunning}
use Rattle.graph_run.proofs.Bursting.{HasRunItems, all_within, walked_copies}

pub led : {F : Type 0} (b : Behaviour F) (run : PlainRunning F) (graph : Graph) (unit : TimeUnit) (chain : ℕ) (items : List Item) (now : List F) (i : ℕ) (done : List Fate) (old new : List ℕ) → KeepsProfile b →
    ((b : Behaviour F) (time : ℕ) (functions : List F) (frame : List ℕ) → EndsWithin (length functions) (walk b time 1 functions frame).fate) →
    graph ≡ run.graph → length items ≤ i → HasRunItems b graph unit chain items run.functions now i done old new →
    Leads b run (packets_taken unit chain items) old new (record { functions = now; graph = graph }) done
led {F} b run graph unit chain items now i done old new keeps law same past ran =
    let all : take i items ≡ items = take_all i items past in
    let ended : done ≡ fates b run.functions (packets_taken unit chain items) = ran.fates_are ∙ ap (λ (l : List Item). fates b run.functions (packets_taken unit chain l)) all in
    record {
      fates = ended;
      functions = ran.functions ∙ ap (λ (l : List Item). functions_after b run.functions (packets_taken unit chain l)) all;
      graph = same;
      within = subst (All (EndsWithin (length run.functions))) (sym ended) (all_within b run.functions (packets_taken unit chain items) keeps law);
      counted = subst (λ (g : Graph). RaisesAll (walked_copies b g.stages run.functions (packets_taken unit chain items)) old new) same
          (subst (λ (l : List Item). RaisesAll (walked_copies b graph.stages run.functions (packets_taken unit chain l)) old new) all ran.counted);
    }
