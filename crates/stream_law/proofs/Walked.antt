-- A burst that is ready goes through the nodes of a graph as packets that walk through the chain one after another.
use Rattle.std.proofs.Common.{◌≡◌, ◌∙◌, List, length, map, ap, arith}
use Rattle.packet_fields.specs.declared.field.Field.{Field}
use Rattle.chain_walk.specs.Counting.{IsQuiet}
use Rattle.chain_walk.specs.Laws.{KeepsProfile}
use Rattle.chain_walk.specs.Notes.{Notes}
use Rattle.chain_walk.specs.Step.{Behaviour}
use Rattle.graph_compile.specs.Facts.{IsLawful, IsFull}
use Rattle.graph_compile.specs.declared.graph.Graph.{Graph}
use Rattle.merge_ops.specs.declared.merging.Merged.{Merged}
use Rattle.burst_law.specs.Stations.{Turn}
use Rattle.burst_law.specs.Owned.{owned_by}
use Rattle.burst_law.specs.Bursts.{Message, graph_burst, chain_burst}
use Rattle.burst_law.specs.Copies.{graph_copies, chain_copies}
use Rattle.stream_law.specs.Rests.{KeepsRests}
use Rattle.stream_law.specs.Messages.{as_message}
use Rattle.stage_nodes.specs.Flows.{MayPassAll}
use Rattle.stage_nodes.specs.Streams.{of_merged, as_merged, through, ends_of, copies_along}
use Rattle.stream_law.specs.Listed.{graph_listed}
use Rattle.stream_law.specs.Owned.{owned_kit, owned_may}
use Rattle.stream_law.specs.Ready.{IsReadyBurst}
use Rattle.stream_law.specs.Works.{works_of}
use Rattle.stream_law.proofs.Begun.{LawfulIsStaged, Rising, OwnsAsMany, OwnsEach, graph_ready}
use Rattle.stream_law.proofs.Cited.{AreLaws}
use Rattle.stream_law.proofs.Through.{HasGone, all_gone, rests_first}

-- the laws of a burst through a graph, as they are cited
abbrev pub IsChain : Type 0 → Type 0
IsChain F = (b : Behaviour F) (graph : Graph) (functions : List F) (packets : List Message) → KeepsProfile b → IsQuiet b → IsLawful graph (map b.profile functions) → IsFull graph →
    ◌≡◌ {A = Turn (List (List (List F))) (List Message)} (graph_burst b graph.stages (owned_by graph.stages functions) packets) (record { state = owned_by graph.stages (chain_burst b functions packets).state; gives = (chain_burst b functions packets).gives })

abbrev pub CopiesAreSame : Type 0 → Type 0
CopiesAreSame F = (b : Behaviour F) (graph : Graph) (f : Field) (functions : List F) (packets : List Message) → KeepsProfile b → IsQuiet b → IsLawful graph (map b.profile functions) → IsFull graph →
    graph_copies b graph.stages f (owned_by graph.stages functions) packets ≡ chain_copies b graph.stages f functions packets

-- the laws of graphs, together
pub record AreGraphLaws (F : Type 0) : Type 0 where
  pub staged : LawfulIsStaged
  pub rising : Rising
  pub many : OwnsAsMany F
  pub each : OwnsEach F
  pub chain : IsChain F
  pub copies : CopiesAreSame F

gone : {F N : Type 0} (b : Behaviour F) (notes : Notes F N) (graph : Graph) (functions : List F) (packets : List Merged) → AreLaws b → AreGraphLaws F → IsReadyBurst b graph functions packets →
    HasGone b notes graph.stages (owned_by graph.stages functions) (length packets) packets (map of_merged packets) (map as_message packets)
gone b notes graph functions packets laws graphs ready =
    all_gone b notes (map b.profile functions) 1 graph.stages (owned_by graph.stages functions) (length packets) packets packets laws
    (graph_ready b graph functions graphs.staged graphs.rising graphs.many graphs.each ready.running) ready.enter ready.fits (omega arith) (rests_first (map b.profile functions) 1 packets ready.enter)

-- What is known about the burst.
pub record HasWalked {F N : Type 0} (b : Behaviour F) (notes : Notes F N) (graph : Graph) (functions : List F) (packets : List Merged) : Type 0 where
  pub may : MayPassAll (owned_kit b notes) (owned_may b) (works_of b graph.stages (owned_by graph.stages functions) (length packets)) (map of_merged packets)
  pub functions_are : map (λ l. map (λ o. o.functions) l) (ends_of (owned_kit b notes) (works_of b graph.stages (owned_by graph.stages functions) (length packets)) (map of_merged packets)) ≡ owned_by graph.stages (chain_burst b functions (map as_message packets)).state
  pub positions_are : map (λ l. map (λ o. o.positions) l) (ends_of (owned_kit b notes) (works_of b graph.stages (owned_by graph.stages functions) (length packets)) (map of_merged packets)) ≡ map (λ s. map (λ x. x.positions) s.branches) graph.stages
  pub listed_are : map (λ l. map (λ o. o.listed) l) (ends_of (owned_kit b notes) (works_of b graph.stages (owned_by graph.stages functions) (length packets)) (map of_merged packets)) ≡ graph_listed b notes graph.stages (owned_by graph.stages functions) (map as_message packets)
  pub packets_are : map as_message (map as_merged (through (owned_kit b notes) (works_of b graph.stages (owned_by graph.stages functions) (length packets)) (map of_merged packets))) ≡ (chain_burst b functions (map as_message packets)).gives
  pub rests : KeepsRests packets (map as_merged (through (owned_kit b notes) (works_of b graph.stages (owned_by graph.stages functions) (length packets)) (map of_merged packets)))
  pub counted : (f : Field) → copies_along (owned_kit b notes) (works_of b graph.stages (owned_by graph.stages functions) (length packets)) (map of_merged packets) f ≡ chain_copies b graph.stages f functions (map as_message packets)

pub walked : {F N : Type 0} (b : Behaviour F) (notes : Notes F N) (graph : Graph) (functions : List F) (packets : List Merged) → AreLaws b → AreGraphLaws F → IsReadyBurst b graph functions packets → HasWalked b notes graph functions packets
walked b notes graph functions packets laws graphs ready =
    let all = gone b notes graph functions packets laws graphs ready in
    let running = ready.running in
    let law = graphs.chain b graph functions (map as_message packets) laws.keeps laws.calm running.lawful running.full in
    record {
      may = all.may;
      functions_are = all.functions ∙ ap (λ t. t.state) law;
      positions_are = all.positions;
      listed_are = all.listed;
      packets_are = all.packets_are ∙ ap (λ t. t.gives) law;
      rests = all.rests;
      counted = λ f. all.counted f ∙ graphs.copies b graph f functions (map as_message packets) laws.keeps laws.calm running.lawful running.full;
    }
