-- A burst after which each branch settles its notes leaves the functions as packets that walk leave them.
use Rattle.std.proofs.Common.{◌≡◌, ◌∙◌, ℕ, List, ◌∷◌, [], length, map, sym, ap, refl, subst}
use Rattle.std.specs.Prelude.{Option}
use Rattle.chain_walk.specs.Counting.{quiet, IsQuiet}
use Rattle.chain_walk.specs.FieldWalk.{Ended, walk_fields}
use Rattle.chain_walk.specs.Laws.{KeepsProfile}
use Rattle.chain_walk.specs.Notes.{Notes, CountsByNotes}
use Rattle.chain_walk.specs.Shown.{Values}
use Rattle.chain_walk.specs.Step.{Behaviour}
use Rattle.chain_walk.specs.declared.fixed.Fixed.{Fixed}
use Rattle.graph_compile.specs.Facts.{IsLawful, IsFull}
use Rattle.graph_compile.specs.declared.graph.Graph.{Graph}
use Rattle.graph_law.specs.BranchNotes.{flow_notes, gone_before, kept_by, taken_by}
use Rattle.graph_law.specs.NotedWalk.{walk_notes, settled_all}
use Rattle.graph_law.proofs.Settling.{Fit, fit_same, fit_notes, quiet_settled}
use Rattle.graph_law.proofs.Walking.{length_walk, walk_keeps}
use Rattle.burst_law.specs.Stations.{one_by_one}
use Rattle.burst_law.specs.Owned.{owned_by}
use Rattle.burst_law.specs.Bursts.{Message, Message.Here, Message.Lost, ended, chain_turn, chain_burst}
use Rattle.burst_law.specs.Noting.{lost_before, graph_settled}
use Rattle.burst_law.proofs.Below.{Below}
use Rattle.burst_law.proofs.Bursting.{functions_once}
use Rattle.burst_law.proofs.NotedBranches.{graph_once, graph_split, graph_none}
use Rattle.burst_law.proofs.NotedPackets.{packet_is, graph_gone}

-- what the laws of graphs say about notes
pub record BelowNotes (F N : Type 0) : Type 0 where
  pub walk : (b : Behaviour F) (notes : Notes F N) (fixed : Fixed) (position : ℕ) (functions : List F) (values : Values) → CountsByNotes b notes →
      ◌≡◌ {A = Ended F} (walk_fields b fixed position functions values)
      (record { functions = settled_all notes (walk_fields (quiet b) fixed position functions values).functions (walk_notes (quiet b) notes fixed functions values); end = (walk_fields (quiet b) fixed position functions values).end })
  pub count : (b : Behaviour F) (notes : Notes F N) (fixed : Fixed) (functions : List F) (values : Values) → length (walk_notes b notes fixed functions values) ≡ length functions
  pub graph : (b : Behaviour F) (notes : Notes F N) (fixed : Fixed) (graph : Graph) (functions : List F) (values : Values) → KeepsProfile b → IsQuiet b → IsLawful graph (map b.profile functions) → IsFull graph →
      kept_by (gone_before (walk_fields b fixed 1 functions values).end) graph.stages (flow_notes b notes fixed graph.stages values functions) ≡ taken_by graph.stages (walk_notes b notes fixed functions values)
  pub keeps : (b : Behaviour F) → KeepsProfile b → KeepsProfile (quiet b)
  pub still : (b : Behaviour F) → IsQuiet (quiet b)

-- one packet
message_settles : {F N : Type 0} (b : Behaviour F) (notes : Notes F N) (graph : Graph) (fs : List F) (m : Message) → Below F → BelowNotes F N → KeepsProfile b → CountsByNotes b notes → IsLawful graph (map b.profile fs) → IsFull graph →
    graph_once (quiet b) notes (lost_before (chain_turn b 1 fs m).gives) graph.stages (owned_by graph.stages fs) m ≡ owned_by graph.stages (chain_turn b 1 fs m).state
message_settles {F} {N} b notes graph fs (Here fixed values) below more law by_notes lawful full =
    ap (λ t. graph_once (quiet b) notes (lost_before (ended fixed t.end)) graph.stages (owned_by graph.stages fs) (Here fixed values)) walk
    ∙ packet_is (quiet b) notes fixed graph.stages values fs w (walk_notes (quiet b) notes fixed fs values) below (functions_once (quiet b) graph fs lawful)
    (below.chain (quiet b) fixed graph fs values quiet_law (more.still b) lawful full)
    (length_walk (quiet b) fixed 1 fs values) (more.count (quiet b) notes fixed fs values)
    (more.graph (quiet b) notes fixed graph fs values quiet_law (more.still b) lawful full)
    ∙ ap (λ t. owned_by graph.stages t.functions) (sym walk)
  where
    w : Ended F
    w = walk_fields (quiet b) fixed 1 fs values

    quiet_law : KeepsProfile (quiet b)
    quiet_law = more.keeps b law

    walk : walk_fields b fixed 1 fs values ≡ record { functions = settled_all notes w.functions (walk_notes (quiet b) notes fixed fs values); end = w.end }
    walk = more.walk b notes fixed 1 fs values by_notes
message_settles b notes graph fs (Lost p) below more law by_notes lawful full = graph_gone (quiet b) notes (lost_before (Lost p)) graph.stages (owned_by graph.stages fs) p

walk_profiles : {F : Type 0} (b : Behaviour F) (fs : List F) (m : Message) → KeepsProfile b → map b.profile (chain_turn b 1 fs m).state ≡ map b.profile fs
walk_profiles b fs (Here fixed values) law = walk_keeps b fixed 1 fs values law
walk_profiles b fs (Lost p) law = refl

-- all packets
pub burst_settles : {F N : Type 0} (b : Behaviour F) (notes : Notes F N) (graph : Graph) (fs : List F) (ms : List Message) → Below F → BelowNotes F N → KeepsProfile b → CountsByNotes b notes → IsLawful graph (map b.profile fs) → IsFull graph →
    graph_settled (quiet b) notes (chain_burst b fs ms).gives graph.stages (owned_by graph.stages fs) ms ≡ owned_by graph.stages (chain_burst b fs ms).state
unfolding one_by_one
burst_settles b notes graph fs [] below more law by_notes lawful full = graph_none (quiet b) notes graph.stages (owned_by graph.stages fs)
burst_settles {F} b notes graph fs (m ∷ ms) below more law by_notes lawful full =
    graph_split b notes (chain_turn b 1 fs m).gives (chain_burst b next ms).gives graph.stages (owned_by graph.stages fs) m ms (more.keeps b law) by_notes
    ∙ ap (λ own. graph_settled (quiet b) notes (chain_burst b next ms).gives graph.stages own ms) (message_settles b notes graph fs m below more law by_notes lawful full)
    ∙ burst_settles b notes graph next ms below more law by_notes (subst (IsLawful graph) (sym (walk_profiles b fs m law)) lawful) full
  where
    next : List F
    next = (chain_turn b 1 fs m).state

-- without counting, packets end the same whatever was settled
ends_after : {F N : Type 0} (b : Behaviour F) (notes : Notes F N) (fs : List F) (made : List (Option N)) (ms : List Message) → KeepsProfile (quiet b) → CountsByNotes b notes → Fit b fs made →
    (chain_burst (quiet b) (settled_all notes fs made) ms).gives ≡ (chain_burst (quiet b) fs ms).gives
unfolding one_by_one
ends_after b notes fs made [] law by_notes fit = refl
ends_after {F} b notes fs made (Here fixed values ∷ ms) law by_notes fit =
    let w : Ended F = walk_fields (quiet b) fixed 1 fs values in
    ap (λ t. ended fixed t.end ∷ (chain_burst (quiet b) t.functions ms).gives) (quiet_settled b notes fixed 1 fs made values by_notes fit)
    ∙ ap (λ l. ended fixed w.end ∷ l) (ends_after b notes w.functions made ms law by_notes (fit_same b fs w.functions made (walk_keeps (quiet b) fixed 1 fs values law) fit))
ends_after b notes fs made (Lost p ∷ ms) law by_notes fit = ap (λ l. Lost p ∷ l) (ends_after b notes fs made ms law by_notes fit)

-- and so do packets that are counted
pub ends_same : {F N : Type 0} (b : Behaviour F) (notes : Notes F N) (fs : List F) (ms : List Message) → BelowNotes F N → KeepsProfile b → CountsByNotes b notes →
    (chain_burst b fs ms).gives ≡ (chain_burst (quiet b) fs ms).gives
unfolding one_by_one
ends_same b notes fs [] more law by_notes = refl
ends_same {F} {N} b notes fs (Here fixed values ∷ ms) more law by_notes =
    let w : Ended F = walk_fields (quiet b) fixed 1 fs values in
    let made : List (Option N) = walk_notes (quiet b) notes fixed fs values in
    ap (λ t. ended fixed t.end ∷ (chain_burst b t.functions ms).gives) (more.walk b notes fixed 1 fs values by_notes)
    ∙ ap (λ l. ended fixed w.end ∷ l) (ends_same b notes (settled_all notes w.functions made) ms more law by_notes
    ∙ ends_after b notes w.functions made ms (more.keeps b law) by_notes (fit_same b fs w.functions made (walk_keeps (quiet b) fixed 1 fs values (more.keeps b law)) (fit_notes b notes fixed fs values)))
ends_same b notes fs (Lost p ∷ ms) more law by_notes = ap (λ l. Lost p ∷ l) (ends_same b notes fs ms more law by_notes)
