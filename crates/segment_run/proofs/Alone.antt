-- Packets that go through one piece, or through none.
use Rattle.std.proofs.Common.{◌≡◌, ◌≤◌, ◌∙◌, ℕ, List, [], ◌∷◌, map, ap, refl, sym, subst, arith}
use Rattle.std.specs.Prelude.{All, slice_index_or}
use Rattle.std.proofs.lemmas.List.Sums.{sum_by-cons}
use Rattle.packet_fields.specs.declared.field.Field.{Field}
use Rattle.packet_version.specs.Tallies.{count_of as tally_of, raised}
use Rattle.chain_walk.specs.Packets.{Packet, fates}
use Rattle.chain_walk.specs.Step.{Behaviour}
use Rattle.chain_walk.specs.Walk.{EndsWithin}
use Rattle.chain_walk.specs.declared.walk.Fate.{Fate}
use Rattle.chain_walk.specs.declared.walk.Fate.TheVariants.{Out, Gone}
use Rattle.piece_walk.specs.Pieces.{Piece, Graph, Whole, count_of}
use Rattle.piece_walk.specs.PiecePackets.{long_fates, handed_on}
use Rattle.piece_walk.specs.Rejoining.{sealed_fates}
use Rattle.piece_walk.proofs.OnePiece.{no_piece_after, no_piece_fates, one_piece_after, one_piece_fates, one_whole_fates}
use Rattle.piece_walk.proofs.PieceByPiece.{pieces_by_piece}
use Rattle.piece_walk.proofs.Within.{all_within}
use Rattle.graph_run.specs.Counting.{RaisesUpTo, copies_made}
use Rattle.graph_run.specs.Leading.{Leads}
use Rattle.graph_run.specs.Running.{PlainRunning}
use Rattle.segment_run.specs.Counting.{copies_through}
use Rattle.segment_run.specs.Rewriting.{out_of}
use Rattle.segment_run.specs.Segments.{GoesThrough, functions_count}
use Rattle.segment_run.proofs.CopiesInRow.{copies_of_one}
use Rattle.segment_run.proofs.Raising.{none_raised}

module _ {F : Type 0} (b : Behaviour F) (packets : List Packet) where
  -- fates that are those of the walk lie within the chain
  fates_within : (pieces : List (Piece F)) (ended : List Fate) → ended ≡ long_fates b pieces packets → All (EndsWithin (functions_count pieces)) ended
  fates_within pieces ended is = subst (All (EndsWithin (functions_count pieces))) (sym is) (all_within b pieces packets)

  whole_copies : (by : List ℕ → List ℕ) (f : Field) → copies_through b (Whole by ∷ []) packets f ≡ 0
  unfolding copies_through
  whole_copies by f = refl

  pub whole_goes : (by : List ℕ → List ℕ) (old : List ℕ) (ended : List Fate) → ended ≡ map (out_of by) packets → GoesThrough b (Whole by ∷ []) packets old old (Whole by ∷ []) ended
  whole_goes by old ended is =
      let all : ended ≡ long_fates b (Whole by ∷ []) packets = is ∙ sym (one_whole_fates b by packets) in
      record {
        fates = all;
        pieces_left = sym (pieces_by_piece b (Whole by) [] packets ∙ ap (λ l. Whole by ∷ l) (no_piece_after b (handed_on b (Whole by) packets)));
        within = fates_within (Whole by ∷ []) ended all;
        counted = none_raised (copies_through b (Whole by ∷ []) packets) old (whole_copies by);
      }

  no_copies : (f : Field) → copies_through b [] packets f ≡ 0
  unfolding copies_through
  no_copies f = refl

  pub none_goes : (old : List ℕ) (ended : List Fate) → ended ≡ map (out_of (λ frame. frame)) packets → GoesThrough b [] packets old old [] ended
  none_goes old ended is =
      let all : ended ≡ long_fates b [] packets = is ∙ sym (no_piece_fates b packets) in
      record { fates = all; pieces_left = sym (no_piece_after b packets); within = fates_within [] ended all; counted = none_raised (copies_through b [] packets) old no_copies }

  pub graph_goes : (run after : PlainRunning F) (old new : List ℕ) (ended all : List Fate) → Leads b run packets old new after ended → all ≡ sealed_fates packets ended →
      GoesThrough b (Graph run.graph.stages run.functions ∷ []) packets old new (Graph after.graph.stages after.functions ∷ []) all
  graph_goes run after old new ended all leads is =
      let chain = Graph run.graph.stages run.functions ∷ [] in
      let all_are : all ≡ long_fates b chain packets = is ∙ ap (sealed_fates packets) leads.fates ∙ sym (one_piece_fates b run.graph.stages run.functions packets) in
      record {
        fates = all_are;
        pieces_left = (λ i. Graph (leads.graph i).stages (leads.functions i) ∷ []) ∙ sym (one_piece_after b run.graph.stages run.functions packets);
        within = fates_within chain all all_are;
        counted = λ f. leads.counted f ∙ ap (raised (tally_of old f)) (sym (copies_of_one b run.graph.stages run.functions packets f));
      }

  pub graph_refused : (run : PlainRunning F) (old new : List ℕ) → RaisesUpTo (copies_made run.graph.stages packets (fates b run.functions packets)) old new → RaisesUpTo (copies_through b (Graph run.graph.stages run.functions ∷ []) packets) old new
  graph_refused run old new refused = λ f. subst (λ n. (tally_of old f ≤ tally_of new f) × (tally_of new f ≤ raised (tally_of old f) n)) (sym (copies_of_one b run.graph.stages run.functions packets f)) (refused f)

within_more : (n : ℕ) (fate : Fate) → n ≤ 64 → EndsWithin n fate → EndsWithin 64 fate
within_more n (Out frame) few h = tt
within_more n (Gone position) few h = (h.0, let high = h.1 in omega arith)

-- few functions are at most 64
pub few_within : {F : Type 0} (piece : Piece F) (ended : List Fate) → count_of piece ≤ 64 → All (EndsWithin (functions_count (piece ∷ []))) ended → All (EndsWithin 64) ended
few_within piece ended few all = λ k d inside. let sum = sum_by-cons count_of piece [] in within_more (functions_count (piece ∷ [])) (slice_index_or ended k d) (omega arith) (all k d inside)
