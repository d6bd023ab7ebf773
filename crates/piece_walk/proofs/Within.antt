-- A function that is named as the one that dropped a packet is in the chain.
use Rattle.std.proofs.Common.{◌+◌, ℕ, List, [], ◌∷◌, length, sym, subst, arith}
use Rattle.std.specs.Prelude.{All, sum_by}
use Rattle.std.proofs.lemmas.List.Elements.{All-cons, All-nil}
use Rattle.std.proofs.lemmas.List.Sums.{sum_by-cons}
use Rattle.packet_fields.specs.Checksums.{sealed}
use Rattle.chain_walk.specs.Step.{Behaviour}
use Rattle.chain_walk.specs.Walk.{walk, EndsWithin}
use Rattle.chain_walk.specs.Packets.{Packet}
use Rattle.chain_walk.specs.declared.walk.Fate.{Fate}
use Rattle.chain_walk.specs.declared.walk.Fate.TheVariants.{Out, Gone}
use Rattle.chain_walk.proofs.PacketsInRow.{ends_within}
use Rattle.piece_walk.specs.Pieces.{Piece, Graph, Whole, Went, long, went_on, count_of}
use Rattle.piece_walk.specs.PiecePackets.{long_fates}
use Rattle.piece_walk.specs.Rejoining.{moved}
use Rattle.piece_walk.proofs.Moving.{long_behind}
use Rattle.piece_walk.proofs.Keeping.{way_keeps_count}

moved_within : (n m : ℕ) (fate : Fate) → EndsWithin m fate → EndsWithin (n + m) (moved n fate)
moved_within n m (Out frame) h = tt
moved_within n m (Gone position) h = (let low = h.0 in omega arith, let high = h.1 in omega arith)

on_within : {F : Type 0} (n m : ℕ) (piece : Piece F) (later : List (Piece F)) (on : List ℕ → Went F) (fate : Fate) → EndsWithin n fate → ((frame : List ℕ) → EndsWithin (n + m) (on frame).fate) → EndsWithin (n + m) (went_on piece later on fate).fate
on_within n m piece later on (Out frame) h rest = rest frame
on_within n m piece later on (Gone position) h rest = (h.0, let high = h.1 in omega arith)

module _ {F : Type 0} (b : Behaviour F) where
  way_within : (time : ℕ) (pieces : List (Piece F)) (frame : List ℕ) → EndsWithin (sum_by count_of pieces) (long b time 1 pieces frame).fate
  unfolding long
  way_within time [] frame = tt
  way_within time (Graph stages functions ∷ later) frame =
      subst (λ n. EndsWithin n (long b time 1 (Graph stages functions ∷ later) frame).fate) (sym (sum_by-cons count_of (Graph stages functions) later))
      (on_within (length functions) (sum_by count_of later) (Graph stages (walk b time 1 functions frame).functions) later (λ left. long b time (1 + length functions) later (sealed frame left)) (walk b time 1 functions frame).fate
      (ends_within b time functions frame)
      (λ left. subst (λ (w : Went F). EndsWithin (length functions + sum_by count_of later) w.fate) (sym (long_behind b time (length functions) later (sealed frame left)))
      (moved_within (length functions) (sum_by count_of later) (long b time 1 later (sealed frame left)).fate (way_within time later (sealed frame left)))))
  way_within time (Whole rewritten ∷ later) frame =
      subst (λ n. EndsWithin n (long b time 1 (Whole rewritten ∷ later) frame).fate) (sym (sum_by-cons count_of (Whole rewritten) later))
      (subst (λ (w : Went F). EndsWithin (1 + sum_by count_of later) w.fate) (sym (long_behind b time 1 later (rewritten frame)))
      (moved_within 1 (sum_by count_of later) (long b time 1 later (rewritten frame)).fate (way_within time later (rewritten frame))))

  pub all_within : (pieces : List (Piece F)) (ps : List Packet) → All (EndsWithin (sum_by count_of pieces)) (long_fates b pieces ps)
  unfolding long_fates
  all_within pieces [] = All-nil (EndsWithin (sum_by count_of pieces))
  all_within pieces (p ∷ ps) =
      All-cons (EndsWithin (sum_by count_of pieces)) (long b p.time 1 pieces p.frame).fate (long_fates b (long b p.time 1 pieces p.frame).pieces ps) (way_within p.time pieces p.frame)
      (subst (λ n. All (EndsWithin n) (long_fates b (long b p.time 1 pieces p.frame).pieces ps)) (way_keeps_count b p.time 1 pieces p.frame) (all_within (long b p.time 1 pieces p.frame).pieces ps))
