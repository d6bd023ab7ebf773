-- What runs through one piece, stated for the items of a burst.
use Rattle.std.proofs.Common.{◌≡◌, ◌≢◌, ◌≤◌, ◌∙◌, ◌+◌, ℕ, Bool, true, false, List, [], ◌∷◌, length, map, ap, refl, sym, subst, arith}
use Rattle.std.specs.Prelude.{All, OnErr, Result, Ok, Err}
use Rattle.capture_bytes.specs.declared.packet.Unit.{Unit as TimeUnit}
use Rattle.classifier.specs.declared.burst.Item.{Item}
use Rattle.chain_walk.specs.Packets.{Packet, fates}
use Rattle.chain_walk.specs.Step.{Behaviour}
use Rattle.chain_walk.specs.Walk.{EndsWithin}
use Rattle.chain_walk.specs.declared.walk.Fate.{Fate}
use Rattle.packet_fields.specs.Frames.{packet}
use Rattle.nf_tunnel.specs.Tunnels.{decapsulated, encapsulated, enters}
use Rattle.nf_tunnel.specs.declared.decap.Decap.{Decap}
use Rattle.nf_tunnel.specs.declared.encap.Encap.{Encap}
use Rattle.graph_run.specs.Counting.{RaisesAll, RaisesUpTo, copies_made}
use Rattle.graph_run.specs.Packets.{packets_taken}
use Rattle.graph_run.specs.Running.{PlainRunning}
use Rattle.piece_walk.specs.Pieces.{Piece, Graph, Whole}
use Rattle.piece_walk.specs.Rejoining.{sealed_fates}
use Rattle.segment_run.specs.Counting.{copies_through}
use Rattle.segment_run.specs.Rewriting.{out_of, rewritten}
use Rattle.segment_run.specs.Segments.{GoesThrough, piece_of}
use Rattle.segment_run.specs.declared.ends.End.TheVariants.{Entry, Exit}
use Rattle.segment_run.specs.declared.piece.Piece.{Piece as RunningPiece}
use Rattle.segment_run.specs.declared.piece.Piece.TheVariants as running
use Rattle.segment_run.proofs.Alone.{few_within, graph_refused}
use Rattle.segment_run.proofs.Raising.{all_made}

-- the same items give the same fates
pub same_out : (by : List ℕ → List ℕ) (unit : TimeUnit) (chain : ℕ) (items items' : List Item) (ended : List Fate) → items ≡ items' →
    ended ≡ map (out_of by) (packets_taken unit chain items) → ended ≡ map (out_of by) (packets_taken unit chain items')
same_out by unit chain items items' ended same is = is ∙ ap (λ l. map (out_of by) (packets_taken unit chain l)) same

pub same_sealed : (unit : TimeUnit) (chain : ℕ) (items items' : List Item) (ended all : List Fate) → items ≡ items' →
    all ≡ sealed_fates (packets_taken unit chain items) ended → all ≡ sealed_fates (packets_taken unit chain items') ended
same_sealed unit chain items items' ended all same is = is ∙ ap (λ l. sealed_fates (packets_taken unit chain l) ended) same

-- a function that rewrites frames whole is one function
pub whole_within : {F : Type 0} (b : Behaviour F) (packets : List Packet) (by : List ℕ → List ℕ) (old new : List ℕ) (after : List (Piece F)) (ended : List Fate) →
    GoesThrough b (Whole by ∷ []) packets old new after ended → All (EndsWithin 64) ended
whole_within {F = F} b packets by old new after ended goes = few_within {F = F} (Whole by) ended (omega arith) goes.within

module _ {F : Type 0} (b : Behaviour F) (packets : List Packet) (piece : RunningPiece F) (old : List ℕ) (ended : List Fate) where
  -- the end of a tunnel is that piece
  pub entry_goes : (tunnel : Encap) → piece ≡ running.Encap tunnel → GoesThrough b (Whole (rewritten (Entry tunnel)) ∷ []) packets old old (Whole (rewritten (Entry tunnel)) ∷ []) ended →
      GoesThrough b (piece_of piece ∷ []) packets old old (Whole (encapsulated tunnel) ∷ []) ended
  entry_goes tunnel is goes = subst (λ p. GoesThrough b (piece_of p ∷ []) packets old old (Whole (encapsulated tunnel) ∷ []) ended) (sym is) goes

  pub exit_goes : (tunnel : Decap) → piece ≡ running.Decap tunnel → GoesThrough b (Whole (rewritten (Exit tunnel)) ∷ []) packets old old (Whole (rewritten (Exit tunnel)) ∷ []) ended →
      GoesThrough b (piece_of piece ∷ []) packets old old (Whole (decapsulated tunnel) ∷ []) ended
  exit_goes tunnel is goes = subst (λ p. GoesThrough b (piece_of p ∷ []) packets old old (Whole (decapsulated tunnel) ∷ []) ended) (sym is) goes

-- what holds whatever a result is, holds for a refusal
pub on_any_err : {T E P : Type 0} (r : Result T E) → P → OnErr r P
on_any_err (Ok _) p = tt
on_any_err (Err _) p = p

no_more : (n : ℕ) → n ≤ n
no_more n = omega arith

-- copies that a graph made are at most those
pub graph_made : {F : Type 0} (b : Behaviour F) (packets : List Packet) (run : PlainRunning F) (old new : List ℕ) → RaisesAll (copies_made run.graph.stages packets (fates b run.functions packets)) old new →
    RaisesUpTo (copies_through b (Graph run.graph.stages run.functions ∷ []) packets) old new
graph_made b packets run old new made =
    let by = copies_made run.graph.stages packets (fates b run.functions packets) in
    graph_refused b packets run old new (all_made by by old new (λ f. no_more (by f)) made)

-- a frame that enters a tunnel gets 20 bytes longer, and any other stays
entry_by : (tunnel : Encap) (frame : List ℕ) (goes : Bool) → enters (packet frame) ≡ goes → (enters (packet frame) ≡ true → encapsulated tunnel frame ≢ frame) →
    (encapsulated tunnel frame ≢ frame → length (encapsulated tunnel frame) ≡ length frame + 20) → length (encapsulated tunnel frame) ≤ length frame + 20
entry_by tunnel frame true is changes longer = let more = longer (changes is) in omega (arith, more)
entry_by tunnel frame false is changes longer =
    let same : length (encapsulated tunnel frame) ≡ length frame = rw is refl in omega (arith, same)

pub entry_adds : (tunnel : Encap) (frame : List ℕ) → (enters (packet frame) ≡ true → encapsulated tunnel frame ≢ frame) →
    (encapsulated tunnel frame ≢ frame → length (encapsulated tunnel frame) ≡ length frame + 20) → length (encapsulated tunnel frame) ≤ length frame + 20
entry_adds tunnel frame changes longer = entry_by tunnel frame (enters (packet frame)) refl changes longer
