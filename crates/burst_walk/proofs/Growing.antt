-- A frame that goes out of a chain is short enough for a record: it grows by at most twenty bytes for each function.
use Rattle.std.proofs.Common.{◌≤◌, ℕ, ◌+◌, ◌*◌, List, length, arith}
use Rattle.std.specs.Prelude.{All}
use Rattle.std.proofs.lemmas.List.Elements.{All-weaker}
use Rattle.chain_walk.specs.Laws.{KeepsProfile}
use Rattle.chain_walk.specs.Packets.{Packet}
use Rattle.chain_walk.specs.Step.{Behaviour}
use Rattle.chain_walk.specs.declared.walk.Fate.{Fate}
use Rattle.chain_walk.specs.declared.walk.Fate.TheVariants.{Out, Gone}
use Rattle.piece_walk.specs.Kinds.{GrowsLittle, IsNoLonger}
use Rattle.piece_walk.specs.PiecePackets.{long_fates}
use Rattle.piece_walk.specs.Pieces.{Piece}
use Rattle.chain_service.specs.SegmentRunProofs.{functions_count}
use Rattle.policy_chains.specs.NamedFunctions.{named_behaviour}
use Rattle.policy_chains.specs.NamedFunctionLaws.{named_keeps}
use Rattle.policy_chains.specs.declared.named.NamedFunction.{NamedFunction}
use Rattle.burst_walk.specs.Leading.{IsWritable}
use Rattle.burst_walk.proofs.Leading.{IsShortPacket}

-- What is known about how frames grow.
abbrev pub FramesGrowLittle : Type 0
FramesGrowLittle = (b : Behaviour NamedFunction) (pieces : List (Piece NamedFunction)) (ps : List Packet) (most : ℕ) → KeepsProfile b → All GrowsLittle pieces → All (λ p. length p.frame ≤ most) ps →
    All (IsNoLonger (most + 20 * functions_count pieces)) (long_fates b pieces ps)

writable_within : (most : ℕ) (fate : Fate) → most ≤ 263424 → IsNoLonger most fate → IsWritable fate
writable_within most (Out frame) few within = omega arith
writable_within most (Gone position) few within = tt

pub all_writable : (pieces : List (Piece NamedFunction)) (ps : List Packet) → FramesGrowLittle → All GrowsLittle pieces → functions_count pieces ≤ 64 → All IsShortPacket ps →
    All IsWritable (long_fates named_behaviour pieces ps)
all_writable pieces ps grow little few short =
    All-weaker (IsNoLonger (262144 + 20 * functions_count pieces)) IsWritable (λ fate within. writable_within (262144 + 20 * functions_count pieces) fate (omega arith) within) (long_fates named_behaviour pieces ps)
    (grow named_behaviour pieces ps 262144 named_keeps little short)
