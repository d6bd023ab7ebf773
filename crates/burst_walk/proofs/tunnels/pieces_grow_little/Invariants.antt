use Rattle.std.proofs.Common.{All, take}
use Rattle.piece_walk.specs.Kinds.{GrowsLittle}
use Rattle.chain_service.specs.SegmentRunProofs.{piece_of}
use Rattle.burst_walk.proofs.tunnels.pieces_grow_little.Given as goal

abbrev pub invariant-pieces : goal.invariant-pieces
invariant-pieces l = All (λ p. GrowsLittle (piece_of p)) (take l.piece-index l.pieces)
