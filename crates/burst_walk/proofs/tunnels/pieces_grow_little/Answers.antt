use Rattle.std.proofs.Common.{All, subst}
use Rattle.std.proofs.lemmas.List.{take_all}
use Rattle.std.proofs.lemmas.List.Elements.{All-map, All-more, All-nil}
use Rattle.piece_walk.specs.Kinds.{GrowsLittle}
use Rattle.chain_service.specs.SegmentRunProofs.{piece_of}
use Rattle.burst_walk.proofs.tunnels.pieces_grow_little.Goals as goal

pub pieces-init : goal.pieces-init
pieces-init c = All-nil (λ p. GrowsLittle (piece_of p))

pub pieces-preserved : goal.pieces-preserved
pieces-preserved c =
    All-more (λ p. GrowsLittle (piece_of p)) c.args.pieces.now c.pieces.piece-index c.piece-item.result c.pieces-test.true c.pieces.invariant (subst (λ p. GrowsLittle (piece_of p)) c.piece-item.is c.piece_grows_little.ensures)

pub returns : goal.returns
returns c = All-map GrowsLittle piece_of c.args.pieces.now (subst (All (λ p. GrowsLittle (piece_of p))) (take_all c.pieces.piece-index c.args.pieces.now c.pieces-test.false) c.pieces.invariant)
