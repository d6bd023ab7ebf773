use Rattle.std.proofs.Common.{◌≡◌, ◌++◌, take}
use Rattle.std.specs.List.{flat_map}
use Rattle.text_lines.specs.Pieces.{piece_text}
use Rattle.text_lines.proofs.pieces.push_pieces.Given as goal

-- the pieces so far
abbrev pub invariant-pieces : goal.invariant-pieces
invariant-pieces l = l.text.items ≡ l.fn.text.items ++ flat_map piece_text (take l.piece-index l.pieces)
