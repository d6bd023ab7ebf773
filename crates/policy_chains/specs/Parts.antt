-- For proofs: the parts of a chain, and the pieces that they become.
use Rattle.std.specs.Prelude.{ℕ, List, map}
use Rattle.std.specs.List.{sum_by}
use Rattle.nf_tunnel.specs.Tunnels.{encapsulated, decapsulated}
use Rattle.piece_walk.specs.Pieces.{Piece, Whole, count_of}
use Rattle.policy_chains.specs.Services.{compiled}
use Rattle.policy_chains.specs.declared.named.NamedFunction.{NamedFunction}
use Rattle.policy_chains.specs.declared.part.ChainPart.{ChainPart}
use Rattle.policy_chains.specs.declared.part.ChainPart.TheVariants as parts

-- the piece of a part: functions in a row run in the graph that is compiled for them
abbrev pub part_of : ChainPart → Piece NamedFunction
part_of (parts.Functions functions) = compiled functions.items
part_of (parts.Encap tunnel) = Whole (encapsulated tunnel)
part_of (parts.Decap tunnel) = Whole (decapsulated tunnel)

abbrev pub parts_of : List ChainPart → List (Piece NamedFunction)
parts_of chain = map part_of chain

-- the number of functions of parts
abbrev pub parts_count : List ChainPart → ℕ
parts_count chain = sum_by count_of (parts_of chain)
