-- For proofs: a service, and its state before its first packet.
use Rattle.std.specs.Prelude.{◌≡◌, List, map, All}
use Rattle.packet_fields.specs.declared.field.Field.{Field}
use Rattle.policy_text.specs.declared.clause.Match.{Match}
use Rattle.packet_version.specs.Tallies.{count_of}
use Rattle.piece_walk.specs.Pieces.{Piece}
use Rattle.segment_run.specs.Segments.{pieces_of}
use Rattle.policy_chains.specs.Services.{Chains}
use Rattle.policy_chains.specs.declared.named.NamedFunction.{NamedFunction}
use Rattle.chain_service.specs.declared.service.Service.{Service}
use Rattle.chain_service.specs.declared.service.ServiceChain.{ServiceChain}

-- the pieces of a chain, in the state in which the last packet left them
abbrev pub pieces_in : ServiceChain → List (Piece NamedFunction)
pieces_in chain = pieces_of chain.pieces

-- the chains of a service and their pieces, in the state in which the last packet left them
abbrev pub chains_of : List ServiceChain → Chains
chains_of chains = record { declared = map (λ c. c.declared) chains; names = map (λ c. c.names) chains; pieces = map pieces_in chains }

-- the clauses of each chain
abbrev pub fits_of : List ServiceChain → List Match
fits_of chains = map (λ c. c.declared.fit) chains

-- No copy of a chain's packets was made yet.
pub record IsOpeningChain (chain : ServiceChain) : Type 0 where
  pub none_copied : (f : Field) → count_of chain.copies f ≡ 0

-- Each chain is in this state, and packets are classified by the chains' own clauses.
pub record IsOpening (service : Service) : Type 0 where
  pub chains : All IsOpeningChain service.chains
  pub classes : service.classes ≡ fits_of service.chains
