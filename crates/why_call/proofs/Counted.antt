-- Each packet of a capture has its way.
use Rattle.std.proofs.Common.{◌≡◌, ◌∙◌, List, [], ◌∷◌, length, refl, ap, suc}
use Rattle.capture_bytes.specs.declared.packet.PcapRecord.{PcapRecord}
use Rattle.capture_bytes.specs.declared.packet.Unit.{Unit as TimeUnit}
use Rattle.chain_walk.specs.Step.{Behaviour}
use Rattle.packet_function.specs.Deciding.{Deciding}
use Rattle.piece_walk.specs.Pieces.{Piece}
use Rattle.service_walk.specs.Service.{Classed, served}
use Rattle.plain_chains.specs.PacketWays.{ways_of}
use Rattle.policy_chains.specs.Fates.{all_classed}
use Rattle.policy_chains.specs.NamedFunctions.{named_behaviour, named_decides}
use Rattle.policy_chains.specs.Services.{Chains}
use Rattle.policy_text.specs.declared.policy.ChainPolicy.{ChainPolicy}
use Rattle.traced_walk.specs.Ways.{ways}

as_many_ways : {F : Type 0} (b : Behaviour F) (d : Deciding F) (chains : List (List (Piece F))) (xs : List Classed) → length (ways b d chains xs) ≡ length xs
unfolding ways
as_many_ways b d chains [] = refl
as_many_ways b d chains (x ∷ xs) = ap suc (as_many_ways b d (served b chains x.class x.packet).chains xs)

as_many_classed : (declared : List ChainPolicy) (unit : TimeUnit) (rs : List PcapRecord) → length (all_classed declared unit rs) ≡ length rs
as_many_classed declared unit [] = refl
as_many_classed declared unit (r ∷ rs) = ap suc (as_many_classed declared unit rs)

pub ways_count : (chains : Chains) (unit : TimeUnit) (rs : List PcapRecord) → length (ways_of chains unit rs) ≡ length rs
ways_count chains unit rs = as_many_ways named_behaviour named_decides chains.pieces (all_classed chains.declared unit rs) ∙ as_many_classed chains.declared unit rs
