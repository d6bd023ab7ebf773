-- Packets in a row go through chains as one after another.
use Rattle.std.proofs.Common.{◌≡◌, ◌∙◌, ℕ, suc, List, [], ◌∷◌, ◌++◌, length, map, refl, ap}
use Rattle.std.specs.Prelude.{filter}
use Rattle.std.proofs.lemmas.List.{map-append, length-map}
use Rattle.std.proofs.lemmas.List.Elements.{filter-append}
use Rattle.capture_bytes.specs.declared.packet.Unit.{Unit as TimeUnit}
use Rattle.capture_bytes.specs.declared.packet.PcapRecord.{PcapRecord}
use Rattle.policy_text.specs.declared.policy.ChainPolicy.{ChainPolicy}
use Rattle.chain_walk.specs.Step.{Behaviour}
use Rattle.chain_walk.specs.Packets.{Packet}
use Rattle.piece_walk.specs.PiecePackets.{pieces_after}
use Rattle.piece_walk.specs.Pieces.{Piece, long}
use Rattle.service_walk.specs.Service.{Classed, chains_after, fates_among, is_of, packets_in, served}
use Rattle.capture_report.specs.ChainService.{Chains, named_behaviour}
use Rattle.capture_report.specs.BurstWalk.{all_classed, chains_behind, classed, fates_of}

-- more packets go through the pieces in the state in which those before them left them
pub pieces_more : {F : Type 0} (b : Behaviour F) (pieces : List (Piece F)) (xs ys : List Packet) → pieces_after b pieces (xs ++ ys) ≡ pieces_after b (pieces_after b pieces xs) ys
unfolding pieces_after
pieces_more b pieces [] ys = refl
pieces_more b pieces (x ∷ xs) ys = pieces_more b (long b x.time 1 pieces x.frame).pieces xs ys

-- the same among several chains
among_more : {F : Type 0} (b : Behaviour F) (chains : List (List (Piece F))) (xs ys : List Classed) →
    fates_among b chains (xs ++ ys) ≡ fates_among b chains xs ++ fates_among b (chains_after b chains xs) ys
unfolding fates_among chains_after
among_more b chains [] ys = refl
among_more b chains (x ∷ xs) ys = ap (λ l. (served b chains x.class x.packet).fate ∷ l) (among_more b (served b chains x.class x.packet).chains xs ys)

chains_more : {F : Type 0} (b : Behaviour F) (chains : List (List (Piece F))) (xs ys : List Classed) → chains_after b chains (xs ++ ys) ≡ chains_after b (chains_after b chains xs) ys
unfolding chains_after
chains_more b chains [] ys = refl
chains_more b chains (x ∷ xs) ys = chains_more b (served b chains x.class x.packet).chains xs ys

as_many_among : {F : Type 0} (b : Behaviour F) (chains : List (List (Piece F))) (xs : List Classed) → length (fates_among b chains xs) ≡ length xs
unfolding fates_among
as_many_among b chains [] = refl
as_many_among b chains (x ∷ xs) = ap suc (as_many_among b (served b chains x.class x.packet).chains xs)

pub packets-append : (chain : ℕ) (xs ys : List Classed) → packets_in chain (xs ++ ys) ≡ packets_in chain xs ++ packets_in chain ys
packets-append chain xs ys = ap (map (λ (x : Classed). x.packet)) (filter-append (is_of chain) xs ys) ∙ map-append (λ (x : Classed). x.packet) (filter (is_of chain) xs) (filter (is_of chain) ys)

-- the same for records
pub classed-append : (chains : List ChainPolicy) (unit : TimeUnit) (xs ys : List PcapRecord) → all_classed chains unit (xs ++ ys) ≡ all_classed chains unit xs ++ all_classed chains unit ys
classed-append chains unit xs ys = map-append (classed chains unit) xs ys

pub fates_of-append : (chains : Chains) (unit : TimeUnit) (xs ys : List PcapRecord) → fates_of chains unit (xs ++ ys) ≡ fates_of chains unit xs ++ fates_of (chains_behind chains unit xs) unit ys
unfolding fates_of chains_behind
fates_of-append chains unit xs ys =
    ap (fates_among named_behaviour chains.pieces) (classed-append chains.declared unit xs ys) ∙ among_more named_behaviour chains.pieces (all_classed chains.declared unit xs) (all_classed chains.declared unit ys)

pub chains_behind-append : (chains : Chains) (unit : TimeUnit) (xs ys : List PcapRecord) → chains_behind chains unit (xs ++ ys) ≡ chains_behind (chains_behind chains unit xs) unit ys
unfolding chains_behind
chains_behind-append chains unit xs ys =
    ap (λ l. record chains { pieces = l })
    (ap (chains_after named_behaviour chains.pieces) (classed-append chains.declared unit xs ys) ∙ chains_more named_behaviour chains.pieces (all_classed chains.declared unit xs) (all_classed chains.declared unit ys))

pub length-fates_of : (chains : Chains) (unit : TimeUnit) (xs : List PcapRecord) → length (fates_of chains unit xs) ≡ length xs
unfolding fates_of
length-fates_of chains unit xs = as_many_among named_behaviour chains.pieces (all_classed chains.declared unit xs) ∙ length-map xs (classed chains.declared unit)

pub no_fates : (chains : Chains) (unit : TimeUnit) → fates_of chains unit [] ≡ []
unfolding fates_of fates_among
no_fates chains unit = refl

pub none_behind : (chains : Chains) (unit : TimeUnit) → chains_behind chains unit [] ≡ chains
unfolding chains_behind chains_after
none_behind chains unit = refl

pub declared_behind : (chains : Chains) (unit : TimeUnit) (xs : List PcapRecord) → (chains_behind chains unit xs).declared ≡ chains.declared
unfolding chains_behind
declared_behind chains unit xs = refl
