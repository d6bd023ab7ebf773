-- What one packet leaves: in the chain that takes it, and in each other.
use Rattle.std.proofs.Common.{◌≡◌, ◌∙◌, ◌==◌, ℕ, Bool, true, false, true≢false, cond, List, [], ◌∷◌, length, map, filter, zip, Option, Some, None, ap, refl, sym, length-set, get_or-set_other, eqb-true}
use Rattle.std.proofs.lemmas.Bool.{eqb-false}
use Rattle.std.specs.Option.{option_map_or}
use Rattle.chain_walk.specs.Packets.{Packet}
use Rattle.chain_walk.specs.Step.{Behaviour}
use Rattle.piece_walk.specs.Pieces.{Piece, long}
use Rattle.chain_walk.specs.declared.walk.Fate.{Fate}
use Rattle.service_walk.proofs.Nowhere.{put_went}
use Rattle.service_walk.specs.Service.{Classed, Served, at_chain, went_in, served, is_of, packets_in, fates_in}

-- it is the first of the chain's packets, or none of them
pub packets_taken : (chain : ℕ) (x : Classed) (xs : List Classed) → is_of chain x ≡ true → packets_in chain (x ∷ xs) ≡ x.packet ∷ packets_in chain xs
packets_taken chain x xs e = ap (λ (taken : Bool). map (λ (y : Classed). y.packet) (cond taken (x ∷ filter (is_of chain) xs) (filter (is_of chain) xs))) e

pub packets_passed : (chain : ℕ) (x : Classed) (xs : List Classed) → is_of chain x ≡ false → packets_in chain (x ∷ xs) ≡ packets_in chain xs
packets_passed chain x xs e = ap (λ (taken : Bool). map (λ (y : Classed). y.packet) (cond taken (x ∷ filter (is_of chain) xs) (filter (is_of chain) xs))) e

-- and so is its fate
abbrev fates_by : ℕ → Classed → List Classed → Fate → List Fate → Bool → List Fate
fates_by chain x xs fate fates taken = map (λ (y : Classed × Fate). y.1) (cond taken ((x, fate) ∷ filter (λ (y : Classed × Fate). is_of chain y.0) (zip xs fates)) (filter (λ (y : Classed × Fate). is_of chain y.0) (zip xs fates)))

pub fates_taken : (chain : ℕ) (x : Classed) (xs : List Classed) (fate : Fate) (fates : List Fate) → is_of chain x ≡ true → fates_in chain (x ∷ xs) (fate ∷ fates) ≡ fate ∷ fates_in chain xs fates
fates_taken chain x xs fate fates e = ap (fates_by chain x xs fate fates) e

pub fates_passed : (chain : ℕ) (x : Classed) (xs : List Classed) (fate : Fate) (fates : List Fate) → is_of chain x ≡ false → fates_in chain (x ∷ xs) (fate ∷ fates) ≡ fates_in chain xs fates
fates_passed chain x xs fate fates e = ap (fates_by chain x xs fate fates) e

module _ {F : Type 0} (b : Behaviour F) (chains : List (List (Piece F))) where
  -- there are as many chains
  pub length_served : (class : Option ℕ) (p : Packet) → length (served b chains class p).chains ≡ length chains
  length_served None p = refl
  length_served (Some chain) p = simp length-set

  -- it walked through the chain that takes it
  pub served_taken : (chain : ℕ) (class : Option ℕ) (p : Packet) → option_map_or (λ c. c == chain) class false ≡ true → served b chains class p ≡ went_in chains chain (long b p.time 1 (at_chain chains chain) p.frame)
  served_taken chain None p e = absurd (true≢false (sym e))
  served_taken chain (Some c) p e = ap (λ (taken : ℕ). served b chains (Some taken) p) (eqb-true c chain e)

  pub fate_taken : (chain : ℕ) (x : Classed) → is_of chain x ≡ true → (served b chains x.class x.packet).fate ≡ (long b x.packet.time 1 (at_chain chains chain) x.packet.frame).fate
  fate_taken chain x e = ap (λ (s : Served F). s.fate) (served_taken chain x.class x.packet e)

  pub pieces_taken : (chain : ℕ) (x : Classed) → is_of chain x ≡ true → at_chain (served b chains x.class x.packet).chains chain ≡ (long b x.packet.time 1 (at_chain chains chain) x.packet.frame).pieces
  pieces_taken chain x e = ap (λ (s : Served F). at_chain s.chains chain) (served_taken chain x.class x.packet e) ∙ put_went b chains chain x.packet

  -- and no other
  functions_by : (chain : ℕ) (class : Option ℕ) (p : Packet) → option_map_or (λ c. c == chain) class false ≡ false → at_chain (served b chains class p).chains chain ≡ at_chain chains chain
  functions_by chain None p e = refl
  functions_by chain (Some c) p e = get_or-set_other chains c chain (long b p.time 1 (at_chain chains c) p.frame).pieces [] (λ same. eqb-false c chain e (sym same))

  pub pieces_passed : (chain : ℕ) (x : Classed) → is_of chain x ≡ false → at_chain (served b chains x.class x.packet).chains chain ≡ at_chain chains chain
  pieces_passed chain x e = functions_by chain x.class x.packet e
