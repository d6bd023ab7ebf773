-- If there is no chain there is no function, and a packet passes unchanged.
use Rattle.std.proofs.Common.{◌≡◌, ◌≤◌, ℕ, zero, suc, List, [], ◌∷◌, length, ap, refl, sym, arith, get_or, set}
use Rattle.std.proofs.lemmas.List.{get_or_past}
use Rattle.chain_walk.specs.Packets.{Packet}
use Rattle.chain_walk.specs.Step.{Behaviour}
use Rattle.piece_walk.specs.Pieces.{Piece, Went, long}
use Rattle.chain_walk.specs.declared.walk.Fate.TheVariants.{Out}
use Rattle.service_walk.specs.Service.{at_chain}

-- a row that is put at a place that doesn't exist is empty
put_anywhere : {A : Type 0} (rows : List (List A)) (place : ℕ) (row : List A) → (length rows ≤ place → row ≡ []) → get_or (set rows place row) place [] ≡ row
put_anywhere [] place row h = sym (h (omega arith))
put_anywhere (first ∷ rows) zero row h = refl
put_anywhere (first ∷ rows) (suc place) row h = put_anywhere rows place row (λ le. h (omega arith))

module _ {F : Type 0} (b : Behaviour F) (chains : List (List (Piece F))) (chain : ℕ) (p : Packet) where
  pub went_nowhere : length chains ≤ chain → ◌≡◌ {A = Went F} (long b p.time 1 (at_chain chains chain) p.frame) (record { pieces = []; fate = Out p.frame })
  unfolding long
  went_nowhere le = ap (λ (functions : List (Piece F)). long b p.time 1 functions p.frame) (get_or_past chains chain [] le)

  -- a chain is left as the walk leaves it, also if there is none
  pub put_went : at_chain (set chains chain (long b p.time 1 (at_chain chains chain) p.frame).pieces) chain ≡ (long b p.time 1 (at_chain chains chain) p.frame).pieces
  put_went = put_anywhere chains chain (long b p.time 1 (at_chain chains chain) p.frame).pieces (λ le. ap (λ (w : Went F). w.pieces) (went_nowhere le))
