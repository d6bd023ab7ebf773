-- A packet goes through one part of a chain, and then through the later ones.
use Rattle.std.proofs.Common.{◌≡◌, ◌∙◌, ◌+◌, ℕ, List, [], ◌∷◌, ◌++◌, length, ap, refl, sym, subst}
use Rattle.std.proofs.lemmas.List.{append-nil}
use Rattle.packet_fields.specs.Checksums.{sealed}
use Rattle.graph_compile.specs.declared.graph.Stage.{Stage}
use Rattle.chain_walk.specs.Step.{Behaviour}
use Rattle.chain_walk.specs.declared.walk.Fate.{Fate}
use Rattle.chain_walk.specs.declared.walk.Fate.TheVariants.{Out, Gone}
use Rattle.packet_function.specs.Deciding.{Deciding}
use Rattle.piece_walk.specs.Pieces.{Piece, Graph, Whole, count_of}
use Rattle.piece_walk.specs.Rejoining.{sealed_by}
use Rattle.traced_walk.specs.Traced.{Act, LongTraced, long_traced, long_on, rewriting, traced, then_long}
use Rattle.plain_chains.specs.Leading.{alone}

-- the rest of a walk behind what was passed already
abbrev pub behind : {F : Type 0} → LongTraced F → LongTraced F → LongTraced F
behind one rest = record { pieces = one.pieces ++ rest.pieces; fate = rest.fate; acts = one.acts ++ rest.acts }

-- a walk that ends before these pieces
abbrev pub before : {F : Type 0} → LongTraced F → List (Piece F) → LongTraced F
before one later = record { pieces = one.pieces ++ later; fate = one.fate; acts = one.acts }

module _ {F : Type 0} (b : Behaviour F) (d : Deciding F) (time : ℕ) where
  abbrev sealed_on : ℕ → List (Piece F) → List ℕ → List ℕ → LongTraced F
  sealed_on position later frame left = long_traced b d time position later (sealed frame left)

  on_out : (piece : Piece F) (later : List (Piece F)) (acts : List Act) (position : ℕ) (frame : List ℕ) (fate : Fate) (out : List ℕ) →
      (long_on piece [] acts (sealed_on position [] frame) fate).fate ≡ Out out →
      long_on piece later acts (sealed_on position later frame) fate ≡ behind (long_on piece [] acts (sealed_on position [] frame) fate) (long_traced b d time position later out)
  unfolding long_traced
  on_out piece later acts position frame (Out left) out same =
      ap (λ frame. then_long piece acts (long_traced b d time position later frame)) (let at : sealed frame left ≡ out = cc same in at)
      ∙ ap (λ acts. behind (record { pieces = piece ∷ []; fate = Out out; acts = acts }) (long_traced b d time position later out)) (sym (append-nil acts))
  on_out piece later acts position frame (Gone place) out same = absurd (cc same)

  on_gone : (piece : Piece F) (later : List (Piece F)) (acts : List Act) (position : ℕ) (frame : List ℕ) (fate : Fate) (place : ℕ) →
      (long_on piece [] acts (sealed_on position [] frame) fate).fate ≡ Gone place →
      long_on piece later acts (sealed_on position later frame) fate ≡ before (long_on piece [] acts (sealed_on position [] frame) fate) later
  unfolding long_traced
  on_gone piece later acts position frame (Out left) place same = absurd (cc same)
  on_gone piece later acts position frame (Gone other) place same = refl

  pub goes_out : (position : ℕ) (piece : Piece F) (later : List (Piece F)) (frame out : List ℕ) → (alone b d time position piece frame).fate ≡ Out out →
      long_traced b d time position (piece ∷ later) frame ≡ behind (alone b d time position piece frame) (long_traced b d time (position + count_of piece) later out)
  unfolding long_traced
  goes_out position (Graph stages functions) later frame out same =
      on_out (Graph stages (traced b d time position functions frame).functions) later (traced b d time position functions frame).acts (position + length functions) frame
      (traced b d time position functions frame).fate out same
  goes_out position (Whole rewritten) later frame out same =
      ap (λ frame2. then_long (Whole rewritten) (rewriting rewritten frame ∷ []) (long_traced b d time (position + 1) later frame2)) (let at : rewritten frame ≡ out = cc same in at)

  pub stops : (position : ℕ) (piece : Piece F) (later : List (Piece F)) (frame : List ℕ) (place : ℕ) → (alone b d time position piece frame).fate ≡ Gone place →
      long_traced b d time position (piece ∷ later) frame ≡ before (alone b d time position piece frame) later
  unfolding long_traced
  stops position (Graph stages functions) later frame place same =
      on_gone (Graph stages (traced b d time position functions frame).functions) later (traced b d time position functions frame).acts (position + length functions) frame
      (traced b d time position functions frame).fate place same
  stops position (Whole rewritten) later frame place same = absurd (cc same)

  -- what goes out of one piece of functions in a row
  on_nothing : (piece : Piece F) (acts : List Act) (position : ℕ) (frame : List ℕ) (fate : Fate) →
      long_on piece [] acts (sealed_on position [] frame) fate ≡ record { pieces = piece ∷ []; fate = sealed_by frame fate; acts = acts }
  unfolding long_traced
  on_nothing piece acts position frame (Out left) = ap (λ acts. let t : LongTraced F = record { pieces = piece ∷ []; fate = Out (sealed frame left); acts = acts } in t) (append-nil acts)
  on_nothing piece acts position frame (Gone place) = refl

  pub through_functions : (position : ℕ) (stages : List Stage) (functions : List F) (frame : List ℕ) → ◌≡◌ {A = LongTraced F} (alone b d time position (Graph stages functions) frame)
      (record { pieces = Graph stages (traced b d time position functions frame).functions ∷ []; fate = sealed_by frame (traced b d time position functions frame).fate; acts = (traced b d time position functions frame).acts })
  unfolding long_traced
  through_functions position stages functions frame =
      on_nothing (Graph stages (traced b d time position functions frame).functions) (traced b d time position functions frame).acts (position + length functions) frame (traced b d time position functions frame).fate

  pub through_whole : (position : ℕ) (rewritten : List ℕ → List ℕ) (frame : List ℕ) → ◌≡◌ {A = LongTraced F} (alone b d time position (Whole rewritten) frame)
      (record { pieces = Whole rewritten ∷ []; fate = Out (rewritten frame); acts = rewriting rewritten frame ∷ [] })
  unfolding long_traced
  through_whole position rewritten frame = refl
