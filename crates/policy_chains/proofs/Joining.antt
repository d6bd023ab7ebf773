-- A function is added to a chain that is being cut.
use Rattle.std.proofs.Common.{◌≡◌, ◌∙◌, ℕ, List, [], ◌∷◌, ◌++◌, refl, ap, sym, subst}
use Rattle.std.specs.Prelude.{IfOk, Result, Ok, Err}
use Rattle.std.proofs.lemmas.List.{append_assoc}
use Rattle.piece_walk.specs.Pieces.{Piece, Whole}
use Rattle.net_functions.specs.declared.making.Made.{Made}
use Rattle.net_functions.specs.declared.making.Made.TheVariants as made
use Rattle.net_functions.specs.declared.net_function.NetFunction.{NetFunction}
use Rattle.nf_tunnel.specs.Tunnels.{encapsulated, decapsulated}
use Rattle.nf_tunnel.specs.declared.decap.Decap.{Decap}
use Rattle.nf_tunnel.specs.declared.encap.Encap.{Encap}
use Rattle.policy_chains.specs.Parts.{part_of, parts_of}
use Rattle.policy_chains.specs.declared.part.ChainPart.TheVariants as parts
use Rattle.policy_chains.specs.Cutting.{GoesOn, closed, with_all, with_first, with_made}
use Rattle.policy_chains.specs.declared.cutting.Cutting.{Cutting}
use Rattle.policy_chains.specs.declared.named.NamedFunction.{NamedFunction}

all_push : (functions : List NamedFunction) (f : NamedFunction) (later : List (Piece NamedFunction)) → with_all (functions ++ f ∷ []) later ≡ with_all functions (with_first f later)
unfolding with_all
all_push [] f later = refl
all_push (g ∷ functions) f later = ap (with_first g) (all_push functions f later)

-- before a function that rewrites frames whole, functions in a row are a piece by themselves
all_before : (functions : List NamedFunction) (rewritten : List ℕ → List ℕ) (later : List (Piece NamedFunction)) → with_all functions (Whole rewritten ∷ later) ≡ closed functions ++ Whole rewritten ∷ later
unfolding with_all
all_before [] rewritten later = refl
all_before (f ∷ []) rewritten later = refl
all_before (f ∷ g ∷ functions) rewritten later = ap (with_first f) (all_before (g ∷ functions) rewritten later)

-- and so they are at the end of a chain
pub all_last : (functions : List NamedFunction) → with_all functions [] ≡ closed functions
unfolding with_all
all_last [] = refl
all_last (f ∷ []) = refl
all_last (f ∷ g ∷ functions) = ap (with_first f) (all_last (g ∷ functions))

function_joins : (old new : Cutting) (name : List ℕ) (function : NetFunction) → new.parts.items ≡ old.parts.items → new.waiting.items ≡ old.waiting.items ++ record { name = name; function = function } ∷ [] →
    GoesOn old new (with_made name (made.Function function))
function_joins old new name function pieces waits =
    let f : NamedFunction = record { name = name; function = function } in
    record {
      joined = λ later.
          ap (λ p. parts_of p ++ with_all new.waiting.items later) pieces
          ∙ ap (λ o. parts_of old.parts.items ++ with_all o later) waits
          ∙ ap (λ l. parts_of old.parts.items ++ l) (all_push old.waiting.items f later);
    }

tunnel_joins : (old new : Cutting) (rewritten : List ℕ → List ℕ) → parts_of new.parts.items ≡ (parts_of old.parts.items ++ closed old.waiting.items) ++ Whole rewritten ∷ [] → new.waiting.items ≡ [] → GoesOn old new (λ later. Whole rewritten ∷ later)
unfolding with_all
tunnel_joins old new rewritten pieces waits = record {
  joined = λ later.
      ap (λ o. parts_of new.parts.items ++ with_all o later) waits
      ∙ ap (λ p. p ++ later) pieces
      ∙ append_assoc (parts_of old.parts.items ++ closed old.waiting.items) (Whole rewritten ∷ []) later
      ∙ append_assoc (parts_of old.parts.items) (closed old.waiting.items) (Whole rewritten ∷ later)
      ∙ ap (λ l. parts_of old.parts.items ++ l) (sym (all_before old.waiting.items rewritten later));
}

-- so is each end of a tunnel, if there is memory
abbrev pub HasTunnel : {E : Type 0} → Cutting → Piece NamedFunction → Result Cutting E → Type 0
HasTunnel old tunnel r = IfOk r (λ new. parts_of new.parts.items ≡ (parts_of old.parts.items ++ closed old.waiting.items) ++ tunnel ∷ []) × IfOk r (λ new. new.waiting.items ≡ [])

pub entry_joins : {E : Type 0} (r : Result Cutting E) (old : Cutting) (name : List ℕ) (one : Made) (tunnel : Encap) → one ≡ made.Encap tunnel → HasTunnel old (part_of (parts.Encap tunnel)) r → IfOk r (λ new. GoesOn old new (with_made name one))
entry_joins (Ok new) old name one tunnel is has = subst (λ m. GoesOn old new (with_made name m)) (sym is) (tunnel_joins old new (encapsulated tunnel) has.0 has.1)
entry_joins (Err e) old name one tunnel is has = tt

pub exit_joins : {E : Type 0} (r : Result Cutting E) (old : Cutting) (name : List ℕ) (one : Made) (tunnel : Decap) → one ≡ made.Decap tunnel → HasTunnel old (part_of (parts.Decap tunnel)) r → IfOk r (λ new. GoesOn old new (with_made name one))
exit_joins (Ok new) old name one tunnel is has = subst (λ m. GoesOn old new (with_made name m)) (sym is) (tunnel_joins old new (decapsulated tunnel) has.0 has.1)
exit_joins (Err e) old name one tunnel is has = tt

-- so is a function, if there is memory
abbrev pub HasFunction : {E : Type 0} → Cutting → NamedFunction → Result Cutting E → Type 0
HasFunction old f r = IfOk r (λ new. new.parts.items ≡ old.parts.items) × IfOk r (λ new. new.waiting.items ≡ old.waiting.items ++ f ∷ [])

pub row_joins : {E : Type 0} (r : Result Cutting E) (old : Cutting) (name : List ℕ) (one : Made) (function : NetFunction) → one ≡ made.Function function →
    HasFunction old (record { name = name; function = function }) r → IfOk r (λ new. GoesOn old new (with_made name one))
row_joins (Ok new) old name one function is has =
    subst (λ m. GoesOn old new (with_made name m)) (sym is) (function_joins old new name function has.0 has.1)
row_joins (Err e) old name one function is has = tt
