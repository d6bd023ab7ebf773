-- A chain is cut from its first function on, one function after another.
use Rattle.std.proofs.Common.{◌≡◌, ◌≤◌, ◌<◌, ◌+◌, ◌∙◌, ℕ, List, [], ◌∷◌, ◌++◌, length, drop, refl, ap, sym, arith}
use Rattle.std.specs.Prelude.{slice_get, slice_index_or, Option, Some, None}
use Rattle.std.specs.List.{flat_map}
use Rattle.std.specs.Option.{option_map_or}
use Rattle.std.proofs.lemmas.List.{drop_all, drop_more}
use Rattle.policy_text.specs.declared.policy.FunctionDecl.{FunctionDecl}
use Rattle.piece_walk.specs.Pieces.{Piece}
use Rattle.net_functions.specs.Builds.{function_of}
use Rattle.policy_chains.specs.Parts.{parts_of}
use Rattle.policy_chains.specs.Cutting.{GoesOn, closed, cut_with, joined, with_all, with_declared, with_made}
use Rattle.policy_chains.specs.Services.{declared_at, pieces_at}
use Rattle.policy_chains.specs.declared.cutting.Cutting.{Cutting}
use Rattle.policy_chains.specs.declared.named.NamedFunction.{NamedFunction}
use Rattle.policy_chains.proofs.Joined.{cut_joined}
use Rattle.policy_chains.proofs.Joining.{all_last}

-- the pieces of the functions at these places, one function after another
abbrev joined_at : List FunctionDecl → List ℕ → List (Piece NamedFunction)
joined_at declared places = joined (flat_map (declared_at declared) places)

-- The chain is cut so far, with what is due after it.
pub record IsCutSoFar (declared : List FunctionDecl) (places : List ℕ) (cutting : Cutting) (index : ℕ) : Type 0 where
  pub due : cut_with cutting (joined_at declared (drop index places)) ≡ joined_at declared places

pub cutting_begins : (declared : List FunctionDecl) (places : List ℕ) (cutting : Cutting) → cutting.parts.items ≡ [] → cutting.waiting.items ≡ [] → IsCutSoFar declared places cutting 0
unfolding with_all
cutting_begins declared places cutting pieces waits = record {
  due = ap (λ p. parts_of p ++ with_all cutting.waiting.items (joined_at declared places)) pieces ∙ ap (λ o. with_all o (joined_at declared places)) waits;
}

joined_one : (o : Option FunctionDecl) (later : List FunctionDecl) → joined (option_map_or (λ decl. decl ∷ []) o [] ++ later) ≡ option_map_or (λ decl. with_made decl.name (function_of decl) (joined later)) o (joined later)
unfolding joined
joined_one None later = refl
joined_one (Some decl) later = refl

pub cutting_goes_on : (declared : List FunctionDecl) (places : List ℕ) (old new : Cutting) (index d : ℕ) → IsCutSoFar declared places old index → index < length places → GoesOn old new (with_declared declared (slice_index_or places index d)) →
    IsCutSoFar declared places new (index + 1)
cutting_goes_on declared places old new index d so inside goes =
    let place : ℕ = slice_index_or places index d in
    let rest : List ℕ = drop (index + 1) places in
    let here : joined_at declared (drop index places) ≡ with_declared declared place (joined_at declared rest) =
    ap (joined_at declared) (drop_more places index d inside) ∙ joined_one (slice_get declared place) (flat_map (declared_at declared) rest) in
    record {
      due = goes.joined (joined_at declared rest) ∙ ap (cut_with old) (sym here) ∙ so.due;
    }

no_functions : joined [] ≡ []
unfolding joined
no_functions = refl

pub cutting_ends : (declared : List FunctionDecl) (places : List ℕ) (cutting : Cutting) (index : ℕ) → IsCutSoFar declared places cutting index → length places ≤ index → parts_of cutting.parts.items ++ closed cutting.waiting.items ≡ pieces_at declared places
cutting_ends declared places cutting index so past =
    ap (λ l. parts_of cutting.parts.items ++ l) (sym (all_last cutting.waiting.items))
    ∙ ap (cut_with cutting) (sym no_functions)
    ∙ ap (λ l. cut_with cutting (joined_at declared l)) (sym (drop_all index places past))
    ∙ so.due
    ∙ sym (cut_joined (flat_map (declared_at declared) places))
