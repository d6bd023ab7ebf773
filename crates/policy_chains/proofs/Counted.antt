-- A chain that is cut has few functions.
use Rattle.std.proofs.Common.{◌≡◌, ◌≤◌, ◌∙◌, ℕ, suc, List, [], ◌∷◌, length, refl, ap, arith}
use Rattle.std.specs.Prelude.{slice_get, Option, Some, None}
use Rattle.std.specs.List.{flat_map, sum_by}
use Rattle.std.specs.Option.{option_map_or}
use Rattle.std.proofs.lemmas.List.{length-append}
use Rattle.std.proofs.lemmas.List.Sums.{sum_by-cons}
use Rattle.policy_text.specs.declared.policy.FunctionDecl.{FunctionDecl}
use Rattle.net_functions.specs.Builds.{function_of}
use Rattle.net_functions.specs.declared.making.Made.{Made}
use Rattle.net_functions.specs.declared.making.Made.TheVariants as made
use Rattle.nf_tunnel.specs.Tunnels.{encapsulated, decapsulated}
use Rattle.piece_walk.specs.Pieces.{Piece, Graph, Whole, count_of}
use Rattle.policy_chains.specs.Parts.{parts_count, parts_of}
use Rattle.policy_chains.specs.declared.part.ChainPart.{ChainPart}
use Rattle.policy_chains.specs.Cutting.{joined, with_first, with_made}
use Rattle.policy_chains.specs.Services.{compiled, declared_at, pieces_among, pieces_at}
use Rattle.policy_chains.specs.declared.named.NamedFunction.{NamedFunction}
use Rattle.policy_chains.proofs.Joined.{cut_joined}

-- the number of functions of pieces
abbrev functions_count : List (Piece NamedFunction) → ℕ
functions_count pieces = sum_by count_of pieces

first_counts : (f : NamedFunction) (later : List (Piece NamedFunction)) → functions_count (with_first f later) ≡ suc (functions_count later)
first_counts f [] = omega (arith, sum_by-cons count_of (compiled (f ∷ [])) [])
first_counts f (Graph stages functions ∷ later) =
    omega (arith, sum_by-cons count_of (compiled (f ∷ functions)) later, sum_by-cons count_of (Graph stages functions) later)
first_counts f (Whole rewritten ∷ later) = omega (arith, sum_by-cons count_of (compiled (f ∷ [])) (Whole rewritten ∷ later))

made_counts : (name : List ℕ) (one : Made) (later : List (Piece NamedFunction)) → functions_count (with_made name one later) ≡ suc (functions_count later)
made_counts name (made.Function f) later = first_counts (record { name = name; function = f }) later
made_counts name (made.Encap tunnel) later = omega (arith, sum_by-cons count_of (Whole (encapsulated tunnel)) later)
made_counts name (made.Decap tunnel) later = omega (arith, sum_by-cons count_of (Whole (decapsulated tunnel)) later)

-- pieces have the functions that are cut
joined_counts : (decls : List FunctionDecl) → functions_count (joined decls) ≡ length decls
unfolding joined
joined_counts [] = refl
joined_counts (decl ∷ decls) = made_counts decl.name (function_of decl) (joined decls) ∙ ap suc (joined_counts decls)

cut_counts : (decls : List FunctionDecl) → functions_count (pieces_among decls) ≡ length decls
cut_counts decls = ap functions_count (cut_joined decls) ∙ joined_counts decls

one_at_most : (declared : List FunctionDecl) (place : ℕ) → length (declared_at declared place) ≤ 1
one_at_most declared place = go (slice_get declared place)
  where
    go : (o : Option FunctionDecl) → length {A = FunctionDecl} (option_map_or (λ decl. decl ∷ []) o []) ≤ 1
    go None = omega arith
    go (Some decl) = omega arith

few_at : (declared : List FunctionDecl) (places : List ℕ) → length (flat_map (declared_at declared) places) ≤ length places
few_at declared [] = omega arith
few_at declared (place ∷ places) = omega (arith, length-append (declared_at declared place) (flat_map (declared_at declared) places), one_at_most declared place, few_at declared places)

-- so have parts that become the pieces of these places
pub few_parts : (declared : List FunctionDecl) (places : List ℕ) (chain : List ChainPart) → parts_of chain ≡ pieces_at declared places → length places ≤ 64 → parts_count chain ≤ 64
few_parts declared places chain are few =
    omega (arith, ap functions_count are, cut_counts (flat_map (declared_at declared) places), few_at declared places, few)
