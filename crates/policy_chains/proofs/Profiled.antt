-- The functions of a chain of one piece have the profiles of their declarations.
use Rattle.std.proofs.Common.{◌≡◌, ◌<◌, ◌∙◌, ℕ, zero, suc, List, [], ◌∷◌, ◌++◌, length, map, refl, ap, sym, subst, arith}
use Rattle.std.specs.Prelude.{All, Option, Some, None, slice_get}
use Rattle.std.specs.List.{flat_map}
use Rattle.std.specs.Option.{option_map_or}
use Rattle.std.proofs.lemmas.List.Elements.{All-head, All-tail}
use Rattle.action_profile.specs.Profiles.{plain, profile_of}
use Rattle.action_profile.specs.declared.kind.Kind.{Kind}
use Rattle.action_profile.specs.declared.kind.Kind.TheVariants as kinds
use Rattle.action_profile.specs.declared.rights.Profile.{Profile}
use Rattle.graph_text.specs.Chains.{profiles_in}
use Rattle.net_functions.specs.Builds.{function_of, making_of}
use Rattle.net_functions.specs.NetFunctions.{net_behaviour, profile_by}
use Rattle.net_functions.specs.declared.making.Made.{Made}
use Rattle.net_functions.specs.declared.making.Made.TheVariants as made
use Rattle.nf_tunnel.specs.Tunnels.{encapsulated, decapsulated}
use Rattle.piece_walk.specs.Pieces.{Piece, Graph, Whole}
use Rattle.policy_text.specs.declared.policy.FunctionDecl.{FunctionDecl}
use Rattle.policy_chains.specs.Profiled.{Profiled}
use Rattle.policy_chains.specs.NamedFunctions.{named_behaviour}
use Rattle.policy_chains.specs.Cutting.{joined, with_first, with_made}
use Rattle.policy_chains.specs.Services.{declared_at, pieces_among, pieces_at}
use Rattle.policy_chains.specs.declared.named.NamedFunction.{NamedFunction}
use Rattle.policy_chains.proofs.Joined.{cut_joined}

abbrev pub profile_declared : FunctionDecl → Profile
profile_declared decl = profile_of decl.kind

-- the profile of a function that is made
abbrev pub HasProfile : Profile → Made → Type 0
HasProfile profile (made.Function f) = net_behaviour.profile f ≡ profile
HasProfile profile (made.Encap tunnel) = Unit {0}
HasProfile profile (made.Decap tunnel) = Unit {0}

pub profile_made : (decl : FunctionDecl) → HasProfile (profile_declared decl) (function_of decl)
unfolding making_of profile_by
profile_made decl = go decl.kind
  where
    go : (kind : Kind) → HasProfile (profile_of kind) ((making_of kind).made decl)
    go kinds.Firewall = refl
    go kinds.Nat = refl
    go kinds.Balancer = refl
    go kinds.Monitor = refl
    go kinds.Limiter = refl
    go kinds.Marker = refl
    go kinds.Hop = refl
    go kinds.Tagger = refl
    go kinds.Untagger = refl
    go kinds.Signature = refl
    go kinds.Nexthop = refl
    go kinds.Redactor = refl
    go kinds.Encap = tt
    go kinds.Decap = tt

first_profiled : (f : NamedFunction) (profile : Profile) (profiles : List Profile) (later : List (Piece NamedFunction)) → named_behaviour.profile f ≡ profile → Profiled profiles later → Profiled (profile ∷ profiles) (with_first f later)
first_profiled f profile profiles [] is so = ap (λ p. p ∷ []) is ∙ ap (λ ps. profile ∷ ps) (sym so)
first_profiled f profile profiles (Graph stages functions ∷ []) is so = ap (λ p. p ∷ map named_behaviour.profile functions) is ∙ ap (λ ps. profile ∷ ps) so
first_profiled f profile profiles (Graph stages functions ∷ two ∷ later) is so = tt
first_profiled f profile profiles (Whole rewritten ∷ later) is so = tt

whole_profiled : (profiles : List Profile) (rewritten : List ℕ → List ℕ) (later : List (Piece NamedFunction)) → Profiled profiles (Whole rewritten ∷ later)
whole_profiled profiles rewritten [] = tt
whole_profiled profiles rewritten (one ∷ later) = tt

made_profiled : (name : List ℕ) (one : Made) (profile : Profile) (profiles : List Profile) (later : List (Piece NamedFunction)) → HasProfile profile one → Profiled profiles later → Profiled (profile ∷ profiles) (with_made name one later)
made_profiled name (made.Function f) profile profiles later is so = first_profiled (record { name = name; function = f }) profile profiles later is so
made_profiled name (made.Encap tunnel) profile profiles later is so = whole_profiled (profile ∷ profiles) (encapsulated tunnel) later
made_profiled name (made.Decap tunnel) profile profiles later is so = whole_profiled (profile ∷ profiles) (decapsulated tunnel) later

joined_profiled : (decls : List FunctionDecl) → Profiled (map profile_declared decls) (joined decls)
unfolding joined
joined_profiled [] = refl
joined_profiled (decl ∷ decls) = made_profiled decl.name (function_of decl) (profile_declared decl) (map profile_declared decls) (joined decls) (profile_made decl) (joined_profiled decls)

cut_profiled : (decls : List FunctionDecl) → Profiled (map profile_declared decls) (pieces_among decls)
cut_profiled decls = subst (Profiled (map profile_declared decls)) (sym (cut_joined decls)) (joined_profiled decls)

pub none_past : (xs : List FunctionDecl) (n : ℕ) → slice_get xs n ≡ None → n < length xs → ⊥
none_past [] n is inside = omega (arith, inside)
none_past (x ∷ xs) zero is inside = cc
none_past (x ∷ xs) (suc n) is inside = none_past xs n is (omega (arith, inside))

-- the functions that are declared at places of a chain have the profiles of these places
pub profiles_at : (functions : List FunctionDecl) (places : List ℕ) → All (λ p. p < length functions) places → map profile_declared (flat_map (declared_at functions) places) ≡ profiles_in functions places
profiles_at functions [] inside = refl
profiles_at functions (place ∷ places) inside =
    go (slice_get functions place) refl (profiles_at functions places (All-tail (λ p. p < length functions) place places inside))
  where
    is_inside : place < length functions
    is_inside = All-head (λ p. p < length functions) place places inside

    go : (o : Option FunctionDecl) → slice_get functions place ≡ o → map profile_declared (flat_map (declared_at functions) places) ≡ profiles_in functions places
        → map profile_declared (option_map_or (λ decl. decl ∷ []) o [] ++ flat_map (declared_at functions) places) ≡ option_map_or (λ f. profile_of f.kind) o (plain [] []) ∷ profiles_in functions places
    go (Some decl) is rest = ap (λ ps. profile_declared decl ∷ ps) rest
    go None is rest = absurd (none_past functions place is is_inside)

pub pieces_profiled : (functions : List FunctionDecl) (places : List ℕ) → All (λ p. p < length functions) places → Profiled (profiles_in functions places) (pieces_at functions places)
pieces_profiled functions places inside =
    let decls : List FunctionDecl = flat_map (declared_at functions) places in
    subst (λ ps. Profiled ps (pieces_among decls)) (profiles_at functions places inside) (cut_profiled decls)
