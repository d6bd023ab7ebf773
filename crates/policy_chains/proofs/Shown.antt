-- The stages that a plan shows are those in which the pieces of a chain run.
use Rattle.std.proofs.Common.{◌≡◌, ◌<◌, ◌∙◌, Bool, true, false, cond, ℕ, List, [], ◌∷◌, ◌++◌, length, map, refl, ap, sym, subst}
use Rattle.std.specs.Prelude.{◌||◌, All, Option, Some, None, slice_get}
use Rattle.std.specs.List.{flat_map, list_any}
use Rattle.std.specs.Option.{option_map_or}
use Rattle.std.proofs.lemmas.List.Elements.{All-cons, All-head, All-nil, All-tail}
use Rattle.action_profile.specs.Profiles.{plain, profile_of}
use Rattle.policy_text.specs.declared.policy.FunctionDecl.{FunctionDecl}
use Rattle.graph_compile.specs.Cutting.{cut, in_front}
use Rattle.graph_compile.specs.Stages.{graph_of}
use Rattle.plan_text.specs.Plan.{is_whole_at}
use Rattle.net_functions.specs.Builds.{function_of}
use Rattle.net_functions.specs.declared.making.Made.{Made}
use Rattle.net_functions.specs.declared.making.Made.TheVariants as made
use Rattle.policy_chains.specs.NamedFunctions.{named_behaviour}
use Rattle.policy_chains.specs.Services.{declared_at, is_whole, named_of, piece_among, piece_by, pieces_at}
use Rattle.policy_chains.specs.Shown.{stages_run, stages_shown}
use Rattle.policy_chains.proofs.Joined.{IsMade, front_by, is_entry, is_made, is_plain, named_first, or_false, first_false}
use Rattle.policy_chains.proofs.Profiled.{HasProfile, none_past, profile_declared, profile_made, profiles_at}

-- the declarations at places
abbrev declared_in : List FunctionDecl → List ℕ → List FunctionDecl
declared_in functions places = flat_map (declared_at functions) places

any_at : (functions : List FunctionDecl) (places : List ℕ) → list_any is_whole (declared_in functions places) ≡ list_any (is_whole_at functions) places
any_at functions [] = refl
any_at functions (place ∷ places) = go (slice_get functions place) (any_at functions places)
  where
    go : (o : Option FunctionDecl) → list_any is_whole (declared_in functions places) ≡ list_any (is_whole_at functions) places →
        list_any is_whole (option_map_or (λ decl. decl ∷ []) o [] ++ declared_in functions places) ≡ ((option_map_or (λ f. profile_of f.kind) o (plain [] [])).whole || list_any (is_whole_at functions) places)
    go (Some decl) rest = ap (λ b. is_whole decl || b) rest
    go None rest = rest

whole_at : (functions : List FunctionDecl) (place : ℕ) (decl : FunctionDecl) → slice_get functions place ≡ Some decl → is_whole_at functions place ≡ is_whole decl
whole_at functions place decl is = ap (λ o. (option_map_or (λ f. profile_of f.kind) o (plain [] [])).whole) is

first_at : (functions : List FunctionDecl) (place : ℕ) (decl : FunctionDecl) (places : List ℕ) → slice_get functions place ≡ Some decl → decl ∷ declared_in functions places ≡ declared_in functions (place ∷ places)
first_at functions place decl places is = sym (ap (λ o. option_map_or (λ d. d ∷ []) o [] ++ declared_in functions places) is)

-- a place is cut from pieces as its declaration is from theirs
front_shown : (functions : List FunctionDecl) (place : ℕ) (piece : List ℕ) (later : List (List ℕ)) (b : Bool) → (is_whole_at functions place || list_any (is_whole_at functions) piece) ≡ b →
    in_front (is_whole_at functions) place (piece ∷ later) ≡ cond b ((place ∷ []) ∷ piece ∷ later) ((place ∷ piece) ∷ later)
front_shown functions place piece later b e = ap (λ a. cond a ((place ∷ []) ∷ piece ∷ later) ((place ∷ piece) ∷ later)) e

front_same : (functions : List FunctionDecl) (place : ℕ) (decl : FunctionDecl) (piece : List ℕ) (later : List (List ℕ)) (b : Bool) → slice_get functions place ≡ Some decl →
    cond b ((decl ∷ []) ∷ declared_in functions piece ∷ map (declared_in functions) later) ((decl ∷ declared_in functions piece) ∷ map (declared_in functions) later)
    ≡ map (declared_in functions) (cond b ((place ∷ []) ∷ piece ∷ later) ((place ∷ piece) ∷ later))
front_same functions place decl piece later true is = ap (λ first. first ∷ declared_in functions piece ∷ map (declared_in functions) later) (first_at functions place decl [] is)
front_same functions place decl piece later false is = ap (λ first. first ∷ map (declared_in functions) later) (first_at functions place decl piece is)

front_at : (functions : List FunctionDecl) (place : ℕ) (decl : FunctionDecl) (pieces : List (List ℕ)) → slice_get functions place ≡ Some decl →
    in_front is_whole decl (map (declared_in functions) pieces) ≡ map (declared_in functions) (in_front (is_whole_at functions) place pieces)
front_at functions place decl [] is = ap (λ first. first ∷ []) (first_at functions place decl [] is)
front_at functions place decl (piece ∷ later) is =
    let b : Bool = is_whole decl || list_any is_whole (declared_in functions piece) in
    let shown : (is_whole_at functions place || list_any (is_whole_at functions) piece) ≡ b =
    ap (λ a. a || list_any (is_whole_at functions) piece) (whole_at functions place decl is) ∙ ap (λ a. is_whole decl || a) (sym (any_at functions piece)) in
    front_by decl (declared_in functions piece) (map (declared_in functions) later) b refl
    ∙ front_same functions place decl piece later b is
    ∙ ap (map (declared_in functions)) (sym (front_shown functions place piece later b shown))

abbrev AreInside : List FunctionDecl → List ℕ → Type 0
AreInside functions places = All (λ p. p < length functions) places

cut_at : (functions : List FunctionDecl) (order : List ℕ) → AreInside functions order → cut is_whole (declared_in functions order) ≡ map (declared_in functions) (cut (is_whole_at functions) order)
unfolding cut
cut_at functions [] inside = refl
cut_at functions (place ∷ later) inside = go (slice_get functions place) refl (cut_at functions later (All-tail (λ p. p < length functions) place later inside))
  where
    is_inside : place < length functions
    is_inside = All-head (λ p. p < length functions) place later inside

    go : (o : Option FunctionDecl) → slice_get functions place ≡ o → cut is_whole (declared_in functions later) ≡ map (declared_in functions) (cut (is_whole_at functions) later) →
        cut is_whole (option_map_or (λ decl. decl ∷ []) o [] ++ declared_in functions later) ≡ map (declared_in functions) (in_front (is_whole_at functions) place (cut (is_whole_at functions) later))
    go (Some decl) is rest = ap (in_front is_whole decl) rest ∙ front_at functions place decl (cut (is_whole_at functions) later) is
    go None is rest = absurd (none_past functions place is is_inside)

-- each piece rewrites packets whole if its first function does
abbrev IsHead : List FunctionDecl → Type 0
IsHead [] = ⊥
IsHead (decl ∷ decls) = list_any is_whole (decl ∷ decls) ≡ is_whole decl

abbrev AreHeads : List (List FunctionDecl) → Type 0
AreHeads [] = Unit {0}
AreHeads (piece ∷ later) = IsHead piece × AreHeads later

heads_by : (decl : FunctionDecl) (piece : List FunctionDecl) (later : List (List FunctionDecl)) (b : Bool) → (is_whole decl || list_any is_whole piece) ≡ b → AreHeads (piece ∷ later) →
    AreHeads (cond b ((decl ∷ []) ∷ piece ∷ later) ((decl ∷ piece) ∷ later))
heads_by decl piece later true e heads = (or_false (is_whole decl), heads)
heads_by decl piece later false e heads = (e ∙ first_false (is_whole decl) (list_any is_whole piece) e, heads.1)

heads_front : (decl : FunctionDecl) (pieces : List (List FunctionDecl)) → AreHeads pieces → AreHeads (in_front is_whole decl pieces)
heads_front decl [] heads = (or_false (is_whole decl), tt)
heads_front decl (piece ∷ later) heads =
    let b : Bool = is_whole decl || list_any is_whole piece in
    subst AreHeads (sym (front_by decl piece later b refl)) (heads_by decl piece later b refl heads)

cut_heads : (decls : List FunctionDecl) → AreHeads (cut is_whole decls)
unfolding cut
cut_heads [] = tt
cut_heads (decl ∷ decls) = heads_front decl (cut is_whole decls) (cut_heads decls)

-- and all places stay inside
abbrev AreAllInside : List FunctionDecl → List (List ℕ) → Type 0
AreAllInside functions [] = Unit {0}
AreAllInside functions (piece ∷ later) = AreInside functions piece × AreAllInside functions later

inside_by : (functions : List FunctionDecl) (place : ℕ) (piece : List ℕ) (later : List (List ℕ)) (b : Bool) → place < length functions → AreAllInside functions (piece ∷ later) →
    AreAllInside functions (cond b ((place ∷ []) ∷ piece ∷ later) ((place ∷ piece) ∷ later))
inside_by functions place piece later true one all = (All-cons (λ p. p < length functions) place [] one (All-nil (λ p. p < length functions)), all)
inside_by functions place piece later false one all = (All-cons (λ p. p < length functions) place piece one all.0, all.1)

inside_front : (functions : List FunctionDecl) (place : ℕ) (pieces : List (List ℕ)) → place < length functions → AreAllInside functions pieces → AreAllInside functions (in_front (is_whole_at functions) place pieces)
inside_front functions place [] one all = (All-cons (λ p. p < length functions) place [] one (All-nil (λ p. p < length functions)), tt)
inside_front functions place (piece ∷ later) one all =
    let b : Bool = is_whole_at functions place || list_any (is_whole_at functions) piece in
    subst (AreAllInside functions) (sym (front_shown functions place piece later b refl)) (inside_by functions place piece later b one all)

cut_inside : (functions : List FunctionDecl) (order : List ℕ) → AreInside functions order → AreAllInside functions (cut (is_whole_at functions) order)
unfolding cut
cut_inside functions [] inside = tt
cut_inside functions (place ∷ later) inside =
    inside_front functions place (cut (is_whole_at functions) later) (All-head (λ p. p < length functions) place later inside) (cut_inside functions later (All-tail (λ p. p < length functions) place later inside))

-- functions that see a packet's fields have the profiles of their kinds
apart : (a b : Bool) → (a || b) ≡ false → (a ≡ false) × (b ≡ false)
apart true b none = absurd cc
apart false b none = (refl, none)

opposite : (b : Bool) → b ≡ true → b ≡ false → ⊥
opposite b whole plain = cc

named_profiled : (decls : List FunctionDecl) → list_any is_whole decls ≡ false → map named_behaviour.profile (flat_map named_of decls) ≡ map profile_declared decls
named_profiled [] none = refl
named_profiled (decl ∷ decls) none = go (function_of decl) refl (is_made decl) (profile_made decl) (named_profiled decls two.1)
  where
    two : (is_whole decl ≡ false) × (list_any is_whole decls ≡ false)
    two = apart (is_whole decl) (list_any is_whole decls) none

    go : (one : Made) → function_of decl ≡ one → IsMade (is_whole decl) one → HasProfile (profile_declared decl) one → map named_behaviour.profile (flat_map named_of decls) ≡ map profile_declared decls →
        map named_behaviour.profile (flat_map named_of (decl ∷ decls)) ≡ profile_declared decl ∷ map profile_declared decls
    go (made.Function f) is so has rest =
        ap (map named_behaviour.profile) (named_first decl f decls is)
        ∙ ap (λ p. p ∷ map named_behaviour.profile (flat_map named_of decls)) has
        ∙ ap (λ ps. profile_declared decl ∷ ps) rest
    go (made.Encap tunnel) is so has rest = absurd (opposite (is_whole decl) (is_entry (is_whole decl) (made.Encap tunnel) so tt) two.0)
    go (made.Decap tunnel) is so has rest = absurd (opposite (is_whole decl) (is_entry (is_whole decl) (made.Decap tunnel) so tt) two.0)

staged : (decl : FunctionDecl) (decls : List FunctionDecl) (one : Made) → function_of decl ≡ one → IsMade (is_whole decl) one → IsHead (decl ∷ decls) →
    stages_run (piece_by one (decl ∷ decls)) ≡ cond (is_whole decl) None (Some (graph_of (map profile_declared (decl ∷ decls))).stages)
staged decl decls (made.Function f) is so head =
    let plain : is_whole decl ≡ false = is_plain (is_whole decl) f so in
    ap (λ ps. Some (graph_of ps).stages) (named_profiled (decl ∷ decls) (head ∙ plain))
    ∙ ap (λ b. cond b None (Some (graph_of (map profile_declared (decl ∷ decls))).stages)) (sym plain)
staged decl decls (made.Encap tunnel) is so head =
    ap (λ b. cond b None (Some (graph_of (map profile_declared (decl ∷ decls))).stages)) (sym (is_entry (is_whole decl) (made.Encap tunnel) so tt))
staged decl decls (made.Decap tunnel) is so head =
    ap (λ b. cond b None (Some (graph_of (map profile_declared (decl ∷ decls))).stages)) (sym (is_entry (is_whole decl) (made.Decap tunnel) so tt))

-- a piece runs in the stages that are shown of it
piece_shown : (functions : List FunctionDecl) (piece : List ℕ) (decls : List FunctionDecl) → declared_in functions piece ≡ decls → IsHead decls → AreInside functions piece →
    stages_run (piece_among (declared_in functions piece)) ≡ stages_shown functions piece
piece_shown functions piece [] is head inside = absurd head
piece_shown functions piece (decl ∷ decls) is head inside =
    ap (λ g. stages_run (piece_among g)) is
    ∙ staged decl decls (function_of decl) refl (is_made decl) head
    ∙ ap (λ b. cond b None (Some (graph_of (map profile_declared (decl ∷ decls))).stages)) (sym head ∙ ap (list_any is_whole) (sym is) ∙ any_at functions piece)
    ∙ ap (λ ps. cond (list_any (is_whole_at functions) piece) None (Some (graph_of ps).stages)) (ap (map profile_declared) (sym is) ∙ profiles_at functions piece inside)

all_shown : (functions : List FunctionDecl) (pieces : List (List ℕ)) → AreHeads (map (declared_in functions) pieces) → AreAllInside functions pieces →
    map stages_run (map piece_among (map (declared_in functions) pieces)) ≡ map (stages_shown functions) pieces
all_shown functions [] heads inside = refl
all_shown functions (piece ∷ later) heads inside =
    ap (λ first. first ∷ map stages_run (map piece_among (map (declared_in functions) later))) (piece_shown functions piece (declared_in functions piece) refl heads.0 inside.0)
    ∙ ap (λ rest. stages_shown functions piece ∷ rest) (all_shown functions later heads.1 inside.1)

pub plan_runs : (functions : List FunctionDecl) (order : List ℕ) → AreInside functions order →
    map stages_run (pieces_at functions order) ≡ map (stages_shown functions) (cut (is_whole_at functions) order)
plan_runs functions order inside =
    ap (λ pieces. map stages_run (map piece_among pieces)) (cut_at functions order inside)
    ∙ all_shown functions (cut (is_whole_at functions) order)
    (subst AreHeads (cut_at functions order inside) (cut_heads (declared_in functions order)))
    (cut_inside functions order inside)
