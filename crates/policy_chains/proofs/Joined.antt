-- A chain that is cut is one to which each function was added at its front.
use Rattle.std.proofs.Common.{◌≡◌, ◌∙◌, Bool, true, false, cond, List, [], ◌∷◌, ◌++◌, ℕ, map, refl, ap, sym, subst}
use Rattle.std.specs.Prelude.{◌||◌}
use Rattle.std.specs.List.{flat_map, list_any}
use Rattle.action_profile.specs.Profiles.{profile_of}
use Rattle.action_profile.specs.declared.kind.Kind.{Kind}
use Rattle.action_profile.specs.declared.kind.Kind.TheVariants as kinds
use Rattle.policy_text.specs.declared.policy.FunctionDecl.{FunctionDecl}
use Rattle.graph_compile.specs.Cutting.{cut, in_front}
use Rattle.piece_walk.specs.Pieces.{Piece}
use Rattle.net_functions.specs.Builds.{function_of, making_of}
use Rattle.net_functions.specs.declared.making.Made.{Made}
use Rattle.net_functions.specs.declared.net_function.NetFunction.{NetFunction}
use Rattle.net_functions.specs.declared.making.Made.TheVariants as made
use Rattle.policy_chains.specs.Cutting.{joined, with_first, with_made}
use Rattle.policy_chains.specs.Services.{compiled, is_whole, named, named_of, piece_among, piece_by, pieces_among}
use Rattle.policy_chains.specs.declared.named.NamedFunction.{NamedFunction}

-- what is made of a kind that rewrites packets whole, and of one that doesn't
abbrev pub IsMade : Bool → Made → Type 0
IsMade true (made.Function f) = ⊥
IsMade true (made.Encap tunnel) = Unit {0}
IsMade true (made.Decap tunnel) = Unit {0}
IsMade false (made.Function f) = Unit {0}
IsMade false (made.Encap tunnel) = ⊥
IsMade false (made.Decap tunnel) = ⊥

pub is_made : (decl : FunctionDecl) → IsMade (is_whole decl) (function_of decl)
unfolding making_of
is_made decl = go decl.kind
  where
    go : (kind : Kind) → IsMade (profile_of kind).whole ((making_of kind).made decl)
    go kinds.Firewall = tt
    go kinds.Nat = tt
    go kinds.Balancer = tt
    go kinds.Monitor = tt
    go kinds.Limiter = tt
    go kinds.Marker = tt
    go kinds.Hop = tt
    go kinds.Tagger = tt
    go kinds.Untagger = tt
    go kinds.Signature = tt
    go kinds.Nexthop = tt
    go kinds.Redactor = tt
    go kinds.Encap = tt
    go kinds.Decap = tt

-- the first piece rewrites packets whole if its first function does
abbrev IsHeaded : List (List FunctionDecl) → Type 0
IsHeaded [] = Unit {0}
IsHeaded ([] ∷ later) = ⊥
IsHeaded ((decl ∷ decls) ∷ later) = list_any is_whole (decl ∷ decls) ≡ is_whole decl

pub or_false : (b : Bool) → (b || false) ≡ b
or_false true = refl
or_false false = refl

pub front_by : (decl : FunctionDecl) (piece : List FunctionDecl) (later : List (List FunctionDecl)) (b : Bool) → (is_whole decl || list_any is_whole piece) ≡ b →
    in_front is_whole decl (piece ∷ later) ≡ cond b ((decl ∷ []) ∷ piece ∷ later) ((decl ∷ piece) ∷ later)
front_by decl piece later b e = ap (λ a. cond a ((decl ∷ []) ∷ piece ∷ later) ((decl ∷ piece) ∷ later)) e

pub first_false : (a b : Bool) → (a || b) ≡ false → false ≡ a
first_false true b is = absurd cc
first_false false b is = refl

headed_by : (decl : FunctionDecl) (piece : List FunctionDecl) (later : List (List FunctionDecl)) (b : Bool) → (is_whole decl || list_any is_whole piece) ≡ b →
    IsHeaded (cond b ((decl ∷ []) ∷ piece ∷ later) ((decl ∷ piece) ∷ later))
headed_by decl piece later true e = or_false (is_whole decl)
headed_by decl piece later false e = e ∙ first_false (is_whole decl) (list_any is_whole piece) e

headed : (decl : FunctionDecl) (pieces : List (List FunctionDecl)) → IsHeaded (in_front is_whole decl pieces)
headed decl [] = or_false (is_whole decl)
headed decl (piece ∷ later) =
    subst IsHeaded (sym (front_by decl piece later (is_whole decl || list_any is_whole piece) refl)) (headed_by decl piece later (is_whole decl || list_any is_whole piece) refl)

-- a function with its name, in front of the others of its piece
pub named_first : (decl : FunctionDecl) (f : NetFunction) (decls : List FunctionDecl) → function_of decl ≡ made.Function f →
    flat_map named_of (decl ∷ decls) ≡ record { name = decl.name; function = f } ∷ flat_map named_of decls
named_first decl f decls is = ap (λ one. named decl.name one ++ flat_map named_of decls) is

graph_first : (decl : FunctionDecl) (f : NetFunction) (decls : List FunctionDecl) → function_of decl ≡ made.Function f →
    piece_among (decl ∷ decls) ≡ compiled (record { name = decl.name; function = f } ∷ flat_map named_of decls)
graph_first decl f decls is = ap (λ one. piece_by one (decl ∷ decls)) is ∙ ap compiled (named_first decl f decls is)

-- in front of a tunnel's end a function is a piece by itself, and otherwise in the first one
apart : (f : NamedFunction) (one : Made) (decls : List FunctionDecl) (later : List (Piece NamedFunction)) → IsMade true one → with_first f (piece_by one decls ∷ later) ≡ compiled (f ∷ []) ∷ piece_by one decls ∷ later
apart f (made.Function g) decls later is = absurd is
apart f (made.Encap tunnel) decls later is = refl
apart f (made.Decap tunnel) decls later is = refl

together : (f : NamedFunction) (one : Made) (decls : List FunctionDecl) (later : List (Piece NamedFunction)) → IsMade false one → with_first f (piece_by one decls ∷ later) ≡ compiled (f ∷ flat_map named_of decls) ∷ later
together f (made.Function g) decls later is = refl
together f (made.Encap tunnel) decls later is = absurd is
together f (made.Decap tunnel) decls later is = absurd is

-- a function in front of the pieces of others
joins_by : (decl : FunctionDecl) (f : NetFunction) (next : FunctionDecl) (decls : List FunctionDecl) (later : List (List FunctionDecl)) (whole : Bool) → function_of decl ≡ made.Function f → IsMade whole (function_of next) →
    map piece_among (cond whole ((decl ∷ []) ∷ (next ∷ decls) ∷ later) ((decl ∷ next ∷ decls) ∷ later)) ≡ with_first (record { name = decl.name; function = f }) (map piece_among ((next ∷ decls) ∷ later))
joins_by decl f next decls later true is made =
    ap (λ piece. piece ∷ map piece_among ((next ∷ decls) ∷ later)) (graph_first decl f [] is)
    ∙ sym (apart (record { name = decl.name; function = f }) (function_of next) (next ∷ decls) (map piece_among later) made)
joins_by decl f next decls later false is made =
    ap (λ piece. piece ∷ map piece_among later) (graph_first decl f (next ∷ decls) is)
    ∙ sym (together (record { name = decl.name; function = f }) (function_of next) (next ∷ decls) (map piece_among later) made)

function_joins : (decl : FunctionDecl) (f : NetFunction) (pieces : List (List FunctionDecl)) → function_of decl ≡ made.Function f → is_whole decl ≡ false → IsHeaded pieces →
    map piece_among (in_front is_whole decl pieces) ≡ with_first (record { name = decl.name; function = f }) (map piece_among pieces)
function_joins decl f [] is plain so = ap (λ piece. piece ∷ []) (graph_first decl f [] is)
function_joins decl f ([] ∷ later) is plain so = absurd so
function_joins decl f ((next ∷ decls) ∷ later) is plain so =
    ap (map piece_among) (front_by decl (next ∷ decls) later (is_whole next) (ap (λ b. b || list_any is_whole (next ∷ decls)) plain ∙ so))
    ∙ joins_by decl f next decls later (is_whole next) is (is_made next)

tunnel_joins : (decl : FunctionDecl) (pieces : List (List FunctionDecl)) → is_whole decl ≡ true → map piece_among (in_front is_whole decl pieces) ≡ piece_among (decl ∷ []) ∷ map piece_among pieces
tunnel_joins decl [] whole = refl
tunnel_joins decl (piece ∷ later) whole = ap (map piece_among) (front_by decl piece later true (ap (λ b. b || list_any is_whole piece) whole))

pub is_plain : (whole : Bool) (f : NetFunction) → IsMade whole (made.Function f) → whole ≡ false
is_plain true f is = absurd is
is_plain false f is = refl

pub is_entry : (whole : Bool) (one : Made) → IsMade whole one → IsMade true one → whole ≡ true
is_entry true one is tunnel = refl
is_entry false (made.Function f) is tunnel = absurd tunnel
is_entry false (made.Encap t) is tunnel = absurd is
is_entry false (made.Decap t) is tunnel = absurd is

joins : (decl : FunctionDecl) (pieces : List (List FunctionDecl)) (one : Made) → function_of decl ≡ one → IsMade (is_whole decl) one → IsHeaded pieces →
    map piece_among (in_front is_whole decl pieces) ≡ with_made decl.name one (map piece_among pieces)
joins decl pieces (made.Function f) is so headed = function_joins decl f pieces is (is_plain (is_whole decl) f so) headed
joins decl pieces (made.Encap tunnel) is so headed =
    tunnel_joins decl pieces (is_entry (is_whole decl) (made.Encap tunnel) so tt) ∙ ap (λ one. piece_by one (decl ∷ []) ∷ map piece_among pieces) is
joins decl pieces (made.Decap tunnel) is so headed =
    tunnel_joins decl pieces (is_entry (is_whole decl) (made.Decap tunnel) so tt) ∙ ap (λ one. piece_by one (decl ∷ []) ∷ map piece_among pieces) is

cut_headed : (decls : List FunctionDecl) → IsHeaded (cut is_whole decls)
unfolding cut
cut_headed [] = tt
cut_headed (decl ∷ decls) = headed decl (cut is_whole decls)

pub cut_joined : (decls : List FunctionDecl) → pieces_among decls ≡ joined decls
unfolding cut joined
cut_joined [] = refl
cut_joined (decl ∷ decls) =
    joins decl (cut is_whole decls) (function_of decl) refl (is_made decl) (cut_headed decls) ∙ ap (with_made decl.name (function_of decl)) (cut_joined decls)
