-- The stages that a packet reaches, and the copies that are made there.
use Rattle.std.proofs.Common.{◌≡◌, ◌∙◌, ◌<◌, ◌≤◌, ◌+◌, ℕ, zero, suc, Bool, true, false, List, [], ◌∷◌, ◌++◌, take, drop, sym, ap, refl, arith}
use Rattle.std.specs.Prelude.{if◌then◌else◌, ◌||◌, Some, slice_get}
use Rattle.std.specs.List.{list_any}
use Rattle.std.proofs.lemmas.List.Sums.{sum_by-cons}
use Rattle.std.proofs.lemmas.Option.{slice_get_past}
use Rattle.packet_fields.specs.declared.field.Field.{Field}
use Rattle.action_profile.specs.Modes.{copies}
use Rattle.action_profile.specs.declared.rights.Profile.{Profile}
use Rattle.chain_walk.specs.FieldWalk.{End, End.Out, End.Gone, fate_by}
use Rattle.chain_walk.specs.declared.walk.Fate.{Fate}
use Rattle.chain_walk.specs.declared.walk.Fate.TheVariants as fates
use Rattle.graph_compile.specs.Facts.{IsLawful, IsFull}
use Rattle.graph_compile.specs.Positions.{stands}
use Rattle.graph_compile.specs.declared.graph.Graph.{Graph}
use Rattle.graph_compile.specs.declared.graph.Stage.{Stage}
use Rattle.graph_compile.proofs.FiveFacts.{lawful-rises}
use Rattle.graph_run.specs.Counting.{reached, copies_in}

-- a packet that is gone was dropped in none of this number of stages
abbrev pub NotIn : ℕ → List Stage → ℕ → Type 0
NotIn i stages p = (k : ℕ) (s : Stage) → k < i → slice_get stages k ≡ Some s → stands p s ≡ false

cut_out : (stages : List Stage) (i : ℕ) (frame : List ℕ) → reached stages (fates.Out frame) ≡ take i stages ++ reached (drop i stages) (fates.Out frame)
cut_out stages zero frame = refl
cut_out [] (suc i) frame = refl
cut_out (s ∷ later) (suc i) frame = ap (λ l. s ∷ l) (cut_out later i frame)

cut_gone : (stages : List Stage) (i p : ℕ) → NotIn i stages p → reached stages (fates.Gone p) ≡ take i stages ++ reached (drop i stages) (fates.Gone p)
cut_gone stages zero p none = refl
cut_gone [] (suc i) p none = refl
cut_gone (s ∷ later) (suc i) p none =
    ap (λ (t : Bool). s ∷ (if t then [] else reached later (fates.Gone p))) (none 0 s (omega arith) refl)
    ∙ ap (λ l. s ∷ l) (cut_gone later i p (λ k t less is. none (suc k) t (omega arith) is))

-- if a list has one, one is at some place
some_at : (p : ℕ) (stages : List Stage) → list_any (stands p) stages ≡ true → (j : ℕ) × (t : Stage) × (slice_get stages j ≡ Some t) × (stands p t ≡ true)
some_at p [] e = absurd cc
some_at p (s ∷ later) e = by_test (λ none. some_at p later (sym (ap (λ (t : Bool). t || list_any (stands p) later) none) ∙ e)) (stands p s) refl
  where
    shift : ((j : ℕ) × (t : Stage) × (slice_get later j ≡ Some t) × (stands p t ≡ true)) → (j : ℕ) × (t : Stage) × (slice_get (s ∷ later) j ≡ Some t) × (stands p t ≡ true)
    shift (j, t, at, is) = (suc j, t, at, is)

    by_test : (stands p s ≡ false → (j : ℕ) × (t : Stage) × (slice_get later j ≡ Some t) × (stands p t ≡ true)) → (t : Bool) → stands p s ≡ t → (j : ℕ) × (t : Stage) × (slice_get (s ∷ later) j ≡ Some t) × (stands p t ≡ true)
    by_test more true is = (0, s, refl, is)
    by_test more false is = shift (more is)

get_drop : {A : Type 0} (xs : List A) (i j : ℕ) → slice_get (drop i xs) j ≡ slice_get xs (i + j)
get_drop xs zero j = ap (slice_get xs) (omega arith)
get_drop [] (suc i) j = sym (slice_get_past {X = _} [] (suc i + j) (omega arith))
get_drop (x ∷ xs) (suc i) j = get_drop xs i j ∙ ap (slice_get (x ∷ xs)) (let e : suc (i + j) ≡ suc i + j = omega arith in e)

-- a packet that was dropped in a later stage was dropped in none before
pub not_in : (graph : Graph) (chain : List Profile) (i p : ℕ) → IsFull graph → IsLawful graph chain → list_any (stands p) (drop i graph.stages) ≡ true → NotIn i graph.stages p
not_in graph chain i p full lawful some = λ k s less at. by_test k s less at (some_at p (drop i graph.stages) some) (stands p s) refl
  where
    by_test : (k : ℕ) (s : Stage) → k < i → slice_get graph.stages k ≡ Some s → ((j : ℕ) × (t : Stage) × (slice_get (drop i graph.stages) j ≡ Some t) × (stands p t ≡ true)) → (b : Bool) → stands p s ≡ b → stands p s ≡ false
    by_test k s less at later false is = is
    by_test k s less at later true is =
        absurd (let l : p < p = lawful-rises graph chain full lawful k (i + later.0) s later.1 (omega arith) at (sym (get_drop graph.stages i later.0) ∙ later.2) p p is later.3 in omega arith)

-- so the stages that it reaches are those before, and those from there on that it reaches
pub reached_cut : (graph : Graph) (chain : List Profile) (i : ℕ) (frame : List ℕ) (end : End) → IsFull graph → IsLawful graph chain → ((p : ℕ) → end ≡ Gone p → list_any (stands p) (drop i graph.stages) ≡ true) →
    reached graph.stages (fate_by frame end) ≡ take i graph.stages ++ reached (drop i graph.stages) (fate_by frame end)
reached_cut graph chain i frame (Out values) full lawful later = cut_out graph.stages i _
reached_cut graph chain i frame (Gone p) full lawful later = cut_gone graph.stages i p (not_in graph chain i p full lawful (later p refl))

pub copies_append : (xs ys : List Stage) (f : Field) → copies_in (xs ++ ys) f ≡ copies_in xs f + copies_in ys f
copies_append [] ys f = omega arith
copies_append (x ∷ xs) ys f = let more = copies_append xs ys f in let one = sum_by-cons (λ s. copies s.parts f) x (xs ++ ys) in let two = sum_by-cons (λ s. copies s.parts f) x xs in plus _ _ _ _ _ _ one two more
  where
    plus : (all here rest front tail both : ℕ) → all ≡ here + rest → front ≡ here + tail → rest ≡ tail + both → all ≡ front + both
    plus all here rest front tail both a b c = omega arith

-- at least the first remaining stage is reached
pub first_reached : (s : Stage) (later : List Stage) (fate : Fate) (f : Field) → copies s.parts f ≤ copies_in (reached (s ∷ later) fate) f
first_reached s later (fates.Out frame) f = let one = sum_by-cons (λ s. copies s.parts f) s (reached later (fates.Out frame)) in bound _ _ _ one
  where
    bound : (all here rest : ℕ) → all ≡ here + rest → here ≤ all
    bound all here rest e = omega arith
first_reached s later (fates.Gone p) f = let one = sum_by-cons (λ s. copies s.parts f) s (if stands p s then [] else reached later (fates.Gone p)) in bound _ _ _ one
  where
    bound : (all here rest : ℕ) → all ≡ here + rest → here ≤ all
    bound all here rest e = omega arith

-- if it is dropped there, it reaches no other
pub last_reached : (s : Stage) (later : List Stage) (p : ℕ) → stands p s ≡ true → reached (s ∷ later) (fates.Gone p) ≡ s ∷ []
last_reached s later p is = ap (λ (t : Bool). s ∷ (if t then [] else reached later (fates.Gone p))) is
