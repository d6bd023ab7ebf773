-- No stage of a graph that the rule makes is empty; each is closed for a cause, and each branch grows for a cause.
use Rattle.std.proofs.Common.{◌≡◌, ◌∙◌, ◌⊎◌, inl, inr, ap, take, Some, ℕ, zero, suc, ◌+◌, ◌<◌, ◌≤◌, Bool, true, false, cond, List, [], ◌∷◌, ◌++◌, length, map, refl, sym, subst, arith, fold}
use Rattle.std.specs.Prelude.{count_by, slice_get, slice_index}
use Rattle.std.specs.List.{list_any, range_with_len, AllByRecursion}
use Rattle.std.proofs.lemmas.Grind.{common_steps}
use Rattle.std.proofs.lemmas.List.{take-append-le}
use Rattle.std.proofs.lemmas.List.Sums.{count_by-le-length}
use Rattle.std.proofs.lemmas.Option.{slice_get_within}
use Rattle.std.proofs.Math.Seq.{take-append_seam}
use Rattle.action_profile.specs.declared.rights.Profile.{Profile}
use Rattle.graph_compile.specs.declared.draft.Draft.{Draft}
use Rattle.graph_compile.specs.declared.graph.Branch.{Branch}
use Rattle.graph_compile.specs.declared.graph.Stage.{Stage}
use Rattle.graph_compile.specs.Causes.{opener, IsClosedForCause, IsJoinedForCause}
use Rattle.graph_compile.specs.Facts.{IsFull}
use Rattle.graph_compile.specs.Stages.{is_forbidden, holds_back, alone, longer, grown, stage_of, placed, placed_by, nothing_placed, all_stages, graph_of}
use Rattle.graph_compile.proofs.Counting.{AllByRecursion-push, AllByRecursion-map, AllByRecursion-weaker}
use Rattle.graph_compile.proofs.FiveFacts.{each-at}

-- each function but the first comes after one that is forbidden before it
abbrev AreJoined : List Profile → List ℕ → Type 0
AreJoined chain qs = (k r : ℕ) → slice_get qs (suc k) ≡ Some r → list_any (λ q. is_forbidden chain q r) (take (suc k) qs) ≡ true

pub record HasFunction (chain : List Profile) (b : Branch) : Type 0 where
  pub some : 0 < length b.positions
  pub joined : AreJoined chain b.positions

pub record IsFilled (chain : List Profile) (s : Stage) : Type 0 where
  pub branches : 0 < length s.branches
  pub functions : AllByRecursion (HasFunction chain) s.branches

alone-filled : (chain : List Profile) (p : ℕ) → HasFunction chain (alone p)
alone-filled chain p = record { some = omega arith; joined = λ k r e. cc }

get-pushed : (qs : List ℕ) (p k r : ℕ) → slice_get (qs ++ p ∷ []) k ≡ Some r → (slice_get qs k ≡ Some r) ⊎ ((k ≡ length qs) × (p ≡ r))
get-pushed [] p zero r e = inr (refl, cc)
get-pushed [] p (suc k) r e = cc
get-pushed (q ∷ qs) p zero r e = inl e
get-pushed (q ∷ qs) p (suc k) r e = elim (get-pushed qs p k r e) [ inl h ↦ inl h | inr h ↦ inr (ap suc h.0, h.1) ]

joined-longer : (chain : List Profile) (qs : List ℕ) (p : ℕ) → AreJoined chain qs → list_any (λ q. is_forbidden chain q p) qs ≡ true → AreJoined chain (qs ++ p ∷ [])
joined-longer chain qs p old held k r e =
    elim (get-pushed qs p (suc k) r e) [
      | inl h ↦
          let inside = slice_get_within qs (suc k) r h in
          let front : take (suc k) (qs ++ p ∷ []) ≡ take (suc k) qs = take-append-le (suc k) qs (p ∷ []) (omega (arith, inside)) in
          rw front (old k r h)
      | inr h ↦
          let front : take (suc k) (qs ++ p ∷ []) ≡ qs = ap (λ n. take n (qs ++ p ∷ [])) h.0 ∙ take-append_seam qs (p ∷ []) in
          rw front (let P : ℕ → Type 0 = λ n. list_any (λ q. is_forbidden chain q n) qs ≡ true in subst P h.1 held)
    ]

-- each stage but the last is closed for a cause
abbrev IsCaused : List Profile → List Stage → Type 0
IsCaused chain [] = Unit {0}
IsCaused chain (s ∷ []) = Unit {0}
IsCaused chain (s ∷ t ∷ stages) = (2 ≤ count_by (holds_back chain (opener t.branches)) s.branches) × IsCaused chain (t ∷ stages)

caused-same : (chain : List Profile) (stages : List Stage) (s t : Stage) → opener s.branches ≡ opener t.branches → IsCaused chain (stages ++ s ∷ []) → IsCaused chain (stages ++ t ∷ [])
caused-same chain [] s t e h = tt
caused-same chain (u ∷ []) s t e h = let P : ℕ → Type 0 = λ q. 2 ≤ count_by (holds_back chain q) u.branches in (subst P e h.0, tt)
caused-same chain (u ∷ v ∷ stages) s t e h = (h.0, caused-same chain (v ∷ stages) s t e h.1)

caused-push : (chain : List Profile) (stages : List Stage) (s t : Stage) → IsCaused chain (stages ++ s ∷ []) → 2 ≤ count_by (holds_back chain (opener t.branches)) s.branches → IsCaused chain ((stages ++ s ∷ []) ++ t ∷ [])
caused-push chain [] s t h l = (l, tt)
caused-push chain (u ∷ []) s t h l = (h.0, (l, tt))
caused-push chain (u ∷ v ∷ stages) s t h l = (h.0, caused-push chain (v ∷ stages) s t h.1 l)

caused-at : (chain : List Profile) (stages : List Stage) → IsCaused chain stages → IsClosedForCause chain stages
caused-at chain [] h i s t e f = cc
caused-at chain (u ∷ []) h zero s t e f = cc
caused-at chain (u ∷ []) h (suc i) s t e f = cc
caused-at chain (u ∷ v ∷ stages) h zero s t e f =
    let a : u ≡ s = cc in
    let b : v ≡ t = cc in
    let P : Stage → Type 0 = λ x. 2 ≤ count_by (holds_back chain (opener v.branches)) x.branches in
    let Q : Stage → Type 0 = λ y. 2 ≤ count_by (holds_back chain (opener y.branches)) s.branches in
    subst Q b (subst P a h.0)
caused-at chain (u ∷ v ∷ stages) h (suc i) s t e f = caused-at chain (v ∷ stages) h.1 i s t e f

-- what stays true while functions are placed
record IsKept (chain : List Profile) (draft : Draft) : Type 0 where
  pub filled : AllByRecursion (IsFilled chain) draft.stages
  pub current : AllByRecursion (HasFunction chain) draft.branches
  pub begun : draft.branches ≡ [] → draft.stages ≡ []
  pub caused : IsCaused chain (draft.stages ++ stage_of chain draft.branches ∷ [])

caused-new : (chain : List Profile) (stages : List Stage) (bs : List Branch) (p : ℕ) → (bs ≡ [] → stages ≡ []) → IsCaused chain (stages ++ stage_of chain bs ∷ []) → IsCaused chain (stages ++ stage_of chain (bs ++ alone p ∷ []) ∷ [])
caused-new chain stages [] p b h =
    let P : List Stage → Type 0 = λ ss. IsCaused chain (ss ++ stage_of chain (alone p ∷ []) ∷ []) in
    subst P (sym (b refl)) tt
caused-new chain stages (c ∷ bs) p b h = caused-same chain stages (stage_of chain (c ∷ bs)) (stage_of chain ((c ∷ bs) ++ alone p ∷ [])) refl h

first-longer : (xs : List ℕ) (p : ℕ) → 0 < length xs → slice_index (xs ++ p ∷ []) 0 ≡ slice_index xs 0
first-longer [] p h = absurd (omega arith)
first-longer (x ∷ xs) p h = refl

opener-grown : (chain : List Profile) (p : ℕ) (bs : List Branch) → AllByRecursion (HasFunction chain) bs → opener bs ≡ opener (map (grown chain p) bs)
opener-grown chain p [] h = refl
opener-grown chain p (b ∷ bs) h = first (holds_back chain p b)
  where
    first : (t : Bool) → slice_index b.positions 0 ≡ slice_index (cond t (longer b p) b).positions 0
    first true = sym (first-longer b.positions p h.0.some)
    first false = refl

filled-grown : (chain : List Profile) (p : ℕ) (b : Branch) → HasFunction chain b → HasFunction chain (grown chain p b)
unfolding holds_back
filled-grown chain p b h =
    elim (holds_back chain p b) as (λ t. holds_back chain p b ≡ t → HasFunction chain (cond t (longer b p) b)) [
      | true ↦ λ e. record { some = let s = h.some in grind (arith, common_steps); joined = joined-longer chain b.positions p h.joined e }
      | false ↦ λ e. h
    ] refl

kept_by : (n : ℕ) (chain : List Profile) (draft : Draft) (p : ℕ) → count_by (holds_back chain p) draft.branches ≡ n → IsKept chain draft → IsKept chain (placed_by n chain draft p)
kept_by zero chain draft p e k = record {
  filled = k.filled;
  current = AllByRecursion-push (HasFunction chain) draft.branches (alone p) k.current (alone-filled chain p);
  begun = λ none. absurd (not_empty draft.branches none);
  caused = caused-new chain draft.stages draft.branches p k.begun k.caused;
}
  where
    not_empty : (bs : List Branch) → bs ++ alone p ∷ [] ≡ [] → ⊥
    not_empty [] e = cc
    not_empty (b ∷ bs) e = cc
kept_by (suc zero) chain draft p e k = record {
  filled = k.filled;
  current = AllByRecursion-map (HasFunction chain) (grown chain p) draft.branches (AllByRecursion-weaker (HasFunction chain) (λ b. HasFunction chain (grown chain p b)) (filled-grown chain p) draft.branches k.current);
  begun = λ none. k.begun (empty draft.branches none);
  caused = caused-same chain draft.stages (stage_of chain draft.branches) (stage_of chain (map (grown chain p) draft.branches)) (opener-grown chain p draft.branches k.current) k.caused;
}
  where
    empty : (bs : List Branch) → map (grown chain p) bs ≡ [] → bs ≡ []
    empty [] e = refl
    empty (b ∷ bs) e = cc
kept_by (suc (suc n)) chain draft p e k = record {
  filled = AllByRecursion-push (IsFilled chain) draft.stages (stage_of chain draft.branches) k.filled (record { branches = let l = count_by-le-length (holds_back chain p) draft.branches in omega (arith, e, l); functions = k.current });
  current = (alone-filled chain p, tt);
  begun = λ none. cc;
  caused = caused-push chain draft.stages (stage_of chain draft.branches) (stage_of chain (alone p ∷ [])) k.caused (omega (arith, e));
}

IsKept-placed : (chain : List Profile) (draft : Draft) (p : ℕ) → IsKept chain draft → IsKept chain (placed chain draft p)
unfolding placed
IsKept-placed chain draft p k = kept_by (count_by (holds_back chain p) draft.branches) chain draft p refl k

IsKept-rest : (chain : List Profile) (draft : Draft) (p n : ℕ) → IsKept chain draft → IsKept chain (fold (placed chain) draft (range_with_len p n))
IsKept-rest chain draft p zero k = k
IsKept-rest chain draft p (suc n) k = IsKept-rest chain (placed chain draft p) (p + 1) n (IsKept-placed chain draft p k)

-- for all stages
record IsSound (chain : List Profile) (stages : List Stage) : Type 0 where
  pub filled : AllByRecursion (IsFilled chain) stages
  pub caused : IsCaused chain stages

IsSound-finished : (chain : List Profile) (stages : List Stage) (bs : List Branch) → IsKept chain (record { stages = stages; branches = bs }) → IsSound chain (all_stages chain stages bs)
IsSound-finished chain stages [] k =
    let P : List Stage → Type 0 = λ ss. IsCaused chain ss in
    record { filled = k.filled; caused = subst P (sym (k.begun refl)) tt }
IsSound-finished chain stages (b ∷ bs) k = record {
  filled = AllByRecursion-push (IsFilled chain) stages (stage_of chain (b ∷ bs)) k.filled (record { branches = omega arith; functions = k.current });
  caused = k.caused;
}

graph-sound : (chain : List Profile) → IsSound chain (graph_of chain).stages
unfolding graph_of
graph-sound chain =
    let draft = fold (placed chain) nothing_placed (range_with_len 1 (length chain)) in
    IsSound-finished chain draft.stages draft.branches (IsKept-rest chain nothing_placed 1 (length chain) (record { filled = tt; current = tt; begun = λ e. refl; caused = tt }))

pub graph-full : (chain : List Profile) → IsFull (graph_of chain)
graph-full chain =
    let s = graph-sound chain in
    record {
      branches = λ i t e. (each-at (IsFilled chain) (graph_of chain).stages s.filled i t e).branches;
      functions = λ i j t b e f. (each-at (HasFunction chain) t.branches (each-at (IsFilled chain) (graph_of chain).stages s.filled i t e).functions j b f).some;
    }

pub graph-caused : (chain : List Profile) → IsClosedForCause chain (graph_of chain).stages
graph-caused chain = caused-at chain (graph_of chain).stages (graph-sound chain).caused

pub graph-joined : (chain : List Profile) → IsJoinedForCause chain (graph_of chain).stages
graph-joined chain i j k s b r e f g =
    (each-at (HasFunction chain) s.branches (each-at (IsFilled chain) (graph_of chain).stages (graph-sound chain).filled i s e).functions j b f).joined k r g
