-- The graph that the rule makes is lawful.
use Rattle.std.proofs.Common.{◌≡◌, ℕ, zero, suc, ◌+◌, List, [], ◌∷◌, ◌++◌, length, refl, sym, subst, arith, fold, Result, Ok, Err}
use Rattle.std.specs.Prelude.{count_by, IfOk}
use Rattle.std.specs.List.{range_with_len}
use Rattle.action_profile.specs.declared.rights.Profile.{Profile}
use Rattle.graph_compile.specs.declared.draft.Draft.{Draft}
use Rattle.graph_compile.specs.declared.graph.Branch.{Branch}
use Rattle.graph_compile.specs.declared.graph.Stage.{Stage}
use Rattle.graph_compile.specs.Lawful.{Stands, IsStaged}
use Rattle.graph_compile.specs.Stages.{holds_back, stage_of, placed, placed_by, nothing_placed, all_stages, graph_of}
use Rattle.graph_compile.proofs.Following.{IsStaged-push}
use Rattle.graph_compile.proofs.BranchesInOrder.{Stands-new, Stands-alone, Stands-grown}
use Rattle.graph_compile.proofs.Testing.{IsLawfulStage-made}

-- the closed stages follow each other, and the open one comes after them, up to the next position
pub record IsMade (chain : List Profile) (draft : Draft) (next : ℕ) : Type 0 where
  pub first : ℕ
  pub closed : IsStaged chain 1 draft.stages first
  pub current : Stands chain first next draft.branches

IsMade-nothing : (chain : List Profile) → IsMade chain nothing_placed 1
unfolding IsStaged
IsMade-nothing chain = record {
  first = 1;
  closed = refl;
  current = record { count = refl; rise = tt; end = tt; once = λ q l h. absurd (omega arith); join = tt };
}

-- the open stage is closed
pub IsStaged-closed : (chain : List Profile) (stages : List Stage) (first next : ℕ) (bs : List Branch) → IsStaged chain 1 stages first → Stands chain first next bs → IsStaged chain 1 (stages ++ stage_of chain bs ∷ []) next
IsStaged-closed chain stages first next bs closed s =
    let P : ℕ → Type 0 = λ n. IsStaged chain 1 (stages ++ stage_of chain bs ∷ []) n in
    subst P s.count (IsStaged-push chain 1 stages first (stage_of chain bs) closed (IsLawfulStage-made chain first next bs s))

made_by : (n : ℕ) (chain : List Profile) (draft : Draft) (next : ℕ) → count_by (holds_back chain next) draft.branches ≡ n → IsMade chain draft next → IsMade chain (placed_by n chain draft next) (next + 1)
made_by zero chain draft next e m = record { first = m.first; closed = m.closed; current = Stands-new chain m.first next draft.branches m.current e }
made_by (suc zero) chain draft next e m = record { first = m.first; closed = m.closed; current = Stands-grown chain m.first next draft.branches m.current e }
made_by (suc (suc n)) chain draft next e m = record { first = next; closed = IsStaged-closed chain draft.stages m.first next draft.branches m.closed m.current; current = Stands-alone chain next }

IsMade-placed : (chain : List Profile) (draft : Draft) (next : ℕ) → IsMade chain draft next → IsMade chain (placed chain draft next) (next + 1)
unfolding placed
IsMade-placed chain draft next m = made_by (count_by (holds_back chain next) draft.branches) chain draft next refl m

IsMade-rest : (chain : List Profile) (draft : Draft) (next n : ℕ) → IsMade chain draft next → IsMade chain (fold (placed chain) draft (range_with_len next n)) (next + n)
IsMade-rest chain draft next zero m = let P : ℕ → Type 0 = λ k. IsMade chain draft k in subst P (omega arith) m
IsMade-rest chain draft next (suc n) m =
    let P : ℕ → Type 0 = λ k. IsMade chain (fold (placed chain) draft (range_with_len next (suc n))) k in
    let same : next + 1 + n ≡ next + suc n = omega arith in
    subst P same (IsMade-rest chain (placed chain draft next) (next + 1) n (IsMade-placed chain draft next m))

pub IsStaged-finished : (chain : List Profile) (stages : List Stage) (first next : ℕ) (bs : List Branch) → IsStaged chain 1 stages first → Stands chain first next bs → IsStaged chain 1 (all_stages chain stages bs) next
IsStaged-finished chain stages first next [] closed s =
    let P : ℕ → Type 0 = λ n. IsStaged chain 1 stages n in
    let end : first ≡ next = let n = s.count in omega (arith, n) in
    subst P end closed
IsStaged-finished chain stages first next (b ∷ bs) closed s = IsStaged-closed chain stages first next (b ∷ bs) closed s

pub graph-staged : (chain : List Profile) → IsStaged chain 1 (graph_of chain).stages (suc (length chain))
unfolding graph_of
graph-staged chain =
    let m = IsMade-rest chain nothing_placed 1 (length chain) (IsMade-nothing chain) in
    let draft = fold (placed chain) nothing_placed (range_with_len 1 (length chain)) in
    let P : ℕ → Type 0 = λ n. IsStaged chain 1 (all_stages chain draft.stages draft.branches) n in
    let end : 1 + length chain ≡ suc (length chain) = omega arith in
    subst P end (IsStaged-finished chain draft.stages m.first (1 + length chain) draft.branches m.closed m.current)

-- what holds for a value holds for an answer that equals it
pub if_ok-same : {T E : Type 0} (r : Result T E) (x : T) (P : T → Type 0) → IfOk r (λ y. y ≡ x) → P x → IfOk r P
if_ok-same (Ok y) x P e p = subst P (sym e) p
if_ok-same (Err e) x P h p = tt
