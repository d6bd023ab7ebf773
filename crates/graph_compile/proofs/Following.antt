-- Stages that follow each other.
use Rattle.std.proofs.Common.{◌≡◌, ℕ, ◌+◌, ◌≤◌, List, [], ◌∷◌, ◌++◌, refl, sym, subst, arith}
use Rattle.action_profile.specs.declared.rights.Profile.{Profile}
use Rattle.graph_compile.specs.declared.graph.Stage.{Stage}
use Rattle.graph_compile.specs.Lawful.{size, IsLawfulStage, IsStaged}

pub IsStaged-le : (chain : List Profile) (first : ℕ) (stages : List Stage) (next : ℕ) → IsStaged chain first stages next → first ≤ next
unfolding IsStaged
IsStaged-le chain first [] next h = omega (arith, h)
IsStaged-le chain first (s ∷ stages) next h = omega (arith, IsStaged-le chain (first + size s.branches) stages next h.1)

-- one stage more
pub IsStaged-push : (chain : List Profile) (first : ℕ) (stages : List Stage) (next : ℕ) (s : Stage) → IsStaged chain first stages next → IsLawfulStage chain next s → IsStaged chain first (stages ++ s ∷ []) (next + size s.branches)
unfolding IsStaged
IsStaged-push chain first [] next s h l =
    let P : ℕ → Type 0 = λ n. IsLawfulStage chain n s × ((n + size s.branches) ≡ (next + size s.branches)) in
    subst P (sym h) (l, refl)
IsStaged-push chain first (t ∷ stages) next s h l = (h.0, IsStaged-push chain (first + size t.branches) stages next s h.1 l)
