-- The functions of a branch, each in its place.
use Rattle.std.proofs.Common.{◌≡◌, ◌≢◌, ◌∙◌, ◌<◌, ◌≤◌, ◌+◌, ℕ, zero, suc, List, length, get_or, set, ap, refl, sym, subst, arith, inl, inr, length-set}
use Rattle.std.specs.Prelude.{◌⊎◌}
use Rattle.std.proofs.lemmas.List.{get_or-set_other, get_or-set_same, get_or_default}
use Rattle.chain_walk.specs.Step.{Behaviour}
use Rattle.graph_law.specs.Branches.{BranchEnd.Live, moved_function}
use Rattle.graph_run.specs.Carrying.{as_version}
use Rattle.packet_version.specs.Versions.{PlainVersion}
use Rattle.piped_run.specs.Turns.{EachStays, IsOrMoved}

-- The functions before this place are unchanged or after their steps, and the others are unchanged.
pub record StayFrom {F : Type 0} (b : Behaviour F) (first now : List F) (i : ℕ) : Type 0 where
  pub each : EachStays b first now
  pub later : (k : ℕ) (d : F) → i ≤ k → get_or now k d ≡ get_or first k d

pub all_stay : {F : Type 0} (b : Behaviour F) (functions : List F) → EachStays b functions functions
all_stay b functions = record { count = refl; each = λ k d less. inl refl }

pub stay_first : {F : Type 0} (b : Behaviour F) (functions : List F) → StayFrom b functions functions 0
stay_first b functions = record { each = all_stay b functions; later = λ k d le. refl }

same_or_not : (a b : ℕ) → (a ≡ b) ⊎ (a ≢ b)
same_or_not zero zero = inl refl
same_or_not zero (suc b) = inr (λ e. omega arith)
same_or_not (suc a) zero = inr (λ e. omega arith)
same_or_not (suc a) (suc b) = elim (same_or_not a b) [ inl e ↦ inl (ap suc e) | inr ne ↦ inr (λ e. ne (omega arith)) ]

-- the function at this place is replaced
replaced : {F : Type 0} (b : Behaviour F) (first now : List F) (i : ℕ) (f d : F) → StayFrom b first now i → i < length now → IsOrMoved b (get_or now i d) f → EachStays b first (set now i f)
replaced {F} b first now i f d stay inside moved = record {
  count = length-set now i f ∙ stay.each.count;
  each = λ k e less. at k e less (same_or_not k i);
}
  where
    at : (k : ℕ) (e : F) → k < length first → (k ≡ i) ⊎ (k ≢ i) → IsOrMoved b (get_or first k e) (get_or (set now i f) k e)
    at k e less (inl is) =
        let same : get_or now i d ≡ get_or first k e = get_or_default now i d e inside ∙ ap (λ n. get_or now n e) (sym is) ∙ stay.later k e (omega arith) in
        let here : f ≡ get_or (set now i f) k e = sym (get_or-set_same now i f e inside) ∙ ap (λ n. get_or (set now i f) n e) (sym is) in
        subst (IsOrMoved b (get_or first k e)) here (subst (λ g. IsOrMoved b g f) same moved)
    at k e less (inr other) = subst (IsOrMoved b (get_or first k e)) (sym (get_or-set_other now i k f e other)) (stay.each.each k e less)

moved_so : {F : Type 0} (b : Behaviour F) (v : PlainVersion) (was f : F) → f ≡ moved_function b v.fixed was (Live (as_version v)) → IsOrMoved b was f
unfolding moved_function
moved_so b v was f is = inr (v.fixed, (as_version v).values, is)

-- it had its turn
pub stay_moved : {F : Type 0} (b : Behaviour F) (first now : List F) (v : PlainVersion) (i : ℕ) (f d : F) → StayFrom b first now i → i < length now → f ≡ moved_function b v.fixed (get_or now i d) (Live (as_version v)) → EachStays b first (set now i f)
stay_moved b first now v i f d stay inside is = replaced b first now i f d stay inside (moved_so b v (get_or now i d) f is)

pub stay_more : {F : Type 0} (b : Behaviour F) (first now : List F) (v : PlainVersion) (i : ℕ) (f d : F) → StayFrom b first now i → i < length now → f ≡ moved_function b v.fixed (get_or now i d) (Live (as_version v)) → StayFrom b first (set now i f) (i + 1)
stay_more b first now v i f d stay inside is = record {
  each = stay_moved b first now v i f d stay inside is;
  later = λ k e le. get_or-set_other now i k f e (λ same. omega arith) ∙ stay.later k e (omega arith);
}
