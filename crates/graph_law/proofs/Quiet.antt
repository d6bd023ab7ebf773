-- A branch of functions without state, of which those that count are quiet, leaves them unchanged, whatever it sees.
use Rattle.std.proofs.Common.{◌≡◌, ◌≢◌, ◌≤◌, ◌+◌, ℕ, List, ◌∷◌, [], map, sym, refl, arith, Bool, true, false, inl, inr}
use Rattle.std.specs.Prelude.{◌⊎◌}
use Rattle.chain_walk.specs.Counting.{IsQuiet}
use Rattle.chain_walk.specs.Laws.{KeepsProfile}
use Rattle.chain_walk.specs.Shown.{Values}
use Rattle.chain_walk.specs.Step.{Behaviour, stepped, is_drop}
use Rattle.chain_walk.specs.declared.fixed.Fixed.{Fixed}
use Rattle.graph_law.specs.Branches.{Version, BranchEnd, BranchEnd.Live, BranchEnd.Nil, Ran, moved_function, moved_end, written_at}
use Rattle.graph_law.proofs.Rights.{Stateless}
use Rattle.graph_law.proofs.Sides.{ran, ran_here, ran_elsewhere, ran_nil, is_or_not, Agree, agree_refl}

-- no drop before position `p`
pub data Late (p : ℕ) : BranchEnd → Type 0 where
  live : (v : Version) → Late p (Live v)
  late : (q : ℕ) → p ≤ q → Late p (Nil q)

late_more : {p : ℕ} {a : BranchEnd} → Late (p + 1) a → Late p a
late_more (live v) = live v
late_more {p} (late q h) = late q (omega arith)

pub record Quiet {F : Type 0} (side : ℕ → ℕ) (c p : ℕ) (fs : List F) (r : Ran F) : Type 0 where
  pub functions : Agree side c p fs r.functions
  pub arrival : Late p r.arrival

-- a function without state stays, whether it counts or not
pub same_after : {F : Type 0} (b : Behaviour F) (fixed : Fixed) (f : F) (v : Values) → KeepsProfile b → IsQuiet b → (b.profile f).state ≡ false → (stepped b fixed f v).after ≡ f
same_after b fixed f v law calm none = go (b.profile f).counts refl
  where
    go : (c : Bool) → (b.profile f).counts ≡ c → (stepped b fixed f v).after ≡ f
    go true is = calm.still fixed f v is
    go false is = law.state fixed f v none is

pub ran_quiet : {F : Type 0} (b : Behaviour F) (fixed : Fixed) (side : ℕ → ℕ) (c p : ℕ) (fs : List F) (v : Version) → KeepsProfile b → IsQuiet b → Stateless side c p (map b.profile fs) → Quiet side c p fs (ran b fixed side c p fs (Live v))
unfolding ran Agree Stateless moved_function moved_end
ran_quiet b fixed side c p [] v law calm h = record { functions = tt; arrival = live v }
ran_quiet b fixed side c p (f ∷ fs) v law calm h = go (is_or_not (side p) c) (is_drop (stepped b fixed f v.values).verdict) refl (λ v. ran_quiet b fixed side c (p + 1) fs v law calm h.1)
  where
    go : (side p ≡ c) ⊎ (side p ≢ c) → (d : Bool) → is_drop (stepped b fixed f v.values).verdict ≡ d → ((v : Version) → Quiet side c (p + 1) fs (ran b fixed side c (p + 1) fs (Live v))) → Quiet side c p (f ∷ fs) (ran b fixed side c p (f ∷ fs) (Live v))
    go (inr ne) d is ih = rw (ran_elsewhere b fixed side c p f fs (Live v) ne) (record { functions = (λ _. refl, (ih v).functions); arrival = late_more (ih v).arrival })
    go (inl e) true is ih = rw (ran_here b fixed side c p f fs (Live v) e, is, ran_nil b fixed side c (p + 1) p fs) (record { functions = (λ _. sym (same_after b fixed f v.values law calm (h.0 e)), agree_refl side c (p + 1) fs); arrival = late p (omega arith) })
    go (inl e) false is ih = rw (ran_here b fixed side c p f fs (Live v) e, is) (let w = ih (written_at p (stepped b fixed f v.values).written v) in record { functions = (λ _. sym (same_after b fixed f v.values law calm (h.0 e)), w.functions); arrival = late_more w.arrival })
