-- A branch compared with the walk through all functions of the stage.
use Rattle.std.proofs.Common.{◌≡◌, ◌≢◌, ◌≤◌, ◌+◌, ◌∙◌, ℕ, List, ◌∷◌, [], map, sym, ap, refl, arith, Bool, true, false, inl, inr, if◌then◌else◌}
use Rattle.std.specs.Prelude.{◌⊎◌}
use Rattle.packet_fields.specs.Writing.{over}
use Rattle.packet_fields.specs.declared.field.Field.{Field}
use Rattle.chain_walk.specs.FieldWalk.{End, End.Out, End.Gone, Ended, walk_fields}
use Rattle.chain_walk.specs.Counting.{IsQuiet}
use Rattle.chain_walk.specs.Laws.{KeepsProfile}
use Rattle.chain_walk.specs.Shown.{Values}
use Rattle.chain_walk.specs.Step.{Behaviour, Step, stepped, is_drop}
use Rattle.chain_walk.specs.declared.fixed.Fixed.{Fixed}
use Rattle.graph_law.specs.Branches.{Version, BranchEnd, BranchEnd.Live, BranchEnd.Nil, Ran, moved_function, moved_end, written_at}
use Rattle.graph_law.proofs.Near.{Same, Near, marks, shown_same, near_own, near_other}
use Rattle.graph_law.proofs.Quiet.{Late, Late.live, Late.late, ran_quiet}
use Rattle.graph_law.proofs.Rights.{Reads, Writes, Stateless, Apart}
use Rattle.graph_law.proofs.Sides.{ran, ran_here, ran_elsewhere, ran_nil, is_or_not, Agree, agree_trans}

-- the last writers after the walk
unfoldable pub last_of : {F : Type 0} → Behaviour F → Fixed → ℕ → List F → Values → (Field → ℕ) → Field → ℕ
last_of b fixed p [] values last = last
last_of b fixed p (f ∷ fs) values last =
    if is_drop (stepped b fixed f values).verdict
    then last
    else last_of b fixed (p + 1) fs (over (stepped b fixed f values).written values) (marks p (stepped b fixed f values).written last)

-- Branch c's result fits the walk: if it goes out, a like version; if it drops at p, a drop on side c, or none before.
abbrev pub Meets : (ℕ → ℕ) → ℕ → End → (Field → ℕ) → BranchEnd → Type 0
Meets side c (Out values) last (Live v) = Same side c values last v
Meets side c (Out values) last (Nil q) = ⊥
Meets side c (Gone p) last (Live v) = side p ≢ c
Meets side c (Gone p) last (Nil q) = (p ≤ q) × (side p ≡ c → q ≡ p)

pub record Ends {F : Type 0} (side : ℕ → ℕ) (c p : ℕ) (w : Ended F) (last : Field → ℕ) (r : Ran F) : Type 0 where
  pub functions : Agree side c p w.functions r.functions
  pub arrival : Meets side c w.end last r.arrival

late_meets : (side : ℕ → ℕ) (c p : ℕ) (last : Field → ℕ) (a : BranchEnd) → side p ≢ c → Late (p + 1) a → Meets side c (Gone p) last a
late_meets side c p last (Live v) ne (live _) = ne
late_meets side c p last (Nil q) ne (late _ h) = (omega arith, λ e. absurd (ne e))

-- a drop that the profile doesn't name doesn't happen
declared : (drops does : Bool) → (drops ≡ false → does ≡ false) → does ≡ true → drops ≡ true
declared true does h e = refl
declared false does h e = absurd (let x = h refl in cc)

stateless_agree : {F : Type 0} (b : Behaviour F) (side : ℕ → ℕ) (c p : ℕ) (fs gs : List F) → Agree side c p fs gs → Stateless side c p (map b.profile fs) → Stateless side c p (map b.profile gs)
unfolding Agree Stateless
stateless_agree b side c p [] [] a h = h
stateless_agree b side c p [] (g ∷ gs) a h = absurd a
stateless_agree b side c p (f ∷ fs) [] a h = absurd a
stateless_agree b side c p (f ∷ fs) (g ∷ gs) a h = (λ e. ap (λ y. (b.profile y).state) (sym (a.0 e)) ∙ h.0 e, stateless_agree b side c (p + 1) fs gs a.1 h.1)

pub meets : {F : Type 0} (b : Behaviour F) (fixed : Fixed) (side : ℕ → ℕ) (c p : ℕ) (fs gs : List F) (values : Values) (last : Field → ℕ) (v : Version) →
    KeepsProfile b → IsQuiet b → Apart side p (map b.profile fs) → Agree side c p fs gs → Near side c p (map b.profile fs) values last v →
    Ends side c p (walk_fields b fixed p fs values) (last_of b fixed p fs values last) (ran b fixed side c p gs (Live v))
unfolding Agree Apart walk_fields ran last_of Reads Writes moved_function moved_end
meets b fixed side c p [] [] values last v law calm apart agree n = record { functions = tt; arrival = n.same }
meets b fixed side c p [] (g ∷ gs) values last v law calm apart agree n = absurd agree
meets b fixed side c p (f ∷ fs) [] values last v law calm apart agree n = absurd agree
meets {F} b fixed side c p (f ∷ fs) (g ∷ gs) values last v law calm apart agree n =
    go (is_or_not (side p) c) (is_drop t.verdict) refl (λ values' last' v' n'. meets b fixed side c (p + 1) fs gs values' last' v' law calm apart.1 agree.1 n')
  where
    t : Step F
    t = stepped b fixed f values

    alike : side p ≡ c → stepped b fixed g v.values ≡ t
    alike here = ap (λ y. stepped b fixed y v.values) (sym (agree.0 here)) ∙ ap (b.step f) (shown_same (b.profile f) fixed v.values values (λ x r. n.reads x (inl (here, r))) (λ x r. n.has x (inl (here, r))))

    go : (side p ≡ c) ⊎ (side p ≢ c) → (d : Bool) → is_drop t.verdict ≡ d →
        ((values' : Values) (last' : Field → ℕ) (v' : Version) → Near side c (p + 1) (map b.profile fs) values' last' v' → Ends side c (p + 1) (walk_fields b fixed (p + 1) fs values') (last_of b fixed (p + 1) fs values' last') (ran b fixed side c (p + 1) gs (Live v'))) →
        Ends side c p (walk_fields b fixed p (f ∷ fs) values) (last_of b fixed p (f ∷ fs) values last) (ran b fixed side c p (g ∷ gs) (Live v))
    go (inr ne) true is ih =
        let q = ran_quiet b fixed side c (p + 1) gs v law calm (stateless_agree b side c (p + 1) fs gs agree.1 (apart.0.stateless c ne (declared (b.profile f).drops (is_drop t.verdict) (law.drops fixed f values) is))) in
        rw (is, ran_elsewhere b fixed side c p g gs (Live v) ne) (record { functions = ((λ e. absurd (ne e)), agree_trans side c (p + 1) fs gs _ agree.1 q.functions); arrival = late_meets side c p last _ ne q.arrival })
    go (inr ne) false is ih =
        let e = ih (over t.written values) (marks p t.written last) v (near_other b fixed side c p f (map b.profile fs) values last v law ne (λ x. apart.0.unread c x ne) n) in
        rw (is, ran_elsewhere b fixed side c p g gs (Live v) ne) (record { functions = ((λ e. absurd (ne e)), e.functions); arrival = e.arrival })
    go (inl here) true is ih =
        rw (is, ran_here b fixed side c p g gs (Live v) here, alike here, is, ran_nil b fixed side c (p + 1) p gs) (record { functions = ((λ _. sym (ap (λ y. y.after) (alike here))), agree.1); arrival = (omega arith, λ _. refl) })
    go (inl here) false is ih =
        let e = ih (over t.written values) (marks p t.written last) (written_at p t.written v) (near_own side c p (b.profile f) (map b.profile fs) values t.written last v n) in
        rw (is, ran_here b fixed side c p g gs (Live v) here, alike here, is) (record { functions = ((λ _. sym (ap (λ y. y.after) (alike here))), e.functions); arrival = e.arrival })
