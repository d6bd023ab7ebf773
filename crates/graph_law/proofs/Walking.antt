-- Where a walk ends, and who wrote last.
use Rattle.std.proofs.Common.{◌≡◌, ◌<◌, ◌≤◌, ◌+◌, ◌∙◌, ℕ, List, ◌∷◌, [], length, map, sym, ap, refl, arith, Bool, true, false, Some, None, if◌then◌else◌}
use Rattle.std.specs.Prelude.{Option, is_some}
use Rattle.std.specs.Option.{option_or}
use Rattle.packet_fields.specs.Writing.{over}
use Rattle.packet_fields.specs.declared.field.Field.{Field}
use Rattle.action_profile.specs.Profiles.{writes_of}
use Rattle.chain_walk.specs.FieldWalk.{End.Out, End.Gone, Ended, walk_fields, then_ended}
use Rattle.chain_walk.specs.Laws.{KeepsProfile}
use Rattle.chain_walk.specs.Shown.{Values}
use Rattle.chain_walk.specs.Step.{Behaviour, Step, stepped, is_drop}
use Rattle.chain_walk.specs.declared.fixed.Fixed.{Fixed}
use Rattle.graph_law.specs.Branches.{writer_by}
use Rattle.graph_law.proofs.Meets.{last_of}
use Rattle.graph_law.proofs.Near.{still_there, marks}

-- the function at position `p` steps, and those after it walk on if it passes the packet
abbrev pub then_walk : {F : Type 0} → Behaviour F → Fixed → ℕ → Step F → List F → Values → Bool → Ended F
then_walk b fixed p t fs values drops =
    if drops then record { functions = t.after ∷ fs; end = Gone p } else then_ended t.after (walk_fields b fixed (p + 1) fs (over t.written values))

-- what goes out has the fields that came in
pub walk_there : {F : Type 0} (b : Behaviour F) (fixed : Fixed) (p : ℕ) (fs : List F) (values after : Values) (x : Field) → KeepsProfile b → (walk_fields b fixed p fs values).end ≡ Out after → is_some (after x) ≡ is_some (values x)
unfolding walk_fields
walk_there b fixed p [] values after x law e = let same : values ≡ after = cc in ap (λ v. is_some (v x)) (sym same)
walk_there {F} b fixed p (f ∷ fs) values after x law e = go (is_drop t.verdict) e (λ e. walk_there b fixed (p + 1) fs (over t.written values) after x law e)
  where
    t : Step F
    t = stepped b fixed f values

    go : (d : Bool) → (then_walk b fixed p t fs values d).end ≡ Out after →
        ((walk_fields b fixed (p + 1) fs (over t.written values)).end ≡ Out after → is_some (after x) ≡ is_some (over t.written values x)) → is_some (after x) ≡ is_some (values x)
    go true e ih = absurd cc
    go false e ih = ih e ∙ still_there (t.written x) (values x) (writes_of (b.profile f) x) (law.writes fixed f values x)

-- the function that drops is among those walked
pub walk_gone : {F : Type 0} (b : Behaviour F) (fixed : Fixed) (p : ℕ) (fs : List F) (values : Values) (q : ℕ) → (walk_fields b fixed p fs values).end ≡ Gone q → (p ≤ q) × (q < p + length fs)
unfolding walk_fields
walk_gone b fixed p [] values q e = absurd cc
walk_gone {F} b fixed p (f ∷ fs) values q e = go (is_drop t.verdict) e (λ e. walk_gone b fixed (p + 1) fs (over t.written values) q e)
  where
    t : Step F
    t = stepped b fixed f values

    go : (d : Bool) → (then_walk b fixed p t fs values d).end ≡ Gone q →
        ((walk_fields b fixed (p + 1) fs (over t.written values)).end ≡ Gone q → (p + 1 ≤ q) × (q < p + 1 + length fs)) → (p ≤ q) × (q < p + length (f ∷ fs))
    go true e ih = let same : p ≡ q = cc in (omega arith, omega arith)
    go false e ih = let h = ih e in let low = h.0 in let high = h.1 in (omega arith, omega arith)

pub length_walk : {F : Type 0} (b : Behaviour F) (fixed : Fixed) (p : ℕ) (fs : List F) (values : Values) → length (walk_fields b fixed p fs values).functions ≡ length fs
unfolding walk_fields
length_walk b fixed p [] values = refl
length_walk {F} b fixed p (f ∷ fs) values = go (is_drop t.verdict) (length_walk b fixed (p + 1) fs (over t.written values))
  where
    t : Step F
    t = stepped b fixed f values

    go : (d : Bool) → length (walk_fields b fixed (p + 1) fs (over t.written values)).functions ≡ length fs → length (then_walk b fixed p t fs values d).functions ≡ length (f ∷ fs)
    go true ih = refl
    go false ih = omega arith

-- the profiles stay
pub walk_keeps : {F : Type 0} (b : Behaviour F) (fixed : Fixed) (p : ℕ) (fs : List F) (values : Values) → KeepsProfile b → map b.profile (walk_fields b fixed p fs values).functions ≡ map b.profile fs
unfolding walk_fields
walk_keeps b fixed p [] values law = refl
walk_keeps {F} b fixed p (f ∷ fs) values law = go (is_drop t.verdict) (walk_keeps b fixed (p + 1) fs (over t.written values) law)
  where
    t : Step F
    t = stepped b fixed f values

    stays : b.profile t.after ≡ b.profile f
    stays = law.stays fixed f values

    go : (d : Bool) → map b.profile (walk_fields b fixed (p + 1) fs (over t.written values)).functions ≡ map b.profile fs → map b.profile (then_walk b fixed p t fs values d).functions ≡ b.profile f ∷ map b.profile fs
    go true ih = ap (λ q. q ∷ map b.profile fs) stays
    go false ih = (λ i. stays i ∷ ih i)

marked_within : (new : Option (List ℕ)) (low p n : ℕ) → low ≤ p → (0 < n → (low ≤ n) × (n < p)) → 0 < writer_by new p n → (low ≤ writer_by new p n) × (writer_by new p n < p + 1)
marked_within None low p n l h s = let a = h s in let below = a.0 in let above = a.1 in (below, omega arith)
marked_within (Some y) low p n l h s = (l, omega arith)

-- the last writer is among the functions walked
pub last_within : {F : Type 0} (b : Behaviour F) (fixed : Fixed) (low p : ℕ) (fs : List F) (values : Values) (last : Field → ℕ) (x : Field) → low ≤ p → (0 < last x → (low ≤ last x) × (last x < p)) → 0 < last_of b fixed p fs values last x →
    (low ≤ last_of b fixed p fs values last x) × (last_of b fixed p fs values last x < p + length fs)
unfolding last_of
last_within b fixed low p [] values last x l h some = let a = h some in let below = a.0 in let above = a.1 in (omega arith, omega arith)
last_within {F} b fixed low p (f ∷ fs) values last x l h some = go (is_drop t.verdict) (λ h. last_within b fixed low (p + 1) fs (over t.written values) marked x (omega arith) h) some
  where
    t : Step F
    t = stepped b fixed f values

    marked : Field → ℕ
    marked = marks p t.written last

    next : Field → ℕ
    next = last_of b fixed (p + 1) fs (over t.written values) marked

    go : (d : Bool) → ((0 < marked x → (low ≤ marked x) × (marked x < p + 1)) → 0 < next x → (low ≤ next x) × (next x < p + 1 + length fs)) →
        0 < (if d then last else next) x → (low ≤ (if d then last else next) x) × ((if d then last else next) x < p + length (f ∷ fs))
    go true ih some = let a = h some in let below = a.0 in let above = a.1 in (below, omega arith)
    go false ih some = let a = ih (marked_within (t.written x) low p (last x) l h) some in let above = a.1 in (a.0, omega arith)

unmarked : (new old first : Option (List ℕ)) (p n : ℕ) → 0 < p → (n ≡ 0 → old ≡ first) → writer_by new p n ≡ 0 → option_or new old ≡ first
unmarked None old first p n pos h e = h e
unmarked (Some y) old first p n pos h e = absurd (omega arith)

-- a field that no function wrote is unchanged
pub untouched : {F : Type 0} (b : Behaviour F) (fixed : Fixed) (p : ℕ) (fs : List F) (first values after : Values) (last : Field → ℕ) → 0 < p → ((x : Field) → last x ≡ 0 → values x ≡ first x) →
    (walk_fields b fixed p fs values).end ≡ Out after → (x : Field) → last_of b fixed p fs values last x ≡ 0 → after x ≡ first x
unfolding walk_fields last_of
untouched b fixed p [] first values after last pos h e x none = let same : values ≡ after = cc in ap (λ v. v x) (sym same) ∙ h x none
untouched {F} b fixed p (f ∷ fs) first values after last pos h e x none =
    go (is_drop t.verdict) (λ h e none. untouched b fixed (p + 1) fs first (over t.written values) after (marks p t.written last) (omega arith) h e x none) e none
  where
    t : Step F
    t = stepped b fixed f values

    go : (d : Bool) →
        (((y : Field) → marks p t.written last y ≡ 0 → over t.written values y ≡ first y) → (walk_fields b fixed (p + 1) fs (over t.written values)).end ≡ Out after → last_of b fixed (p + 1) fs (over t.written values) (marks p t.written last) x ≡ 0 → after x ≡ first x) →
        (then_walk b fixed p t fs values d).end ≡ Out after → (if d then last else last_of b fixed (p + 1) fs (over t.written values) (marks p t.written last)) x ≡ 0 → after x ≡ first x
    go true ih e none = absurd cc
    go false ih e none = ih (λ y. unmarked (t.written y) (values y) (first y) p (last y) pos (h y)) e none
