-- What the mode of a field says about the branches.
use Rattle.std.proofs.Common.{◌≡◌, ◌∙◌, ℕ, Bool, true, false, List, sym, ap, refl}
use Rattle.std.specs.Prelude.{if◌then◌else◌, count_by, position, Option, Some, None, ◌||◌, ◌&&◌, not, ◌==◌}
use Rattle.std.specs.List.{list_any}
use Rattle.std.specs.Option.{option_map_or}
use Rattle.std.proofs.lemmas.Bool.{false≢true}
use Rattle.std.proofs.lemmas.Bool.Decides.{Decides-eqb}
use Rattle.packet_fields.specs.declared.field.Field.{Field}
use Rattle.action_profile.specs.FieldSets.{has}
use Rattle.action_profile.specs.Modes.{has_write, has_touch, only_reads, written_mode, mode_of}
use Rattle.action_profile.specs.declared.parts.Mode.TheVariants.{Shared, Moved, Copied}
use Rattle.action_profile.specs.declared.parts.Touch.{Touch}
use Rattle.packet_version.proofs.Firsts.{NoneOf, first-position, none-any, alone, none-position}

pub by_position : (ts : List Touch) (f : Field) (o : Option ℕ) → position (has_write f) ts ≡ o → mode_of ts f ≡ option_map_or (written_mode ts f) o Shared
unfolding mode_of
by_position ts f o is = ap (λ (p : Option ℕ). option_map_or (written_mode ts f) p Shared) is

never_shared : (b : Bool) (k : ℕ) (o : Option ℕ) → (if b then Moved k else Copied o) ≡ Shared → ⊥
never_shared true k o e = cc
never_shared false k o e = cc

-- no branch writes a field that is shared
pub shared_unwritten : (ts : List Touch) (f : Field) → Shared ≡ mode_of ts f → NoneOf (has_write f) ts
shared_unwritten ts f is = by_place (position (has_write f) ts) refl
  where
    by_place : (o : Option ℕ) → position (has_write f) ts ≡ o → NoneOf (has_write f) ts
    by_place None place = none-position (has_write f) ts place
    by_place (Some k) place = absurd (never_shared (count_by (has_touch f) ts == 1) k (if list_any (only_reads f) ts then None else Some k) (sym (by_position ts f (Some k) place) ∙ sym is))

-- what is known about a field that some branch writes and whose original goes to a branch
pub record IsGiven (ts : List Touch) (f : Field) (first : ℕ) : Type 0 where
  pub place : position (has_write f) ts ≡ Some first
  pub alone : NoneOf (only_reads f) ts

touch_of : (r w : Bool) → w ≡ true → (r || w) ≡ true
touch_of true w e = refl
touch_of false w e = e

own_of : (r w : Bool) → w ≡ true → (r && not w) ≡ false
own_of true true e = refl
own_of true false e = absurd (false≢true e)
own_of false w e = refl

other_of : (r w : Bool) → (r || w) ≡ false → (r && not w) ≡ false
other_of true w e = absurd (false≢true (sym e))
other_of false w e = refl

moved_test : (b : Bool) (k first : ℕ) (o : Option ℕ) → (if b then Moved k else Copied o) ≡ Moved first → (b ≡ true) × (k ≡ first)
moved_test true k first o e = (refl, cc)
moved_test false k first o e = absurd (cc)

-- touches nothing
abbrev pub no_touch : Touch
no_touch = record { reads = record { 0 = 0 }; writes = record { 0 = 0 } }

pub moved_given : (ts : List Touch) (f : Field) (first : ℕ) → Moved first ≡ mode_of ts f → IsGiven ts f first × (count_by (has_touch f) ts ≡ 1)
moved_given ts f first is = by_place (position (has_write f) ts) refl
  where
    by_place : (o : Option ℕ) → position (has_write f) ts ≡ o → IsGiven ts f first × (count_by (has_touch f) ts ≡ 1)
    by_place None place = absurd (let e : Moved first ≡ Shared = is ∙ by_position ts f None place in cc)
    by_place (Some k) place =
        let m = moved_test (count_by (has_touch f) ts == 1) k first (if list_any (only_reads f) ts then None else Some k) (sym (by_position ts f (Some k) place) ∙ sym is) in
        let one : count_by (has_touch f) ts ≡ 1 = (Decides-eqb (count_by (has_touch f) ts) 1).0 m.0 in (
          record {
            place = place ∙ ap (λ (n : ℕ). Some n) m.1;
            alone = alone (has_write f) (has_touch f) (only_reads f) (λ t. touch_of (has t.reads f) (has t.writes f)) (λ t. own_of (has t.reads f) (has t.writes f)) (λ t. other_of (has t.reads f) (has t.writes f)) ts k (first-position (has_write f) ts k no_touch place) one;
          },
          one,
        )

copied_test : (b c : Bool) (k first : ℕ) → (if b then Moved k else Copied (if c then None else Some k)) ≡ Copied (Some first) → (c ≡ false) × (k ≡ first)
copied_test true c k first e = absurd (cc)
copied_test false true k first e = absurd (cc)
copied_test false false k first e = (refl, cc)

pub copied_given : (ts : List Touch) (f : Field) (first : ℕ) → Copied (Some first) ≡ mode_of ts f → IsGiven ts f first × (list_any (only_reads f) ts ≡ false)
copied_given ts f first is = by_place (position (has_write f) ts) refl
  where
    by_place : (o : Option ℕ) → position (has_write f) ts ≡ o → IsGiven ts f first × (list_any (only_reads f) ts ≡ false)
    by_place None place = absurd (let e : Copied (Some first) ≡ Shared = is ∙ by_position ts f None place in cc)
    by_place (Some k) place =
        let m = copied_test (count_by (has_touch f) ts == 1) (list_any (only_reads f) ts) k first (sym (by_position ts f (Some k) place) ∙ sym is) in
        (record { place = place ∙ ap (λ (n : ℕ). Some n) m.1; alone = none-any (only_reads f) ts m.0 }, m.0)

lent_test : (b c : Bool) (k : ℕ) → (if b then Moved k else Copied (if c then None else Some k)) ≡ Copied None → c ≡ true
lent_test true c k e = absurd (cc)
lent_test false true k e = refl
lent_test false false k e = absurd (cc)

-- some branch only reads a field that is copied beside a lease
pub copied_lent : (ts : List Touch) (f : Field) → Copied None ≡ mode_of ts f → list_any (only_reads f) ts ≡ true
copied_lent ts f is = by_place (position (has_write f) ts) refl
  where
    by_place : (o : Option ℕ) → position (has_write f) ts ≡ o → list_any (only_reads f) ts ≡ true
    by_place None place = absurd (let e : Copied None ≡ Shared = is ∙ by_position ts f None place in cc)
    by_place (Some k) place = lent_test (count_by (has_touch f) ts == 1) (list_any (only_reads f) ts) k (sym (by_position ts f (Some k) place) ∙ sym is)
