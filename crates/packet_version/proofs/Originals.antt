-- The original goes to the first branch that writes the field, and each later one gets a copy.
use Rattle.std.proofs.Common.{◌≡◌, ◌∙◌, ◌<◌, ◌≤◌, ◌+◌, ◌-◌, ℕ, zero, suc, Bool, true, false, List, [], ◌∷◌, ◌++◌, map, take, drop, sym, ap, refl, get_or, length, set, arith, length-drop, add-one}
use Rattle.std.specs.Prelude.{if◌then◌else◌, Option, Some, None, option_map, IfSome, position}
use Rattle.std.proofs.lemmas.Option.{same_Some}
use Rattle.std.proofs.lemmas.List.{take_all, drop_all}
use borrow.Rule.Slice.PartMut.{put_mid, mid_of}
use Rattle.packet_fields.specs.declared.field.Field.{Field}
use Rattle.action_profile.specs.Modes.{has_write}
use Rattle.packet_version.specs.Parts.{PlainPart, Parts, unwritten}
use Rattle.packet_version.specs.Splitting.{fresh}
use Rattle.packet_version.specs.Versions.{PlainVersion, with_part}
use Rattle.packet_version.specs.Handing.{copied_to, copied_some, lent_to, with_loan, reads_more, writers_in, touches_in}
use Rattle.packet_version.proofs.Firsts.{NoneOf, IsFirst, count-first, first_below, first-map, first-position}
use Rattle.packet_version.proofs.Modal.{no_touch}
use Rattle.packet_version.proofs.Mapping.{append_nil}

-- the versions after each branch after the first got its copy
abbrev pub behind : Field → PlainPart → ℕ → List PlainVersion → List PlainVersion
behind f p i vs = take (suc i) vs ++ map (copied_to f p) (drop (suc i) vs)

-- a branch that doesn't write the field, and one that does
stays : (f : Field) (p : PlainPart) (v : PlainVersion) → has_write f v.touch ≡ false → copied_to f p v ≡ v
stays f p v writes = ap (λ (b : Bool). if b then with_part f (Some (unwritten p)) v else v) writes

gets : (f : Field) (p : PlainPart) (v : PlainVersion) → has_write f v.touch ≡ true → copied_to f p v ≡ with_part f (Some (unwritten p)) v
gets f p v writes = ap (λ (b : Bool). if b then with_part f (Some (unwritten p)) v else v) writes

set_first : (f : Field) (p : PlainPart) (vs : List PlainVersion) (i : ℕ) (y d : PlainVersion) → IsFirst (λ v. has_write f v.touch) i vs → y ≡ with_part f (Some (unwritten p)) (get_or (behind f p i vs) i d) → set (behind f p i vs) i y ≡ map (copied_to f p) vs
set_first f p [] i y d first is = absurd first
set_first f p (v ∷ vs) zero y d first is = ap (λ x. x ∷ map (copied_to f p) vs) (is ∙ sym (gets f p v first))
set_first f p (v ∷ vs) (suc i) y d first is =
    ap (λ x. x ∷ set (behind f p i vs) i y) (sym (stays f p v first.0)) ∙ ap (λ xs. copied_to f p v ∷ xs) (set_first f p vs i y d first.1 is)

-- what a loan of the versions after the first leaves
behind_is : (f : Field) (p : PlainPart) (i : ℕ) (vs later : List PlainVersion) → i < length vs → later ≡ map (copied_to f p) (mid_of (i + 1) (length vs - (i + 1)) vs) → put_mid (i + 1) (length vs - (i + 1)) vs later ≡ behind f p i vs
behind_is f p i vs later below is =
    let n = length vs - (i + 1) in
    let long : length (drop (i + 1) vs) ≤ n = omega (arith, length-drop (i + 1) vs) in
    let made : later ≡ map (copied_to f p) (drop (i + 1) vs) = is ∙ ap (λ xs. map (copied_to f p) xs) (take_all n (drop (i + 1) vs) long) in
    ap (λ xs. take (i + 1) vs ++ (later ++ xs)) (drop_all n (drop (i + 1) vs) long)
    ∙ (ap (λ xs. take (i + 1) vs ++ xs) (append_nil later ∙ made) ∙ ap (λ k. take k vs ++ map (copied_to f p) (drop k vs)) (add-one i))

pub original_given : (f : Field) (p : PlainPart) (i : ℕ) (vs later : List PlainVersion) (y d : PlainVersion) → IsFirst (λ v. has_write f v.touch) i vs → later ≡ map (copied_to f p) (mid_of (i + 1) (length vs - (i + 1)) vs) → y ≡ with_part f (Some (unwritten p)) (get_or (put_mid (i + 1) (length vs - (i + 1)) vs later) i d) → set (put_mid (i + 1) (length vs - (i + 1)) vs later) i y ≡ map (copied_to f p) vs
original_given f p i vs later y d first is made =
    let same = behind_is f p i vs later (first_below (λ v. has_write f v.touch) vs i first) is in
    ap (λ xs. set xs i y) same ∙ set_first f p vs i y d first (made ∙ ap (λ xs. with_part f (Some (unwritten p)) (get_or xs i d)) same)

-- the copies that a loan of the versions after the first makes
pub writers_behind : (f : Field) (i : ℕ) (vs : List PlainVersion) → IsFirst (λ v. has_write f v.touch) i vs → writers_in f (mid_of (i + 1) (length vs - (i + 1)) vs) ≡ writers_in f vs - 1
writers_behind f i vs first =
    let n = length vs - (i + 1) in
    let long : length (drop (i + 1) vs) ≤ n = omega (arith, length-drop (i + 1) vs) in
    let all = count-first (λ v. has_write f v.touch) vs i first in
    ap (λ xs. writers_in f xs) (take_all n (drop (i + 1) vs) long) ∙ (ap (λ k. writers_in f (drop k vs)) (add-one i) ∙ omega arith)

-- copies of a part are those of its bytes with its room
pub copies_alike : (f : Field) (p : PlainPart) (spare : ℕ) (bytes : List ℕ) (vs : List PlainVersion) → bytes ≡ p.bytes → p.room ≡ length p.bytes + spare → map (copied_to f (fresh spare bytes)) vs ≡ map (copied_to f p) vs
copies_alike f p spare bytes vs is room =
    ap (λ (q : PlainPart). map (copied_to f q) vs) (ap (λ (b : List ℕ). fresh spare b) is ∙ ap (λ (n : ℕ). let q : PlainPart = record { bytes = p.bytes; writer = 0; room = n } in q) (sym room))

-- the first branch that writes the field
pub first_there : (f : Field) (vs : List PlainVersion) (i : ℕ) → position (has_write f) (touches_in vs) ≡ Some i → IsFirst (λ v. has_write f v.touch) i vs
first_there f vs i place = first-map (has_write f) (λ v. v.touch) vs i (first-position (has_write f) (touches_in vs) i no_touch place)

-- a part that no branch writes goes to none
pub none_copied : (f : Field) (o : Option PlainPart) (vs : List PlainVersion) → NoneOf (λ v. has_write f v.touch) vs → vs ≡ map (copied_some f o) vs
none_copied f o [] none = refl
none_copied f o (v ∷ vs) none = ap (λ x. x ∷ vs) (sym (one o)) ∙ ap (λ xs. copied_some f o v ∷ xs) (none_copied f o vs none.1)
  where
    one : (p : Option PlainPart) → copied_some f p v ≡ v
    one None = refl
    one (Some p) = stays f p v none.0

-- nor does an absent one
pub absent_copied : (f : Field) (o : Option PlainPart) (vs : List PlainVersion) → o ≡ None → vs ≡ map (copied_some f o) vs
absent_copied f o vs none = sym (ap (λ (p : Option PlainPart). map (copied_some f p) vs) none ∙ same vs)
  where
    same : (ws : List PlainVersion) → map (copied_some f None) ws ≡ ws
    same [] = refl
    same (w ∷ ws) = ap (λ xs. w ∷ xs) (same ws)

first_writes : (f : Field) (p : PlainPart) (vs : List PlainVersion) (i : ℕ) (d : PlainVersion) → IsFirst (λ v. has_write f v.touch) i vs → has_write f (get_or (behind f p i vs) i d).touch ≡ true
first_writes f p [] i d first = absurd first
first_writes f p (v ∷ vs) zero d first = first
first_writes f p (v ∷ vs) (suc i) d first = first_writes f p vs i d first.1

-- the first branch that writes the field does so after the copies
pub original_writes : (f : Field) (p : PlainPart) (i : ℕ) (vs later : List PlainVersion) (d : PlainVersion) → IsFirst (λ v. has_write f v.touch) i vs → later ≡ map (copied_to f p) (mid_of (i + 1) (length vs - (i + 1)) vs) → has_write f (get_or (put_mid (i + 1) (length vs - (i + 1)) vs later) i d).touch ≡ true
original_writes f p i vs later d first is =
    ap (λ (xs : List PlainVersion). has_write f (get_or xs i d).touch) (behind_is f p i vs later (first_below (λ v. has_write f v.touch) vs i first) is) ∙ first_writes f p vs i d first

-- if no branch reads more than it writes, no loan is made
pub none_lent : (parts : Parts) (vs : List PlainVersion) → NoneOf (λ v. reads_more v.touch) vs → vs ≡ map (lent_to parts) vs
none_lent parts [] none = refl
none_lent parts (v ∷ vs) none = ap (λ xs. v ∷ xs) (none_lent parts vs none.1) ∙ ap (λ (b : Bool). (if b then with_loan parts v else v) ∷ map (lent_to parts) vs) (sym none.0)

-- a part whose bytes were read is given with those bytes
pub some_copied : (f : Field) (o : Option PlainPart) (bytes : List ℕ) (spare : ℕ) (vs : List PlainVersion) → Some bytes ≡ option_map (λ p. p.bytes) o → IfSome o (λ p. p.room ≡ length p.bytes + spare) → map (copied_to f (fresh spare bytes)) vs ≡ map (copied_some f o) vs
some_copied f None bytes spare vs read room = absurd (cc)
some_copied f (Some p) bytes spare vs read room = copies_alike f p spare bytes vs (same_Some bytes p.bytes read) room

-- and one that wasn't there is absent
pub none_read : (o : Option PlainPart) → None ≡ option_map (λ p. p.bytes) o → o ≡ None
none_read None read = refl
none_read (Some p) read = absurd (cc)
