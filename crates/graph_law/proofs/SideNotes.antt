-- The notes of a branch, compared with those of the walk through all functions of the stage.
use Rattle.std.proofs.Common.{◌≡◌, ◌≢◌, ◌<◌, ◌≤◌, ◌+◌, ◌∙◌, ℕ, suc, List, ◌∷◌, [], length, map, sym, ap, refl, arith, Bool, true, false, None, inl, inr, if◌then◌else◌, eq-eqb, ne_eqb}
use Rattle.std.specs.Prelude.{Option, ◌⊎◌, ◌==◌, nat_lt}
use Rattle.std.proofs.lemmas.Bool.Decides.{nat_tests}
use Rattle.packet_fields.specs.Writing.{over}
use Rattle.packet_fields.specs.declared.field.Field.{Field}
use Rattle.action_profile.specs.declared.parts.Touch.{Touch}
use Rattle.chain_walk.specs.FieldWalk.{End, End.Out, End.Gone, walk_fields}
use Rattle.chain_walk.specs.Laws.{KeepsProfile}
use Rattle.chain_walk.specs.Notes.{Notes, noted}
use Rattle.chain_walk.specs.Shown.{Values}
use Rattle.chain_walk.specs.Step.{Behaviour, Step, stepped, is_drop}
use Rattle.chain_walk.specs.declared.fixed.Fixed.{Fixed}
use Rattle.graph_law.specs.Branches.{Version, BranchEnd, BranchEnd.Live, BranchEnd.Nil, Ran, dealt, moved_end, written_at}
use Rattle.graph_law.specs.BranchNotes.{noted_of, gone_before, kept}
use Rattle.graph_law.specs.NotedWalk.{walk_notes}
use Rattle.graph_law.proofs.Near.{Near, marks, shown_same, near_own, near_other}
use Rattle.graph_law.proofs.Rights.{Reads, Writes, Apart, AllTouched}
use Rattle.graph_law.proofs.Seams.{places, places_here, places_elsewhere}
use Rattle.graph_law.proofs.Sides.{ran, is_or_not, Agree, agree_trans, ran_others, length_ran}
use Rattle.graph_law.proofs.Staging.{near_dealt}
use Rattle.graph_law.proofs.Walking.{then_walk, walk_gone}

-- the notes of the functions of branch `c`, among those from position `p` on
unfoldable pub side_notes : {F N : Type 0} → Behaviour F → Notes F N → Fixed → (ℕ → ℕ) → ℕ → ℕ → List F → BranchEnd → List (Option N)
side_notes b notes fixed side c p [] a = []
side_notes b notes fixed side c p (f ∷ fs) a =
    if side p == c
    then noted_of b notes fixed f a ∷ side_notes b notes fixed side c (p + 1) fs (moved_end b fixed p f a)
    else side_notes b notes fixed side c (p + 1) fs a

-- what is on side `c`, from position `p` on
unfoldable pub picked : {A : Type 0} → (ℕ → ℕ) → ℕ → ℕ → List A → List A
picked side c p [] = []
picked side c p (x ∷ xs) = if side p == c then x ∷ picked side c (p + 1) xs else picked side c (p + 1) xs

pub side_here : {F N : Type 0} (b : Behaviour F) (notes : Notes F N) (fixed : Fixed) (side : ℕ → ℕ) (c p : ℕ) (f : F) (fs : List F) (a : BranchEnd) → side p ≡ c →
    side_notes b notes fixed side c p (f ∷ fs) a ≡ noted_of b notes fixed f a ∷ side_notes b notes fixed side c (p + 1) fs (moved_end b fixed p f a)
unfolding side_notes
side_here b notes fixed side c p f fs a e = rw (eq-eqb (side p) c e) refl

pub side_elsewhere : {F N : Type 0} (b : Behaviour F) (notes : Notes F N) (fixed : Fixed) (side : ℕ → ℕ) (c p : ℕ) (f : F) (fs : List F) (a : BranchEnd) → side p ≢ c →
    side_notes b notes fixed side c p (f ∷ fs) a ≡ side_notes b notes fixed side c (p + 1) fs a
unfolding side_notes
side_elsewhere b notes fixed side c p f fs a ne = rw (ne_eqb (side p) c ne) refl

pub picked_here : {A : Type 0} (side : ℕ → ℕ) (c p : ℕ) (x : A) (xs : List A) → side p ≡ c → picked side c p (x ∷ xs) ≡ x ∷ picked side c (p + 1) xs
unfolding picked
picked_here side c p x xs e = rw (eq-eqb (side p) c e) refl

pub picked_elsewhere : {A : Type 0} (side : ℕ → ℕ) (c p : ℕ) (x : A) (xs : List A) → side p ≢ c → picked side c p (x ∷ xs) ≡ picked side c (p + 1) xs
unfolding picked
picked_elsewhere side c p x xs ne = rw (ne_eqb (side p) c ne) refl

-- the notes of a branch that are settled, one function further
kept_here : {F N : Type 0} (b : Behaviour F) (notes : Notes F N) (fixed : Fixed) (side : ℕ → ℕ) (c p : ℕ) (gone : ℕ → Bool) (f : F) (fs : List F) (a : BranchEnd) → side p ≡ c →
    kept gone (places side c p (suc (length fs))) (side_notes b notes fixed side c p (f ∷ fs) a)
    ≡ (if gone p then None else noted_of b notes fixed f a) ∷ kept gone (places side c (p + 1) (length fs)) (side_notes b notes fixed side c (p + 1) fs (moved_end b fixed p f a))
unfolding kept
kept_here b notes fixed side c p gone f fs a e = λ i. kept gone (places_here side c p (length fs) e i) (side_here b notes fixed side c p f fs a e i)

kept_elsewhere : {F N : Type 0} (b : Behaviour F) (notes : Notes F N) (fixed : Fixed) (side : ℕ → ℕ) (c p : ℕ) (gone : ℕ → Bool) (f : F) (fs : List F) (a : BranchEnd) → side p ≢ c →
    kept gone (places side c p (suc (length fs))) (side_notes b notes fixed side c p (f ∷ fs) a) ≡ kept gone (places side c (p + 1) (length fs)) (side_notes b notes fixed side c (p + 1) fs a)
kept_elsewhere b notes fixed side c p gone f fs a ne = λ i. kept gone (places_elsewhere side c p (length fs) ne i) (side_elsewhere b notes fixed side c p f fs a ne i)

none_where : {N : Type 0} (c : Bool) (o : Option N) → c ≡ true → (if c then None else o) ≡ None
none_where true o e = refl
none_where false o e = absurd cc

some_where : {N : Type 0} (c : Bool) (o : Option N) → c ≡ false → (if c then None else o) ≡ o
some_where true o e = absurd cc
some_where false o e = refl

-- nothing is settled for a packet that is dropped before all these functions
kept_gone : {F N : Type 0} (b : Behaviour F) (notes : Notes F N) (fixed : Fixed) (side : ℕ → ℕ) (c p : ℕ) (gone : ℕ → Bool) (fs gs : List F) (a : BranchEnd) → Agree side c p fs gs →
    ((q : ℕ) → p ≤ q → q < p + length fs → gone q ≡ true) →
    kept gone (places side c p (length gs)) (side_notes b notes fixed side c p gs a) ≡ picked side c p (map (λ f. None) fs)
unfolding Agree kept side_notes picked
kept_gone b notes fixed side c p gone [] [] a agree all = refl
kept_gone b notes fixed side c p gone [] (g ∷ gs) a agree all = absurd agree
kept_gone b notes fixed side c p gone (f ∷ fs) [] a agree all = absurd agree
kept_gone {F} {N} b notes fixed side c p gone (f ∷ fs) (g ∷ gs) a agree all =
    go (is_or_not (side p) c) (λ a. kept_gone b notes fixed side c (p + 1) gone fs gs a agree.1 (λ q low high. all q (omega arith) (omega arith)))
  where
    go : (side p ≡ c) ⊎ (side p ≢ c) →
        ((a : BranchEnd) → kept gone (places side c (p + 1) (length gs)) (side_notes b notes fixed side c (p + 1) gs a) ≡ picked side c (p + 1) (map (λ f. None) fs)) →
        kept gone (places side c p (suc (length gs))) (side_notes b notes fixed side c p (g ∷ gs) a) ≡ picked side c p (None ∷ map (λ f. None) fs)
    go (inl e) ih = kept_here b notes fixed side c p gone g gs a e
        ∙ (λ i. none_where (gone p) (noted_of b notes fixed g a) (all p (omega arith) (omega arith)) i ∷ ih (moved_end b fixed p g a) i)
        ∙ sym (picked_here side c p None (map (λ f. None) fs) e)
    go (inr ne) ih = kept_elsewhere b notes fixed side c p gone g gs a ne ∙ ih a ∙ sym (picked_elsewhere side c p None (map (λ f. None) fs) ne)

lt_true : (m n : ℕ) → m < n → nat_lt m n ≡ true
lt_true m n l = grind (arith, nat_tests)

lt_false : (m n : ℕ) → n ≤ m → nat_lt m n ≡ false
lt_false m n l = grind (arith, nat_tests)

-- no walk ends in a drop before it begins
pub begun : {F : Type 0} (b : Behaviour F) (fixed : Fixed) (p : ℕ) (fs : List F) (values : Values) (q : ℕ) → q ≤ p → gone_before (walk_fields b fixed p fs values).end q ≡ false
begun b fixed p fs values q low = go (walk_fields b fixed p fs values).end (walk_gone b fixed p fs values)
  where
    go : (end : End) → ((d : ℕ) → end ≡ Gone d → (p ≤ d) × (d < p + length fs)) → gone_before end q ≡ false
    go (Out after) within = refl
    go (Gone d) within = let l = (within d refl).0 in lt_false d q (omega arith)

-- the notes of a branch that are settled are those of the walk
pub notes_meet : {F N : Type 0} (b : Behaviour F) (notes : Notes F N) (fixed : Fixed) (side : ℕ → ℕ) (c p : ℕ) (gone : ℕ → Bool) (fs gs : List F) (values : Values) (last : Field → ℕ) (v : Version) →
    KeepsProfile b → Apart side p (map b.profile fs) → Agree side c p fs gs → Near side c p (map b.profile fs) values last v →
    ((q : ℕ) → p ≤ q → q < p + length fs → gone q ≡ gone_before (walk_fields b fixed p fs values).end q) →
    kept gone (places side c p (length gs)) (side_notes b notes fixed side c p gs (Live v)) ≡ picked side c p (walk_notes b notes fixed fs values)
unfolding Agree Apart walk_fields walk_notes kept side_notes picked Reads Writes moved_end noted_of
notes_meet b notes fixed side c p gone [] [] values last v law apart agree n all = refl
notes_meet b notes fixed side c p gone [] (g ∷ gs) values last v law apart agree n all = absurd agree
notes_meet b notes fixed side c p gone (f ∷ fs) [] values last v law apart agree n all = absurd agree
notes_meet {F} {N} b notes fixed side c p gone (f ∷ fs) (g ∷ gs) values last v law apart agree n all =
    go (is_or_not (side p) c) (is_drop t.verdict) refl all (λ last' v' n' all'. notes_meet b notes fixed side c (p + 1) gone fs gs (over t.written values) last' v' law apart.1 agree.1 n' all')
  where
    t : Step F
    t = stepped b fixed f values

    rest : List (Option N)
    rest = walk_notes b notes fixed fs (over t.written values)

    alike : side p ≡ c → stepped b fixed g v.values ≡ t
    alike here = ap (λ y. stepped b fixed y v.values) (sym (agree.0 here)) ∙ ap (b.step f) (shown_same (b.profile f) fixed v.values values (λ x r. n.reads x (inl (here, r))) (λ x r. n.has x (inl (here, r))))

    noted_alike : side p ≡ c → noted b notes fixed g v.values ≡ noted b notes fixed f values
    noted_alike here = ap (λ y. noted b notes fixed y v.values) (sym (agree.0 here))
        ∙ ap (λ s. if (b.profile f).counts then notes.look f s else None) (shown_same (b.profile f) fixed v.values values (λ x r. n.reads x (inl (here, r))) (λ x r. n.has x (inl (here, r))))

    moved_alike : side p ≡ c → is_drop t.verdict ≡ false → moved_end b fixed p g (Live v) ≡ Live (written_at p t.written v)
    moved_alike here is = ap (λ s. if is_drop s.verdict then Nil p else Live (written_at p s.written v)) (alike here) ∙ ap (λ d. if d then Nil p else Live (written_at p t.written v)) is

    go : (side p ≡ c) ⊎ (side p ≢ c) → (d : Bool) → is_drop t.verdict ≡ d →
        ((q : ℕ) → p ≤ q → q < p + length (f ∷ fs) → gone q ≡ gone_before (then_walk b fixed p t fs values d).end q) →
        ((last' : Field → ℕ) (v' : Version) → Near side c (p + 1) (map b.profile fs) (over t.written values) last' v' →
        ((q : ℕ) → p + 1 ≤ q → q < p + 1 + length fs → gone q ≡ gone_before (walk_fields b fixed (p + 1) fs (over t.written values)).end q) →
        kept gone (places side c (p + 1) (length gs)) (side_notes b notes fixed side c (p + 1) gs (Live v')) ≡ picked side c (p + 1) rest) →
        kept gone (places side c p (suc (length gs))) (side_notes b notes fixed side c p (g ∷ gs) (Live v)) ≡ picked side c p (noted b notes fixed f values ∷ (if d then map (λ h. None) fs else rest))
    go (inr ne) true is all ih =
        kept_elsewhere b notes fixed side c p gone g gs (Live v) ne
        ∙ kept_gone b notes fixed side c (p + 1) gone fs gs (Live v) agree.1 (λ q low high. all q (omega arith) (omega arith) ∙ lt_true p q (omega arith))
        ∙ sym (picked_elsewhere side c p (noted b notes fixed f values) (map (λ h. None) fs) ne)
    go (inr ne) false is all ih =
        kept_elsewhere b notes fixed side c p gone g gs (Live v) ne
        ∙ ih (marks p t.written last) v (near_other b fixed side c p f (map b.profile fs) values last v law ne (λ x. apart.0.unread c x ne) n) (λ q low high. all q (omega arith) (omega arith))
        ∙ sym (picked_elsewhere side c p (noted b notes fixed f values) rest ne)
    go (inl here) true is all ih =
        kept_here b notes fixed side c p gone g gs (Live v) here
        ∙ (λ i. (some_where (gone p) (noted b notes fixed g v.values) (all p (omega arith) (omega arith) ∙ lt_false p p (omega arith)) ∙ noted_alike here) i
        ∷ kept_gone b notes fixed side c (p + 1) gone fs gs (moved_end b fixed p g (Live v)) agree.1 (λ q low high. all q (omega arith) (omega arith) ∙ lt_true p q (omega arith)) i)
        ∙ sym (picked_here side c p (noted b notes fixed f values) (map (λ h. None) fs) here)
    go (inl here) false is all ih =
        kept_here b notes fixed side c p gone g gs (Live v) here
        ∙ (λ i. (some_where (gone p) (noted b notes fixed g v.values) (all p (omega arith) (omega arith) ∙ begun b fixed (p + 1) fs (over t.written values) p (omega arith)) ∙ noted_alike here) i
        ∷ kept gone (places side c (p + 1) (length gs)) (side_notes b notes fixed side c (p + 1) gs (moved_alike here is i)))
        ∙ ap (λ l. noted b notes fixed f values ∷ l) (ih (marks p t.written last) (written_at p t.written v) (near_own side c p (b.profile f) (map b.profile fs) values t.written last v n) (λ q low high. all q (omega arith) (omega arith)))
        ∙ sym (picked_here side c p (noted b notes fixed f values) rest here)

-- the branches from branch `c` on
unfoldable pub sides_notes : {F N : Type 0} → Behaviour F → Notes F N → Fixed → (ℕ → ℕ) → ℕ → ℕ → List Touch → Values → List F → List (List (Option N))
sides_notes b notes fixed side c p [] values fs = []
sides_notes b notes fixed side c p (t ∷ touches) values fs =
    side_notes b notes fixed side c p fs (dealt t values) ∷ sides_notes b notes fixed side (c + 1) p touches values (ran b fixed side c p fs (dealt t values)).functions

unfoldable pub kept_sides : {N : Type 0} → (ℕ → Bool) → (ℕ → ℕ) → ℕ → ℕ → ℕ → List (List (Option N)) → List (List (Option N))
kept_sides gone side c p n [] = []
kept_sides gone side c p n (row ∷ rows) = kept gone (places side c p n) row ∷ kept_sides gone side (c + 1) p n rows

unfoldable pub all_picked : {A : Type 0} → (ℕ → ℕ) → ℕ → ℕ → List Touch → List A → List (List A)
all_picked side c p [] xs = []
all_picked side c p (t ∷ touches) xs = picked side c p xs ∷ all_picked side (c + 1) p touches xs

pub all_notes_meet : {F N : Type 0} (b : Behaviour F) (notes : Notes F N) (fixed : Fixed) (side : ℕ → ℕ) (c p : ℕ) (gone : ℕ → Bool) (touches : List Touch) (fs gs : List F) (values : Values) →
    KeepsProfile b → Apart side p (map b.profile fs) → AllTouched side c p (map b.profile fs) touches → 0 < p → ((d : ℕ) → c ≤ d → Agree side d p fs gs) →
    ((q : ℕ) → p ≤ q → q < p + length fs → gone q ≡ gone_before (walk_fields b fixed p fs values).end q) →
    kept_sides gone side c p (length gs) (sides_notes b notes fixed side c p touches values gs) ≡ all_picked side c p touches (walk_notes b notes fixed fs values)
unfolding sides_notes kept_sides all_picked AllTouched
all_notes_meet b notes fixed side c p gone [] fs gs values law apart touched pos agree all = refl
all_notes_meet {F} b notes fixed side c p gone (t ∷ touches) fs gs values law apart touched pos agree all =
    let r : Ran F = ran b fixed side c p gs (dealt t values) in
    let here = notes_meet b notes fixed side c p gone fs gs values (λ x. 0) _ law apart (agree c (omega arith)) (near_dealt side c p (map b.profile fs) t values pos touched.0) all in
    let ih = all_notes_meet b notes fixed side (c + 1) p gone touches fs r.functions values law apart touched.1 pos
    (λ d l. agree_trans side d p fs gs _ (agree d (omega arith)) (ran_others b fixed side c d p gs (dealt t values) (λ x. omega arith))) all in
    let size : length gs ≡ length r.functions = sym (length_ran b fixed side c p gs (dealt t values)) in
    (λ i. here i ∷ kept_sides gone side (c + 1) p (size i) (sides_notes b notes fixed side (c + 1) p touches values r.functions))
    ∙ ap (λ l. picked side c p (walk_notes b notes fixed fs values) ∷ l) ih
