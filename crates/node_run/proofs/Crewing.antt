-- The nodes of a crew, turn by turn, and at the end.
use Rattle.std.proofs.Common.{◌≡◌, ◌<◌, ◌+◌, ◌∙◌, ℕ, zero, suc, List, [], ◌∷◌, ◌++◌, length, ap, refl, sym, subst, arith, Bool, false, All, append_assoc}
use Rattle.std.specs.Prelude.{Option, Some, None, option_to_list, slice_index_or, slice_set}
use Rattle.std.proofs.lemmas.List.{append-nil}
use Rattle.std.proofs.lemmas.List.Elements.{All-nil, All-cons, All-head, All-tail, All-weaker}
use Rattle.packet_fields.specs.declared.field.Field.{Field}
use Rattle.packet_version.specs.Tallies.{count_of, raised}
use Rattle.packet_version.specs.Versions.{PlainVersion}
use Rattle.stage_nodes.specs.Streams.{Kit}
use Rattle.node_run.specs.declared.crew.CrewDone.{CrewDone}
use Rattle.node_run.specs.declared.node.Done.{Done}
use Rattle.node_run.specs.declared.node.Node.{Node}
use Rattle.node_run.specs.Crews.{CrewKeeps, HaveTurned, KeepsAll, KeepsMore, made_by_all}
use Rattle.node_run.specs.Nodes.{HasTurned, Keeps, added, copies_by, copies_by_all, gather, is_ample, is_going, is_ready, left_by, made_by}
use Rattle.node_run.specs.Runs.{flat}
use Rattle.node_run.proofs.Turning.{made_first, ready_going}
use Rattle.node_run.proofs.Wiring.{copies_append, gather_append}

-- turn by turn

pub none_turned : {F : Type 0} (k : Kit F) (may : F → ℕ → PlainVersion → Type 0) (ns new : List (Node F)) → new ≡ ns → All (is_going k may) ns → HaveTurned k may ns new
none_turned k may ns new e g = record {
  going = subst (All (is_going k may)) (sym e) g;
  owe = λ w. record { ample = subst (All is_ample) e w; functions = ap (gather k) e; copies = λ f. ap (made_by_all f) e };
}

pub more_turned : {F : Type 0} (k : Kit F) (may : F → ℕ → PlainVersion → Type 0) (a b c : List (Node F)) → HaveTurned k may a b → HaveTurned k may b c → HaveTurned k may a c
more_turned k may a b c g h = record {
  going = h.going;
  owe = λ w.
      let o = h.owe w in
      let p = g.owe o.ample in record { ample = p.ample; functions = o.functions ∙ p.functions; copies = λ f. o.copies f ∙ p.copies f };
}

-- one node has turned

pub one_turned : {F : Type 0} (k : Kit F) (may : F → ℕ → PlainVersion → Type 0) (ns : List (Node F)) (i : ℕ) (d n : Node F) → i < length ns → All (is_going k may) ns
    → HasTurned k may (slice_index_or ns i d) n → HaveTurned k may ns (slice_set ns i n)
unfolding gather made_by_all
one_turned k may [] i d n lt g h = absurd (omega (arith, lt))
one_turned k may (x ∷ ns) zero d n lt g h = record {
  going = All-cons (is_going k may) n ns h.going (All-tail (is_going k may) x ns g);
  owe = λ w.
      let o = h.owes (All-head is_ample n ns w) in record {
        ample = All-cons is_ample x ns o.ample (All-tail is_ample n ns w);
        functions = ap (λ y. added y (gather k ns)) o.functions;
        copies = λ f. ap (λ y. y + made_by_all f ns) (o.copies f);
      };
}
one_turned k may (x ∷ ns) (suc i) d n lt g h =
    let r = one_turned k may ns i d n (omega (arith, lt)) (All-tail (is_going k may) x ns g) h in
    let new = slice_set ns i n in record {
      going = All-cons (is_going k may) x new (All-head (is_going k may) x ns g) r.going;
      owe = λ w.
          let o = r.owe (All-tail is_ample x new w) in record {
            ample = All-cons is_ample x ns (All-head is_ample x new w) o.ample;
            functions = ap (added (left_by k x)) o.functions;
            copies = λ f. ap (λ y. made_by f x + y) (o.copies f);
          };
    }

-- at the end

pub record AreEnding {F : Type 0} (k : Kit F) (may : F → ℕ → PlainVersion → Type 0) (all todo : List (Node F)) (functions : List F) (tally : List ℕ) (short : Bool) : Type 0 where
  pub going : All (is_going k may) todo
  pub ample : short ≡ false → All is_ample todo → All is_ample all
  pub gives : short ≡ false → functions ++ gather k todo ≡ gather k all
  pub counted : short ≡ false → (f : Field) → raised (count_of tally f) (made_by_all f todo) ≡ raised 0 (made_by_all f all)

pub none_ended : {F : Type 0} (k : Kit F) (may : F → ℕ → PlainVersion → Type 0) (all todo : List (Node F)) (functions : List F) (tally : List ℕ) (short : Bool)
    → todo ≡ all → functions ≡ [] → ((f : Field) → count_of tally f ≡ 0) → All (is_going k may) all → AreEnding k may all todo functions tally short
none_ended k may all todo functions tally short t e n g = record {
  going = subst (All (is_going k may)) (sym t) g;
  ample = λ w a. subst (All is_ample) t a;
  gives = λ w. ap (λ y. y ++ gather k todo) e ∙ ap (gather k) t;
  counted = λ w f. ap (λ y. raised y (made_by_all f todo)) (n f) ∙ ap (λ y. raised 0 (made_by_all f y)) t;
}

pub next_going : {F : Type 0} (k : Kit F) (may : F → ℕ → PlainVersion → Type 0) (all was todo : List (Node F)) (n : Node F) (functions : List F) (tally : List ℕ) (short : Bool)
    → AreEnding k may all was functions tally short → was ≡ n ∷ todo → is_going k may n
next_going k may all was todo n functions tally short h t = All-head (is_going k may) n todo (subst (All (is_going k may)) t h.going)

pub added_before : {F : Type 0} (f : Option F) (fs : List F) → added f [] ++ fs ≡ added f fs
added_before None fs = refl
added_before (Some f) fs = refl

pub raised_on : (t a b : ℕ) → raised (raised t a) b ≡ raised t (a + b)
raised_on t a b = omega arith

pub one_ended : {F : Type 0} (k : Kit F) (may : F → ℕ → PlainVersion → Type 0) (all was todo : List (Node F)) (n : Node F) (done : Done F) (functions functions' : List F) (tally tally' : List ℕ) (short short' : Bool)
    → AreEnding k may all was functions tally short → was ≡ n ∷ todo → Keeps k n done → (short' ≡ false → (short ≡ false) × KeepsMore done functions functions' tally tally')
    → AreEnding k may all todo functions' tally' short'
unfolding gather made_by_all
one_ended k may all was todo n done functions functions' tally tally' short short' h t keeps more = record {
  going = All-tail (is_going k may) n todo (subst (All (is_going k may)) t h.going);
  ample = λ w a.
      let m = more w in h.ample m.0 (subst (All is_ample) (sym t) (All-cons is_ample n todo (keeps m.1.short).ample a));
  gives = λ w.
      let m = more w in
      let rest = gather k todo in
      ap (λ y. y ++ rest) m.1.gives ∙ append_assoc functions (added done.function []) rest ∙ ap (λ y. functions ++ y) (added_before done.function rest)
      ∙ ap (λ y. functions ++ added y rest) (keeps m.1.short).functions ∙ ap (λ y. functions ++ gather k y) (sym t) ∙ h.gives m.0;
  counted = λ w f.
      let m = more w in
      let rest = made_by_all f todo in
      ap (λ y. raised y rest) (m.1.counted f ∙ ap (raised (count_of tally f)) ((keeps m.1.short).copies f))
      ∙ raised_on (count_of tally f) (made_by f n) rest
      ∙ ap (λ y. raised (count_of tally f) (made_by_all f y)) (sym t)
      ∙ h.counted m.0 f;
}

pub raised_none : (t : ℕ) → raised t 0 ≡ t
raised_none t = omega arith

pub all_ended : {F : Type 0} (k : Kit F) (may : F → ℕ → PlainVersion → Type 0) (all todo : List (Node F)) (functions : List F) (tally : List ℕ) (short : Bool)
    → AreEnding k may all todo functions tally short → todo ≡ [] → KeepsAll k all functions tally short
unfolding gather made_by_all
all_ended k may all todo functions tally short h t w = record {
  ample = h.ample w (subst (All is_ample) (sym t) (All-nil is_ample));
  gives = sym (append-nil functions) ∙ ap (λ y. functions ++ gather k y) (sym t) ∙ h.gives w;
  counted = λ f. sym (raised_none (count_of tally f)) ∙ ap (λ y. raised (count_of tally f) (made_by_all f y)) (sym t) ∙ h.counted w f;
}

-- a whole crew

pub all_going : {F : Type 0} (k : Kit F) (may : F → ℕ → PlainVersion → Type 0) (ns : List (Node F)) → All (is_ready k may) ns → All (is_going k may) ns
all_going k may ns r = All-weaker (is_ready k may) (is_going k may) (ready_going k may) ns r

pub raised_both : (a b x y : ℕ) → a ≡ raised 0 b → raised 0 x ≡ raised 0 y → raised 0 (a + x) ≡ raised 0 (b + y)
raised_both a b x y e h = omega arith

all_made : {F : Type 0} (k : Kit F) (may : F → ℕ → PlainVersion → Type 0) (f : Field) (ns : List (Node F)) → All (is_ready k may) ns → raised 0 (made_by_all f ns) ≡ raised 0 (copies_by_all f ns)
unfolding made_by_all copies_by_all
all_made k may f [] r = refl
all_made k may f (n ∷ ns) r =
    raised_both (made_by f n) (copies_by f n) (made_by_all f ns) (copies_by_all f ns) (made_first k may f n (All-head (is_ready k may) n ns r)) (all_made k may f ns (All-tail (is_ready k may) n ns r))

pub crew_kept : {F : Type 0} (k : Kit F) (may : F → ℕ → PlainVersion → Type 0) (old new : List (Node F)) (done : CrewDone F)
    → All (is_ready k may) old → HaveTurned k may old new → KeepsAll k new done.functions.items done.tally done.short → CrewKeeps k old done
crew_kept k may old new done r h keeps w =
    let all = keeps w in
    let o = h.owe all.ample in record {
      functions = all.gives ∙ o.functions;
      copies = λ f. all.counted f ∙ ap (raised 0) (o.copies f) ∙ all_made k may f old r;
    }

-- crew by crew

raised_sum : (t a b : ℕ) → raised (raised t (raised 0 a)) b ≡ raised t (a + b)
raised_sum t a b = omega arith

pub crew_gathered : {F : Type 0} (k : Kit F) (was todo : List (List (Node F))) (one : List (Node F)) (done : CrewDone F) (functions new all : List F)
    → was ≡ one ∷ todo → CrewKeeps k one done → done.short ≡ false → new ≡ functions ++ done.functions.items
    → functions ++ gather k (flat was) ≡ all → new ++ gather k (flat todo) ≡ all
unfolding flat
crew_gathered k was todo one done functions new all t keeps short e h =
    let rest = gather k (flat todo) in
    ap (λ y. y ++ rest) e ∙ append_assoc functions done.functions.items rest ∙ ap (λ y. functions ++ (y ++ rest)) (keeps short).functions
    ∙ ap (λ y. functions ++ y) (sym (gather_append k one (flat todo))) ∙ ap (λ y. functions ++ gather k (flat y)) (sym t) ∙ h

pub crews_gathered : {F : Type 0} (k : Kit F) (todo : List (List (Node F))) (functions all : List F) → todo ≡ [] → functions ++ gather k (flat todo) ≡ all → functions ≡ all
unfolding gather flat
crews_gathered k todo functions all t h = sym (append-nil functions) ∙ ap (λ y. functions ++ gather k (flat y)) (sym t) ∙ h

pub crew_counted : {F : Type 0} (k : Kit F) (was todo : List (List (Node F))) (one : List (Node F)) (done : CrewDone F) (tally new : List ℕ) (f : Field) (all : ℕ)
    → was ≡ one ∷ todo → CrewKeeps k one done → done.short ≡ false → count_of new f ≡ raised (count_of tally f) (count_of done.tally f)
    → raised (count_of tally f) (copies_by_all f (flat was)) ≡ all → raised (count_of new f) (copies_by_all f (flat todo)) ≡ all
unfolding flat
crew_counted k was todo one done tally new f all t keeps short e h =
    let rest = copies_by_all f (flat todo) in
    ap (λ y. raised y rest) (e ∙ ap (λ y. raised (count_of tally f) y) ((keeps short).copies f))
    ∙ raised_sum (count_of tally f) (copies_by_all f one) rest
    ∙ ap (raised (count_of tally f)) (sym (copies_append f one (flat todo)))
    ∙ ap (λ y. raised (count_of tally f) (copies_by_all f (flat y))) (sym t)
    ∙ h

pub crews_counted : {F : Type 0} (todo : List (List (Node F))) (tally : List ℕ) (f : Field) (all : ℕ) → todo ≡ [] → raised (count_of tally f) (copies_by_all f (flat todo)) ≡ all → count_of tally f ≡ all
unfolding copies_by_all flat
crews_counted todo tally f all t h = sym (raised_none (count_of tally f)) ∙ ap (λ y. raised (count_of tally f) (copies_by_all f (flat y))) (sym t) ∙ h

-- the cut

all_front : {A : Type 0} (P : A → Type 0) (xs ys : List A) → All P (xs ++ ys) → All P xs
all_front P [] ys h = All-nil P
all_front P (x ∷ xs) ys h = All-cons P x xs (All-head P x (xs ++ ys) h) (all_front P xs ys (All-tail P x (xs ++ ys) h))

all_back : {A : Type 0} (P : A → Type 0) (xs ys : List A) → All P (xs ++ ys) → All P ys
all_back P [] ys h = h
all_back P (x ∷ xs) ys h = all_back P xs ys (All-tail P x (xs ++ ys) h)

pub all_in_crews : {A : Type 0} (P : A → Type 0) (ls : List (List A)) → All P (flat ls) → All (All P) ls
unfolding flat
all_in_crews P [] h = All-nil (All P)
all_in_crews P (l ∷ ls) h = All-cons (All P) l ls (all_front P l (flat ls) h) (all_in_crews P ls (all_back P l (flat ls) h))

pub flat_push : {A : Type 0} (ls : List (List A)) (l : List A) → flat (ls ++ l ∷ []) ≡ flat ls ++ l
unfolding flat
flat_push [] l = append-nil l
flat_push (x ∷ ls) l = ap (λ y. x ++ y) (flat_push ls l) ∙ sym (append_assoc x (flat ls) l)

pub flat_none : {A : Type 0} (ls : List (List A)) → ls ≡ [] → flat ls ≡ []
unfolding flat
flat_none ls e = ap flat e

pub placed : {A : Type 0} (old kept new : List (List A)) (crew full : List A) (n : A) → flat kept ++ crew ≡ flat old → full ≡ crew ++ n ∷ [] → new ≡ kept ++ full ∷ [] → flat new ≡ flat old ++ n ∷ []
placed old kept new crew full n e p q = ap flat q ∙ flat_push kept full ∙ ap (λ y. flat kept ++ y) p ∙ sym (append_assoc (flat kept) crew (n ∷ [])) ∙ ap (λ y. y ++ n ∷ []) e

pub one_placed : {A : Type 0} (all was todo : List A) (old new : List (List A)) (n : A) → flat old ++ was ≡ all → was ≡ n ∷ todo → flat new ≡ flat old ++ n ∷ [] → flat new ++ todo ≡ all
one_placed all was todo old new n h t e = ap (λ y. y ++ todo) e ∙ append_assoc (flat old) (n ∷ []) todo ∙ ap (λ y. flat old ++ y) (sym t) ∙ h

pub all_placed : {A : Type 0} (all todo : List A) (crews : List (List A)) → flat crews ++ todo ≡ all → todo ≡ [] → flat crews ≡ all
all_placed all todo crews h t = sym (append-nil (flat crews)) ∙ ap (λ y. flat crews ++ y) (sym t) ∙ h

pub none_taken : {A : Type 0} (old kept : List (List A)) (o : Option (List A)) (crew : List A) → old ≡ kept ++ option_to_list o → o ≡ None → crew ≡ [] → flat kept ++ crew ≡ flat old
none_taken old kept o crew e n z = ap (λ y. flat kept ++ y) z ∙ append-nil (flat kept) ∙ ap flat (sym (e ∙ ap (λ y. kept ++ option_to_list y) n ∙ append-nil kept))

pub last_taken : {A : Type 0} (old kept : List (List A)) (o : Option (List A)) (crew : List A) → old ≡ kept ++ option_to_list o → o ≡ Some crew → flat kept ++ crew ≡ flat old
last_taken old kept o crew e s = sym (flat_push kept crew) ∙ ap flat (sym (e ∙ ap (λ y. kept ++ option_to_list y) s))
