-- Copies of functions that keep no state.
use Rattle.std.proofs.Common.{◌≡◌, ◌∙◌, ◌<◌, ◌≤◌, ◌+◌, ℕ, suc, List, [], ◌∷◌, ◌++◌, length, drop, get_or, sym, ap, refl, subst, Bool, true, false, All, Option, Some, append_assoc, arith, eqb-true}
use Rattle.std.specs.Prelude.{IfSome, None, is_some, not, ◌==◌, ◌||◌, if◌then◌else◌}
use Rattle.std.proofs.lemmas.List.{append-nil, drop_more, drop_all}
use Rattle.std.proofs.lemmas.List.Elements.{All-head, All-nil, All-push, All-tail}
use Rattle.chain_walk.specs.Notes.{Notes}
use Rattle.chain_walk.specs.Shown.{shown_by}
use Rattle.chain_walk.specs.Step.{Behaviour}
use Rattle.chain_walk.specs.Laws.{KeepsProfile}
use Rattle.burst_law.specs.Noting.{row_listed}
use Rattle.packet_version.specs.Versions.{PlainVersion}
use Rattle.graph_run.specs.Carrying.{as_version}
use Rattle.packet_messages.specs.Messages.{PlainMessage, PlainMessage.Live, PlainMessage.Nil, PlainMessage.Short}
use Rattle.stage_nodes.specs.Streams.{KeepsNothing}
use Rattle.stream_law.specs.Owned.{PlainOwned, moved_by, went_by, ran_by, noted_by, notes_by, owned_kit}

-- a function keeps no state and doesn't count, by its profile
abbrev pub KeepsNone : {F : Type 0} → Behaviour F → F → Type 0
KeepsNone b f = ((b.profile f).state ≡ false) × ((b.profile f).counts ≡ false)

-- a copy is the same, and keeps no state

pub some_so : {A : Type 0} (P : A → Type 0) (o : Option A) (x : A) → o ≡ Some x → IfSome o P → P x
some_so P o x is h = subst (λ y. IfSome y P) is h

pub some_same : {F : Type 0} (o : Option F) (f same : F) → o ≡ Some same → IfSome o (λ g. g ≡ f) → same ≡ f
some_same o f same is h = some_so (λ g. g ≡ f) o same is h

not_true : (t : Bool) → true ≡ not t → t ≡ false
not_true true e = absurd cc
not_true false e = refl

neither : (s t : Bool) → (s || t) ≡ false → (s ≡ false) × (t ≡ false)
neither true t e = absurd cc
neither false t e = (refl, e)

pub none_by : {F : Type 0} (o : Option F) (same : F) (s t : Bool) → o ≡ Some same → is_some o ≡ not (s || t) → (s ≡ false) × (t ≡ false)
none_by o same s t is e = neither s t (not_true (s || t) (ap is_some (sym is) ∙ e))

moved_not : {F : Type 0} (b : Behaviour F) (f : F) (m : PlainMessage PlainVersion) → KeepsProfile b → KeepsNone b f → moved_by b f m ≡ f
moved_not b f (Live v) keeps none = keeps.state v.fixed f (as_version v).values none.0 none.1
moved_not b f (Nil p) keeps none = refl
moved_not b f Short keeps none = refl

-- such functions stay, whatever arrives
ran_not : {F : Type 0} (b : Behaviour F) (qs : List ℕ) (fs : List F) (m : PlainMessage PlainVersion) → KeepsProfile b → All (KeepsNone b) fs → (ran_by b qs fs m).state ≡ fs
unfolding ran_by
ran_not b [] fs m keeps all = refl
ran_not b (q ∷ qs) [] m keeps all = refl
ran_not b (q ∷ qs) (f ∷ fs) m keeps all =
    ap (λ g. g ∷ (ran_by b qs fs (went_by b q f m)).state) (moved_not b f m keeps (All-head (KeepsNone b) f fs all))
    ∙ ap (λ gs. f ∷ gs) (ran_not b qs fs (went_by b q f m) keeps (All-tail (KeepsNone b) f fs all))

-- they note nothing
noted_not : {F N : Type 0} (b : Behaviour F) (notes : Notes F N) (f : F) (m : PlainMessage PlainVersion) → KeepsNone b f → noted_by b notes f m ≡ None
noted_not b notes f (Live v) none = ap (λ t. if t then notes.look f (shown_by (b.profile f) v.fixed (as_version v).values) else None) none.1
noted_not b notes f (Nil p) none = refl
noted_not b notes f Short none = refl

-- and list nothing
listed_not : {F N : Type 0} (b : Behaviour F) (notes : Notes F N) (qs : List ℕ) (fs : List F) (m : PlainMessage PlainVersion) (packet index : ℕ) → All (KeepsNone b) fs → row_listed packet index (notes_by b notes qs fs m) ≡ []
unfolding row_listed notes_by
listed_not b notes [] fs m packet index all = refl
listed_not b notes (q ∷ qs) [] m packet index all = refl
listed_not b notes (q ∷ qs) (f ∷ fs) m packet index all =
    ap (λ n. row_listed packet index (n ∷ notes_by b notes qs fs (went_by b q f m))) (noted_not b notes f m (All-head (KeepsNone b) f fs all))
    ∙ listed_not b notes qs fs (went_by b q f m) packet (index + 1) (All-tail (KeepsNone b) f fs all)

-- so a branch that numbers no packets stays, whatever arrives
pub owned_stays : {F N : Type 0} (b : Behaviour F) (notes : Notes F N) (o : PlainOwned F N) → KeepsProfile b → All (KeepsNone b) o.functions → o.counts ≡ false → KeepsNothing (owned_kit b notes) o
owned_stays {F} {N} b notes o keeps all uncounted = (
  λ v. λ i. record o {
    functions = ran_not b o.positions o.functions (Live v) keeps all i;
    seen = same_number i;
    listed = (ap (λ l. o.listed ++ l) (listed_not b notes o.positions o.functions (Live v) o.seen 0 all) ∙ append-nil o.listed) i;
  },
  λ i. record o { seen = same_number i },
)
  where
    same_number : (if o.counts then suc o.seen else o.seen) ≡ o.seen
    same_number = ap (λ t. if t then suc o.seen else o.seen) uncounted

-- This number of the functions are copied, and keep no state.
pub record AreAgain {F : Type 0} (b : Behaviour F) (fs again : List F) (i : ℕ) : Type 0 where
  pub rest : again ++ drop i fs ≡ fs
  pub none : All (KeepsNone b) again

pub none_again : {F : Type 0} (b : Behaviour F) (fs again : List F) → again ≡ [] → AreAgain b fs again 0
none_again b fs again e = record {
  rest = ap (λ y. y ++ fs) e;
  none = subst (All (KeepsNone b)) (sym e) (All-nil (KeepsNone b));
}

pub one_again : {F : Type 0} (b : Behaviour F) (fs again more : List F) (i : ℕ) (f same : F) → AreAgain b fs again i → i < length fs → f ≡ get_or fs i f → same ≡ f → KeepsNone b f → more ≡ again ++ same ∷ [] → AreAgain b fs more (i + 1)
one_again b fs again more i f same h lt is e none add = record {
  rest = ap (λ y. y ++ drop (i + 1) fs) (add ∙ ap (λ g. again ++ g ∷ []) e)
      ∙ append_assoc again (f ∷ []) (drop (i + 1) fs)
      ∙ ap (λ y. again ++ y) (sym (drop_more fs i f lt ∙ ap (λ g. g ∷ drop (i + 1) fs) (sym is)))
      ∙ h.rest;
  none = subst (All (KeepsNone b)) (sym add) (All-push (KeepsNone b) again same h.none (subst (KeepsNone b) (sym e) none));
}

pub all_again : {F : Type 0} (b : Behaviour F) (fs again : List F) (i : ℕ) → AreAgain b fs again i → length fs ≤ i → (again ≡ fs) × All (KeepsNone b) fs
all_again b fs again i h past =
    let same : again ≡ fs = sym (append-nil again) ∙ ap (λ y. again ++ y) (sym (drop_all i fs past)) ∙ h.rest in
    (same, subst (All (KeepsNone b)) same h.none)

-- an empty list
pub none_there : {A : Type 0} (xs : List A) (empty : Bool) → empty ≡ (length xs == 0) → empty ≡ true → [] ≡ xs
none_there [] empty is none = refl
none_there (x ∷ xs) empty is none = absurd (let e = eqb-true (length (x ∷ xs)) 0 (sym is ∙ none) in omega arith)
