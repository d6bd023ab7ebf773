-- What a lawful stage says about its functions, one by one; the proof follows this.
use Rattle.std.proofs.Common.{◌≡◌, ◌≢◌, ◌<◌, ◌+◌, ◌-◌, ◌∙◌, ℕ, zero, suc, List, ◌∷◌, [], ◌++◌, length, ap, refl, arith, Bool, true, false, Some, inl, inr}
use Rattle.std.specs.Prelude.{◌||◌, slice_get, IsTrue}
use Rattle.std.proofs.lemmas.Option.{slice_get_within}
use Rattle.packet_fields.specs.declared.field.Field.{Field}
use Rattle.action_profile.specs.FieldSets.{has}
use Rattle.action_profile.specs.Profiles.{reads_of, writes_of}
use Rattle.action_profile.specs.declared.parts.Touch.{Touch}
use Rattle.action_profile.specs.declared.rights.Profile.{Profile}
use Rattle.dependency_table.specs.Table.{pair_of, is_allowed}
use Rattle.graph_compile.specs.Lawful.{size}
use Rattle.graph_compile.specs.Owners.{owner, HasOwners}
use Rattle.graph_compile.specs.Parts.{profile_at}
use Rattle.graph_compile.specs.declared.graph.Stage.{Stage}
use Rattle.graph_law.proofs.Rights.{Reads, Writes, Stateless, Apart, Touched, AllTouched}

-- what follows from two functions being allowed side by side
pub record Independent : Type 0 where
  pub unread : (x y : Profile) (f : Field) → IsTrue (is_allowed (pair_of x y)) → IsTrue (writes_of x f) → reads_of y f ≡ false
  pub stateless : (x y : Profile) → IsTrue (is_allowed (pair_of x y)) → IsTrue x.drops → y.state ≡ false

-- functions from position `p` on, of which two of different branches may be side by side
record Allowed (side : ℕ → ℕ) (p : ℕ) (fs : List Profile) : Type 0 where
  pairs : (i j : ℕ) (x y : Profile) → i < j → slice_get fs i ≡ Some x → slice_get fs j ≡ Some y → side (p + i) ≢ side (p + j) → IsTrue (is_allowed (pair_of x y))

-- the function of a branch that reads x, and the one that writes it
record Finds (side : ℕ → ℕ) (c p : ℕ) (fs : List Profile) (has_right : Profile → Bool) : Type 0 where
  index : ℕ
  it : Profile
  there : slice_get fs index ≡ Some it
  mine : side (p + index) ≡ c
  right : has_right it ≡ true

finds_later : (side : ℕ → ℕ) (c p : ℕ) (f : Profile) (fs : List Profile) (has_right : Profile → Bool) → Finds side c (p + 1) fs has_right → Finds side c p (f ∷ fs) has_right
finds_later side c p f fs has_right w = record { index = suc w.index; it = w.it; there = w.there; mine = ap side (omega arith) ∙ w.mine; right = w.right }

reader : (side : ℕ → ℕ) (c p : ℕ) (fs : List Profile) (x : Field) → Reads side c p fs x → Finds side c p fs (λ g. reads_of g x)
unfolding Reads
reader side c p [] x h = absurd h
reader side c p (f ∷ fs) x (inl h) = record { index = 0; it = f; there = refl; mine = ap side (omega arith) ∙ h.0; right = h.1 }
reader side c p (f ∷ fs) x (inr h) = finds_later side c p f fs (λ g. reads_of g x) (reader side c (p + 1) fs x h)

writer : (side : ℕ → ℕ) (c p : ℕ) (fs : List Profile) (x : Field) → Writes side c p fs x → Finds side c p fs (λ g. writes_of g x)
unfolding Writes
writer side c p [] x h = absurd h
writer side c p (f ∷ fs) x (inl h) = record { index = 0; it = f; there = refl; mine = ap side (omega arith) ∙ h.0; right = h.1 }
writer side c p (f ∷ fs) x (inr h) = finds_later side c p f fs (λ g. writes_of g x) (writer side c (p + 1) fs x h)

stateless_from : (side : ℕ → ℕ) (c p : ℕ) (fs : List Profile) → ((j : ℕ) (g : Profile) → slice_get fs j ≡ Some g → side (p + j) ≡ c → g.state ≡ false) → Stateless side c p fs
unfolding Stateless
stateless_from side c p [] h = tt
stateless_from side c p (f ∷ fs) h = (λ e. h 0 f refl (ap side (omega arith) ∙ e), stateless_from side c (p + 1) fs (λ j g is e. h (suc j) g is (ap side (omega arith) ∙ e)))

not_both : (writes : Bool) (reads : Bool) → reads ≡ true → (writes ≡ true → reads ≡ false) → writes ≡ false
not_both true reads is h = absurd (let e = h refl in cc)
not_both false reads is h = refl

allowed_apart : (side : ℕ → ℕ) (p : ℕ) (fs : List Profile) → Independent → Allowed side p fs → Apart side p fs
unfolding Apart
allowed_apart side p [] free h = tt
allowed_apart side p (f ∷ fs) free h = (
  record {
    unread = λ c x ne r. let w = reader side c (p + 1) fs x r in not_both (writes_of f x) (reads_of w.it x) w.right (λ s. free.unread f w.it x (h.pairs 0 (suc w.index) f w.it (omega arith) refl w.there (λ e. ne (ap side (omega arith) ∙ e ∙ ap side (omega arith) ∙ w.mine))) s);
    stateless = λ c ne d. stateless_from side c (p + 1) fs (λ j g is e. free.stateless f g (h.pairs 0 (suc j) f g (omega arith) refl is (λ q. ne (ap side (omega arith) ∙ q ∙ ap side (omega arith) ∙ e))) d);
  },
  allowed_apart side (p + 1) fs free (record { pairs = λ i j x y l gx gy ne. h.pairs (suc i) (suc j) x y (omega arith) gx gy (λ e. ne (ap side (omega arith) ∙ e ∙ ap side (omega arith))) }),
)

all_touched : (side : ℕ → ℕ) (c p : ℕ) (fs : List Profile) (touches : List Touch) → ((j : ℕ) (t : Touch) → slice_get touches j ≡ Some t → Touched side (c + j) p fs t) → AllTouched side c p fs touches
unfolding AllTouched
all_touched side c p fs [] h = tt
all_touched side c p fs (t ∷ touches) h = (
  rw (← plus_none) (h 0 t refl),
  all_touched side (c + 1) p fs touches (λ j y e. rw (← plus_one j) (h (suc j) y e)),
)
  where
    plus_none : c + 0 ≡ c
    plus_none = omega arith

    plus_one : (j : ℕ) → c + suc j ≡ c + 1 + j
    plus_one j = omega arith

-- the functions of the stage among those of the chain
get_between : {A : Type 0} (pre mid post : List A) (i j : ℕ) (x : A) → i ≡ length pre + j → slice_get mid j ≡ Some x → slice_get (pre ++ (mid ++ post)) i ≡ Some x
get_between [] [] post i j x at e = absurd cc
get_between [] (y ∷ mid) post zero zero x at e = e
get_between [] (y ∷ mid) post zero (suc j) x at e = absurd (omega arith)
get_between [] (y ∷ mid) post (suc i) zero x at e = absurd (omega arith)
get_between [] (y ∷ mid) post (suc i) (suc j) x at e = get_between [] mid post i j x (omega arith) e
get_between (z ∷ pre) mid post zero j x at e = absurd (omega arith)
get_between (z ∷ pre) mid post (suc i) j x at e = get_between pre mid post i j x (omega arith) e

-- the stage whose first function has position `p`, and what its branches own
record Owned (chain : List Profile) (p : ℕ) (stage : Stage) (pre mid post : List Profile) : Type 0 where
  owners : HasOwners chain p stage
  parted : chain ≡ pre ++ (mid ++ post)
  first : suc (length pre) ≡ p
  count : length mid ≡ size stage.branches

profile_between : (chain : List Profile) (p : ℕ) (stage : Stage) (pre mid post : List Profile) (j : ℕ) (x : Profile) → Owned chain p stage pre mid post → slice_get mid j ≡ Some x → profile_at chain (p + j) ≡ Some x
profile_between chain p stage pre mid post j x o e =
    ap (λ ps. slice_get ps (p + j - 1)) o.parted ∙ get_between pre mid post (p + j - 1) j x (let l = o.first in omega arith) e

within : (chain : List Profile) (p : ℕ) (stage : Stage) (pre mid post : List Profile) (j : ℕ) (x : Profile) → Owned chain p stage pre mid post → slice_get mid j ≡ Some x → p + j < p + size stage.branches
within chain p stage pre mid post j x o e = let l = slice_get_within mid j x e in let n = o.count in omega arith

touch_reads : (r w : Bool) → r ≡ true → (r || w) ≡ true
touch_reads r w e = rw e refl

touch_writes : (r w : Bool) → w ≡ true → (r || w) ≡ true
touch_writes true w e = refl
touch_writes false w e = e

owned_touched : (chain : List Profile) (p : ℕ) (stage : Stage) (pre mid post : List Profile) (j : ℕ) (t : Touch) → Owned chain p stage pre mid post → slice_get stage.parts.touches j ≡ Some t → Touched (owner stage.branches) j p mid t
owned_touched chain p stage pre mid post j t o is = record {
  reads = λ x r. let w = reader (owner stage.branches) j p mid x r in
      touch_reads (has t.reads x) (has t.writes x) (o.owners.reads (p + w.index) w.it t x (omega arith) (within chain p stage pre mid post w.index w.it o w.there)
      (profile_between chain p stage pre mid post w.index w.it o w.there) (ap (slice_get stage.parts.touches) w.mine ∙ is) w.right);
  writes = λ x r. let w = writer (owner stage.branches) j p mid x r in
      touch_writes (has t.reads x) (has t.writes x) (o.owners.writes (p + w.index) w.it t x (omega arith) (within chain p stage pre mid post w.index w.it o w.there)
      (profile_between chain p stage pre mid post w.index w.it o w.there) (ap (slice_get stage.parts.touches) w.mine ∙ is) w.right);
}

pub owned_all_touched : (chain : List Profile) (p : ℕ) (stage : Stage) (pre mid post : List Profile) → HasOwners chain p stage → chain ≡ pre ++ (mid ++ post) → suc (length pre) ≡ p → length mid ≡ size stage.branches →
    AllTouched (owner stage.branches) 0 p mid stage.parts.touches
owned_all_touched chain p stage pre mid post owners parted first count = all_touched (owner stage.branches) 0 p mid stage.parts.touches
    (λ j t e. rw (none_more j) (owned_touched chain p stage pre mid post j t (record { owners = owners; parted = parted; first = first; count = count }) e))
  where
    none_more : (j : ℕ) → 0 + j ≡ j
    none_more j = omega arith

pub owned_apart : (chain : List Profile) (p : ℕ) (stage : Stage) (pre mid post : List Profile) → Independent → HasOwners chain p stage → chain ≡ pre ++ (mid ++ post) → suc (length pre) ≡ p → length mid ≡ size stage.branches →
    Apart (owner stage.branches) p mid
owned_apart chain p stage pre mid post free owners parted first count =
    let o : Owned chain p stage pre mid post = record { owners = owners; parted = parted; first = first; count = count } in
    allowed_apart (owner stage.branches) p mid free (record {
      pairs = λ i j x y l gx gy ne. owners.beside (p + i) (p + j) x y (omega arith) (omega arith) (within chain p stage pre mid post j y o gy) ne
          (profile_between chain p stage pre mid post i x o gx) (profile_between chain p stage pre mid post j y o gy);
    })
