-- A branch before and after one version.
use Rattle.std.proofs.Common.{◌≡◌, ◌≢◌, ◌≤◌, ◌+◌, ◌-◌, ◌*◌, ◌∙◌, ℕ, suc, List, [], ◌∷◌, length, refl, arith, ap, sym, subst, Bool, false, inl, inr}
use Rattle.std.proofs.Math.Nat.{add-mul}
use Rattle.packet_version.specs.Versions.{PlainVersion}
use Rattle.packet_messages.specs.Messages.{PlainMessage, Fits, Owing, first, rest, front, turned, is_short}
use Rattle.packet_messages.specs.Turns.{shares}
use Rattle.stage_nodes.specs.Streams.{Kit, gave, moved, ran, left}
use Rattle.stage_nodes.specs.Flows.{MayTake, MayTakeEach}
use Rattle.stage_nodes.specs.Dues.{BranchDue, NothingOwed}
use Rattle.stage_nodes.specs.Turns.{BranchReady}
use Rattle.stage_nodes.proofs.Shares.{turned_shares, no_shares}
use Rattle.stage_nodes.proofs.Ends.{fits_by, due_is, begins, Front, front_of, some_more, none_more}

take_first : {F : Type 0} (k : Kit F) (may : F → ℕ → PlainVersion → Type 0) (step : ℕ) (f : F) (p : ℕ) (x : PlainMessage PlainVersion) (xs : List (PlainMessage PlainVersion))
    → MayTakeEach k may step f p (x ∷ xs) → MayTake may f p x × MayTakeEach k may step (moved k f x) (p + step) xs
unfolding MayTakeEach
take_first k may step f p x xs all = all

ran_more : {F : Type 0} (k : Kit F) (f : F) (x : PlainMessage PlainVersion) (xs : List (PlainMessage PlainVersion)) → ran k f (x ∷ xs) ≡ gave k f x ∷ ran k (moved k f x) xs
unfolding ran
ran_more k f x xs = refl

left_more : {F : Type 0} (k : Kit F) (f : F) (x : PlainMessage PlainVersion) (xs : List (PlainMessage PlainVersion)) → left k f (x ∷ xs) ≡ left k (moved k f x) xs
unfolding left
left_more k f x xs = refl

left_none : {F : Type 0} (k : Kit F) (f : F) → left k f [] ≡ f
unfolding left
left_none k f = refl

pub branch_front : {F : Type 0} (k : Kit F) (may : F → ℕ → PlainVersion → Type 0) (step p : ℕ) (short : Bool) (f : F) (inlet : List (PlainMessage PlainVersion)) (outlets : List (List (PlainMessage PlainVersion)))
    → (r : BranchReady k may step p short f inlet outlets) → Front outlets (gave k r.2.now (first inlet))
branch_front k may step p short f inlet outlets r =
    let d = r.2 in
    let b = begins inlet r.0 d.many in
    subst (λ y. Front outlets (gave k d.now (first y))) (sym b.is)
    (front_of d.mergers (gave k d.now b.head) (ran k (moved k d.now b.head) b.tail) outlets d.some
    (d.gives ∙ ap (shares d.mergers) (ap (ran k d.now) b.is ∙ ran_more k d.now b.head b.tail)))

-- a version is due
pub version_due : {F : Type 0} (k : Kit F) (may : F → ℕ → PlainVersion → Type 0) (step p : ℕ) (short : Bool) (f : F) (inlet : List (PlainMessage PlainVersion)) (outlets : List (List (PlainMessage PlainVersion))) → BranchReady k may step p short f inlet outlets → Owing inlet
version_due k may step p short f inlet outlets r = let m = r.2.many in omega arith

-- it may take what arrived
pub may_next : {F : Type 0} (k : Kit F) (may : F → ℕ → PlainVersion → Type 0) (step p : ℕ) (short : Bool) (f : F) (inlet : List (PlainMessage PlainVersion)) (outlets : List (List (PlainMessage PlainVersion))) (message : PlainMessage PlainVersion)
    → BranchReady k may step p short f inlet outlets → Fits (first inlet) message → short ≡ false → MayTake may f p message
may_next k may step p short f inlet outlets message r (inr e) w = subst (MayTake may f p) (sym e) tt
may_next k may step p short f inlet outlets message r (inl e) w =
    let d = r.2 in
    let b = begins inlet r.0 d.many in
    let here = (take_first k may step d.now p b.head b.tail (subst (MayTakeEach k may step d.now p) b.is d.take)).0 in
    subst (λ g. MayTake may g p message) (sym (d.same w)) (subst (MayTake may d.now p) (sym (e ∙ ap first b.is)) here)

-- its answer fits
pub branch_fits : {F : Type 0} (k : Kit F) (may : F → ℕ → PlainVersion → Type 0) (step p : ℕ) (short : Bool) (f : F) {f' : F} (inlet : List (PlainMessage PlainVersion)) (outlets : List (List (PlainMessage PlainVersion))) (message reply : PlainMessage PlainVersion)
    → BranchReady k may step p short f inlet outlets → Fits (first inlet) message
    → (is_short reply ≡ false → (short ≡ false) × (is_short message ≡ false) × (reply ≡ gave k f message) × (f' ≡ moved k f message))
    → Fits (first (front outlets)) reply
branch_fits k may step p short f inlet outlets message reply r fit h =
    let front = branch_front k may step p short f inlet outlets r in
    subst (λ y. Fits y reply) (sym front.is) (fits_by _ reply (λ w.
    let a = h w in
    a.2 ∙ ap (λ y. gave k y message) (r.2.same a.0) ∙ ap (gave k r.2.now) (due_is (first inlet) message fit a.1)))

-- the functions after a message that was the due one
pub moved_by : {F : Type 0} (k : Kit F) (short : Bool) (f f' : F) (due message : PlainMessage PlainVersion) {reply : PlainMessage PlainVersion} → Fits due message
    → (short ≡ false) × (is_short message ≡ false) × (reply ≡ gave k f message) × (f' ≡ moved k f message) → (short ≡ false) × (f' ≡ moved k f due)
moved_by k short f f' due message fit a = (a.0, a.3 ∙ ap (moved k f) (due_is due message fit a.1))

one_step_more : (n step : ℕ) → suc n * step ≡ step + n * step
one_step_more n step =
    let e : suc n ≡ n + 1 = omega arith in
    ap (λ m. m * step) e ∙ add-mul n 1 step ∙ omega arith

pub next_few : (step p n : ℕ) → p + suc n * step ≤ 4294967295 → (p + step) + n * step ≤ 4294967295
next_few step p n le = over (suc n * step) (n * step) (one_step_more n step) le
  where
    over : (a b : ℕ) → a ≡ step + b → p + a ≤ 4294967295 → (p + step) + b ≤ 4294967295
    over a b e le = omega (arith, e, le)

pub branch_goes_on : {F : Type 0} (k : Kit F) (may : F → ℕ → PlainVersion → Type 0) (step p n : ℕ) (end : F) (short after : Bool) (f f' : F) (inlet inlet' : List (PlainMessage PlainVersion)) (outlets outlets' : List (List (PlainMessage PlainVersion)))
    → BranchDue k may step p (suc n) end short f inlet outlets → inlet' ≡ rest inlet → outlets' ≡ turned outlets
    → (after ≡ false → (short ≡ false) × (f' ≡ moved k f (first inlet)))
    → BranchDue k may step (p + step) n end after f' inlet' outlets'
branch_goes_on k may step p n end short after f f' inlet inlet' outlets outlets' d i o h =
    let b = begins inlet n d.many in
    let tail : inlet' ≡ b.tail = i ∙ ap rest b.is in record {
      mergers = d.mergers;
      now = moved k d.now b.head;
      some = d.some;
      many = ap length tail ∙ b.many;
      few = next_few step p n d.few;
      take = subst (MayTakeEach k may step (moved k d.now b.head) (p + step)) (sym tail) (take_first k may step d.now p b.head b.tail (subst (MayTakeEach k may step d.now p) b.is d.take)).1;
      gives = o ∙ ap turned (d.gives ∙ ap (shares d.mergers) (ap (ran k d.now) b.is ∙ ran_more k d.now b.head b.tail)) ∙ turned_shares d.mergers (gave k d.now b.head) (ran k (moved k d.now b.head) b.tail) d.some
          ∙ ap (λ y. shares d.mergers (ran k (moved k d.now b.head) y)) (sym tail);
      same = λ w. let a = h w in a.1 ∙ ap (λ y. moved k y (first inlet)) (d.same a.0) ∙ ap (λ y. moved k d.now (first y)) b.is;
      ends = ap (left k (moved k d.now b.head)) tail ∙ sym (left_more k d.now b.head b.tail) ∙ sym (ap (left k d.now) b.is) ∙ d.ends;
    }

branch_over : {F : Type 0} (k : Kit F) (may : F → ℕ → PlainVersion → Type 0) (step p : ℕ) (end : F) (short : Bool) (f : F) (inlet : List (PlainMessage PlainVersion)) (outlets : List (List (PlainMessage PlainVersion)))
    → BranchDue k may step p 0 end short f inlet outlets → short ≡ false → f ≡ end
branch_over k may step p end short f [] outlets d w = d.same w ∙ sym (left_none k d.now) ∙ d.ends
branch_over k may step p end short f (x ∷ xs) outlets d w = absurd (let m = d.many in omega arith)

-- over a count of versions

-- at least one version is to come
pub branch_some : {F : Type 0} (k : Kit F) (may : F → ℕ → PlainVersion → Type 0) (step p count : ℕ) (end : F) (short : Bool) (f : F) (inlet : List (PlainMessage PlainVersion)) (outlets : List (List (PlainMessage PlainVersion))) → count ≢ 0
    → BranchDue k may step p count end short f inlet outlets → BranchDue k may step p (suc (count - 1)) end short f inlet outlets
branch_some k may step p count end short f inlet outlets ne d = subst (λ n. BranchDue k may step p n end short f inlet outlets) (some_more count ne) d

-- the functions that are left in the end
pub branch_end : {F : Type 0} (k : Kit F) (may : F → ℕ → PlainVersion → Type 0) (step p count : ℕ) (end : F) (short : Bool) (f : F) (inlet : List (PlainMessage PlainVersion)) (outlets : List (List (PlainMessage PlainVersion)))
    → BranchDue k may step p count end short f inlet outlets → short ≡ false → end ≡ left k f inlet
branch_end k may step p count end short f inlet outlets d w = sym (ap (λ g. left k g inlet) (d.same w) ∙ d.ends)

-- the next packet follows from what the node keeps
pub branch_next : {F : Type 0} (k : Kit F) (may : F → ℕ → PlainVersion → Type 0) (step step' p p' count count' : ℕ) (end : F) (short : Bool) (f : F) (inlet : List (PlainMessage PlainVersion)) (outlets : List (List (PlainMessage PlainVersion)))
    → step' ≡ step → p' ≡ p → count' ≡ count → BranchDue k may step (p + step) (count - 1) end short f inlet outlets → BranchDue k may step' (p' + step') (count' - 1) end short f inlet outlets
branch_next k may step step' p p' count count' end short f inlet outlets s e c d =
    subst (λ y. BranchDue k may y (p' + y) (count' - 1) end short f inlet outlets) (sym s)
    (subst (λ y. BranchDue k may step (y + step) (count' - 1) end short f inlet outlets) (sym e) (subst (λ y. BranchDue k may step (p + step) (y - 1) end short f inlet outlets) (sym c) d))

-- and its number isn't too large
pub number_fits : {F : Type 0} (k : Kit F) (may : F → ℕ → PlainVersion → Type 0) (step p n : ℕ) (end : F) (short : Bool) (f : F) (inlet : List (PlainMessage PlainVersion)) (outlets : List (List (PlainMessage PlainVersion)))
    → BranchDue k may step p n end short f inlet outlets → p ≤ 4294967295
number_fits k may step p n end short f inlet outlets d = at_most p (n * step) d.few
  where
    at_most : (a b : ℕ) → a + b ≤ 4294967295 → a ≤ 4294967295
    at_most a b le = omega (arith, le)

pub branch_done : {F : Type 0} (k : Kit F) (may : F → ℕ → PlainVersion → Type 0) (step p count i n : ℕ) (end : F) (short : Bool) (f : F) (inlet : List (PlainMessage PlainVersion)) (outlets : List (List (PlainMessage PlainVersion))) → count ≤ i → n ≡ count - i
    → BranchDue k may step p n end short f inlet outlets → short ≡ false → f ≡ end
branch_done k may step p count i n end short f inlet outlets le e d = branch_over k may step p end short f inlet outlets (subst (λ n. BranchDue k may step p n end short f inlet outlets) (e ∙ none_more count i le) d)

-- nothing more is due to a merger
branch_given : {F : Type 0} (k : Kit F) (may : F → ℕ → PlainVersion → Type 0) (step p : ℕ) (end : F) (short : Bool) (f : F) (inlet : List (PlainMessage PlainVersion)) (outlets : List (List (PlainMessage PlainVersion)))
    → BranchDue k may step p 0 end short f inlet outlets → NothingOwed outlets
unfolding ran
branch_given k may step p end short f [] outlets d = subst NothingOwed (sym d.gives) (no_shares d.mergers 0 d.mergers)
branch_given k may step p end short f (x ∷ xs) outlets d = absurd (let m = d.many in omega arith)

pub branch_gave : {F : Type 0} (k : Kit F) (may : F → ℕ → PlainVersion → Type 0) (step p count i n : ℕ) (end : F) (short : Bool) (f : F) (inlet : List (PlainMessage PlainVersion)) (outlets : List (List (PlainMessage PlainVersion))) → count ≤ i → n ≡ count - i
    → BranchDue k may step p n end short f inlet outlets → NothingOwed outlets
branch_gave k may step p count i n end short f inlet outlets le e d = branch_given k may step p end short f inlet outlets (subst (λ n. BranchDue k may step p n end short f inlet outlets) (e ∙ none_more count i le) d)
