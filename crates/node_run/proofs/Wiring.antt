-- The links of a stage fit each other.
use Rattle.std.proofs.Common.{◌≡◌, ◌<◌, ◌≤◌, ◌+◌, ◌-◌, ◌∙◌, ℕ, zero, suc, pred, List, [], ◌∷◌, ◌++◌, length, map, drop, refl, arith, ap, sym, subst, false, All, append_assoc, length-append, slice_index_or}
use Rattle.std.proofs.lemmas.List.{append-nil, drop_more, length-map}
use Rattle.std.proofs.lemmas.List.Elements.{All-append, All-nil, All-cons}
use Rattle.packet_fields.specs.declared.field.Field.{Field}
use Rattle.action_profile.specs.Modes.{modes_of}
use Rattle.action_profile.specs.declared.parts.StageParts.{StageParts}
use Rattle.action_profile.specs.declared.parts.Touch.{Touch}
use Rattle.packet_version.specs.Splitting.{PlainApart}
use Rattle.packet_version.specs.Tallies.{count_of}
use Rattle.packet_version.specs.Versions.{PlainVersion}
use Rattle.packet_messages.specs.Messages.{PlainMessage, Owing, first, front, rest}
use Rattle.packet_messages.specs.Turns.{share, share_len, shares_from, shares, columns, columns_from}
use Rattle.stage_nodes.specs.Streams.{Kit, PlainStage, parted, base_of, moved, joined, ran, left, came_from, stayed, merged_rows, passed, dealer_copies}
use Rattle.stage_nodes.specs.Flows.{MayTakeAll, MayTakeEach, AllMayTake, Belongs, AllBelong, MayPass}
use Rattle.stage_nodes.specs.Dues.{AreFanned, ComesFrom, DealerDue, BranchDue, MergerDue}
use Rattle.stage_nodes.specs.declared.branch.Branch.{Branch}
use Rattle.stage_nodes.specs.declared.merger.Merger.{Merger}
use Rattle.node_run.specs.declared.branches.Branches.{Branches}
use Rattle.node_run.specs.declared.node.Node.{Node}
use Rattle.node_run.specs.declared.node.Node.TheVariants as node
use Rattle.node_run.specs.declared.wire.WiredStage.{WiredStage}
use Rattle.node_run.specs.Nodes.{AreNodes, added, in_turn, copies_by, copies_by_all, gather, is_ready, left_by, merger_ready, no_copies}
use Rattle.node_run.specs.Edges.{branch_ends, branches_ends, ends_at, version_ends, versions_ends}
use Rattle.node_run.specs.Wired.{AreWired, AreWiring, HasWired, IsFanned, IsWired, MergersFit}
use Rattle.packet_messages.proofs.Turning.{share_long, one_share}
use Rattle.node_run.proofs.Shares.{columns_front, columns_rest}

-- an iterator at its end has nothing left
pub none_left : {A : Type 0} (n : ℕ) (xs : List A) → n ≡ 0 → length xs ≡ n → xs ≡ []
none_left n [] z e = refl
none_left n (x ∷ xs) z e = absurd (omega (arith, z, e))

pub tail_is : {A : Type 0} {x y : A} {xs ys : List A} → ◌≡◌ {A = List A} (x ∷ xs) (y ∷ ys) → (x ≡ y) × (xs ≡ ys)
tail_is e = (cc, cc)

-- lengths

pub ran_length : {F : Type 0} (k : Kit F) (f : F) (xs : List (PlainMessage PlainVersion)) → length (ran k f xs) ≡ length xs
unfolding ran
ran_length k f [] = refl
ran_length k f (x ∷ xs) = ap suc (ran_length k (moved k f x) xs)

merged_length : (bases : List (PlainMessage PlainApart)) (columns : List (List (PlainMessage PlainVersion))) → length (merged_rows bases columns) ≡ length bases
unfolding merged_rows
merged_length [] columns = refl
merged_length (b ∷ bases) columns = ap suc (merged_length bases (map rest columns))

pub passed_length : {F : Type 0} (k : Kit F) (s : PlainStage F) (xs : List (PlainMessage PlainApart)) → length (passed k s xs) ≡ length xs
passed_length k s xs = merged_length (map (base_of s.parts.touches) xs) (came_from k s.parts.touches s.branches xs) ∙ length-map xs (base_of s.parts.touches)

pub parted_many : (t : Touch) (count : ℕ) (xs : List (PlainMessage PlainApart)) (due : List (PlainMessage PlainVersion)) → due ≡ map (parted t) xs → length xs ≡ count → length due ≡ count
parted_many t count xs due e many = ap length e ∙ length-map xs (parted t) ∙ many

pub ran_many : {F : Type 0} (k : Kit F) (f : F) (t : Touch) (count : ℕ) (xs : List (PlainMessage PlainApart)) (due : List (PlainMessage PlainVersion)) → due ≡ ran k f (map (parted t) xs) → length xs ≡ count → length due ≡ count
ran_many k f t count xs due e many = ap length e ∙ ran_length k f (map (parted t) xs) ∙ length-map xs (parted t) ∙ many

pub base_many : (ts : List Touch) (count : ℕ) (xs due : List (PlainMessage PlainApart)) → due ≡ map (base_of ts) xs → length xs ≡ count → length due ≡ count
base_many ts count xs due e many = ap length e ∙ length-map xs (base_of ts) ∙ many

pub passed_many : {F : Type 0} (k : Kit F) (s : PlainStage F) (count : ℕ) (xs due : List (PlainMessage PlainApart)) → due ≡ passed k s xs → length xs ≡ count → length due ≡ count
passed_many k s count xs due e many = ap length e ∙ passed_length k s xs ∙ many

pub came_many : {F : Type 0} (k : Kit F) (touches : List Touch) (fs : List F) (xs : List (PlainMessage PlainApart)) → length fs ≡ length touches → length (came_from k touches fs xs) ≡ length touches
unfolding came_from
came_many k [] fs xs e = refl
came_many k (t ∷ touches) [] xs e = absurd (omega (arith, e))
came_many k (t ∷ touches) (f ∷ fs) xs e = ap suc (came_many k touches fs xs (omega (arith, e)))

pub came_even : {F : Type 0} (k : Kit F) (touches : List Touch) (fs : List F) (xs : List (PlainMessage PlainApart)) (count : ℕ) → length xs ≡ count → All (λ column. length column ≡ count) (came_from k touches fs xs)
unfolding came_from
came_even k [] fs xs count e = All-nil _
came_even k (t ∷ touches) [] xs count e = All-nil _
came_even k (t ∷ touches) (f ∷ fs) xs count e =
    All-cons (λ column. length column ≡ count) (ran k f (map (parted t) xs)) (came_from k touches fs xs)
    (ran_length k f (map (parted t) xs) ∙ length-map xs (parted t) ∙ e)
    (came_even k touches fs xs count e)

-- gathering

pub gather_append : {F : Type 0} (k : Kit F) (ns more : List (Node F)) → gather k (ns ++ more) ≡ gather k ns ++ gather k more
unfolding gather
gather_append k [] more = refl
gather_append k (n ∷ ns) more = ap (added (left_by k n)) (gather_append k ns more) ∙ add n
  where
    add : (n : Node _) → added (left_by k n) (gather k ns ++ gather k more) ≡ added (left_by k n) (gather k ns) ++ gather k more
    add (node.Dealer d) = refl
    add (node.Branch b) = refl
    add (node.Replica b) = refl
    add (node.Merger m) = refl

pub copies_append : {F : Type 0} (f : Field) (ns more : List (Node F)) → copies_by_all f (ns ++ more) ≡ copies_by_all f ns + copies_by_all f more
unfolding copies_by_all
copies_append f [] more = omega arith
copies_append f (n ∷ ns) more = omega (arith, copies_append f ns more)

pub no_nodes : {F : Type 0} (k : Kit F) (may : F → ℕ → PlainVersion → Type 0) (nodes : List (Node F)) → nodes ≡ [] → AreNodes k may nodes [] no_copies
unfolding gather copies_by_all
no_nodes k may nodes n = record {
  ready = subst (All (is_ready k may)) (sym n) (All-nil (is_ready k may));
  gives = ap (gather k) n;
  makes = λ f. ap (copies_by_all f) n;
}

pub one_node : {F : Type 0} (k : Kit F) (may : F → ℕ → PlainVersion → Type 0) (n : Node F) → is_ready k may n → AreNodes k may (n ∷ []) (added (left_by k n) []) (λ f. copies_by f n)
unfolding gather copies_by_all
one_node k may n r = record {
  ready = All-cons (is_ready k may) n [] r (All-nil (is_ready k may));
  gives = refl;
  makes = λ f. omega arith;
}

pub nodes_append : {F : Type 0} (k : Kit F) (may : F → ℕ → PlainVersion → Type 0) (ns more : List (Node F)) (fs gs : List F) (c d : Field → ℕ)
    → AreNodes k may ns fs c → AreNodes k may more gs d → AreNodes k may (ns ++ more) (fs ++ gs) (λ f. c f + d f)
nodes_append k may ns more fs gs c d a b = record {
  ready = All-append (is_ready k may) ns more a.ready b.ready;
  gives = gather_append k ns more ∙ ap (λ y. y ++ gather k more) a.gives ∙ ap (λ y. fs ++ y) b.gives;
  makes = λ f. omega (arith, copies_append f ns more, a.makes f, b.makes f);
}

pub nodes_are : {F : Type 0} (k : Kit F) (may : F → ℕ → PlainVersion → Type 0) (ns new : List (Node F)) (fs gs : List F) (c d : Field → ℕ)
    → AreNodes k may ns fs c → new ≡ ns → gs ≡ fs → ((f : Field) → d f ≡ c f) → AreNodes k may new gs d
nodes_are k may ns new fs gs c d a n g e = record {
  ready = subst (All (is_ready k may)) (sym n) a.ready;
  gives = ap (gather k) n ∙ a.gives ∙ sym g;
  makes = λ f. ap (copies_by_all f) n ∙ a.makes f ∙ sym (e f);
}

pub nodes_push : {F : Type 0} (k : Kit F) (may : F → ℕ → PlainVersion → Type 0) (ns new : List (Node F)) (n : Node F) (fs : List F) (c : Field → ℕ)
    → new ≡ ns ++ n ∷ [] → is_ready k may n → AreNodes k may ns fs c → AreNodes k may new (fs ++ added (left_by k n) []) (λ f. c f + copies_by f n)
nodes_push k may ns new n fs c e r a =
    nodes_are k may (ns ++ n ∷ []) new _ _ _ _ (nodes_append k may ns (n ∷ []) fs (added (left_by k n) []) c (λ f. copies_by f n) a (one_node k may n r)) e refl (λ f. refl)

-- a branch of one node

-- the numbers of packets, one after another
may_each : {F : Type 0} (k : Kit F) (may : F → ℕ → PlainVersion → Type 0) (f : F) (p : ℕ) (xs : List (PlainMessage PlainVersion)) → MayTakeAll k may f p xs → MayTakeEach k may 1 f p xs
unfolding MayTakeAll MayTakeEach
may_each k may f p [] all = tt
may_each k may f p (x ∷ xs) all =
    let up : suc p ≡ p + 1 = omega arith in
    (all.0, subst (λ n. MayTakeEach k may 1 (moved k f x) n xs) up (may_each k may (moved k f x) (suc p) xs all.1))

branch_due : {F : Type 0} (k : Kit F) (may : F → ℕ → PlainVersion → Type 0) (m count : ℕ) (f : F) (xs inlet : List (PlainMessage PlainVersion)) (outlets : List (List (PlainMessage PlainVersion)))
    → 0 < m → count < 65537 → length xs ≡ count → MayTakeAll k may f 0 xs → inlet ≡ xs → outlets ≡ shares m (ran k f xs) → BranchDue k may 1 0 count (left k f inlet) false f inlet outlets
branch_due k may m count f xs inlet outlets lt few many take i o = record {
  mergers = m;
  now = f;
  some = lt;
  many = ap length i ∙ many;
  few = omega (arith, few);
  take = subst (MayTakeEach k may 1 f 0) (sym i) (may_each k may f 0 xs take);
  gives = o ∙ ap (λ y. shares m (ran k f y)) (sym i);
  same = λ _. refl;
  ends = refl;
}

pub branch_added : {F : Type 0} (k : Kit F) (may : F → ℕ → PlainVersion → Type 0) (m count : ℕ) (t : Touch) (xs : List (PlainMessage PlainApart)) (b : Branch F) (inlets inlets' : List (List (PlainMessage PlainVersion))) (old new : List (Node F)) (fs : List F) (c : Field → ℕ)
    → 0 < m → count < 65537 → length xs ≡ count → MayTakeAll k may b.work 0 (map (parted t) xs) → inlets ≡ shares 1 (map (parted t) xs) → inlets ≡ b.inlet ∷ inlets'
    → b.to.ends ≡ shares m (ran k b.work (map (parted t) xs)) → b.first ≡ 0 → b.step ≡ 1 → b.count ≡ count → b.to.short ≡ false
    → new ≡ old ++ node.Branch b ∷ [] → AreNodes k may old fs c → AreNodes k may new (fs ++ left k b.work (map (parted t) xs) ∷ []) c
branch_added k may m count t xs b inlets inlets' old new fs c lt few many take is first o p s e w n a =
    let i : b.inlet ≡ map (parted t) xs = (tail_is (sym first ∙ is ∙ one_share (map (parted t) xs))).0 in
    let due : BranchDue k may 1 0 count (left k b.work b.inlet) false b.work b.inlet b.to.ends =
    branch_due k may m count b.work (map (parted t) xs) b.inlet b.to.ends lt few (length-map xs (parted t) ∙ many) take i o in
    let r : is_ready k may (node.Branch b) = (
      w,
      subst (λ y. BranchDue k may b.step b.first y (left k b.work b.inlet) false b.work b.inlet b.to.ends) (sym e)
          (subst (λ y. BranchDue k may b.step y count (left k b.work b.inlet) false b.work b.inlet b.to.ends) (sym p)
          (subst (λ y. BranchDue k may y 0 count (left k b.work b.inlet) false b.work b.inlet b.to.ends) (sym s) due)),
    ) in
    nodes_are k may new new _ _ _ _ (nodes_push k may old new (node.Branch b) fs c n r a) refl (ap (λ y. fs ++ left k b.work y ∷ []) (sym i)) (λ f. omega arith)

pub fanned_one : (m : ℕ) (xs : List (PlainMessage PlainVersion)) (fan : List (List (PlainMessage PlainVersion))) (old new : List (List (List (PlainMessage PlainVersion))))
    → 0 < m → fan ≡ shares m xs → new ≡ old ++ fan ∷ [] → IsFanned xs old new
fanned_one m xs fan old new lt e n = (fan, (m, lt, e), n)

-- the branches of a stage

pub none_wired : {F : Type 0} (k : Kit F) (may : F → ℕ → PlainVersion → Type 0) (touches : List Touch) (fs : List F) (m : ℕ) (xs : List (PlainMessage PlainApart)) (todo : List F) (given : List (List (List (PlainMessage PlainVersion)))) (w : Branches F)
    → todo ≡ fs → length fs ≡ length touches → AllMayTake k may touches fs xs → given ≡ columns m (came_from k touches fs xs) → w.versions ≡ [] → w.nodes.items ≡ [] → AreWiring k may touches fs m xs 0 todo given w
unfolding branches_ends versions_ends
none_wired {F} k may touches fs m xs todo given w t owners take g v n = record {
  many = omega (arith, ap length t, owners);
  versions = λ later h. subst (λ y. AreFanned touches xs (y ++ later)) (sym v) h;
  ends = g ∙ ap (λ y. columns m (came_from k touches y xs)) (sym t);
  take = subst (λ y. AllMayTake k may touches y xs) (sym t) take;
  split = [];
  each = refl;
  fans = λ later. ap (λ y. y ++ versions_ends k m xs later touches) v;
  on = λ later. ap (λ (y : List (Node F)). map ends_at y ++ branches_ends k m xs later touches todo) n ∙ ap (λ y. branches_ends k m xs later touches y) t;
  functions = [];
  nodes = no_nodes k may w.nodes.items n;
  gives = ap (λ y. stayed k touches y xs) t;
}

-- the branch that is wired next, with this touch and these functions, and the ends that it gets
pub record BranchNext {F : Type 0} (k : Kit F) (may : F → ℕ → PlainVersion → Type 0) (touches : List Touch) (m : ℕ) (xs : List (PlainMessage PlainApart)) (j : ℕ) (todo : List F) (f : F) (touch : Touch) (given : List (List (List (PlainMessage PlainVersion)))) : Type 0 where
  pub touch_is : drop j touches ≡ touch ∷ drop (j + 1) touches
  pub take : MayTakeAll k may f 0 (map (parted touch) xs)
  pub take_later : AllMayTake k may (drop (j + 1) touches) todo xs
  pub ends_are : given ≡ columns m (ran k f (map (parted touch) xs) ∷ came_from k (drop (j + 1) touches) todo xs)

pub is_next : {F : Type 0} (k : Kit F) (may : F → ℕ → PlainVersion → Type 0) (touches : List Touch) (fs : List F) (m : ℕ) (xs : List (PlainMessage PlainApart)) (j : ℕ) (was todo : List F) (f : F) (given : List (List (List (PlainMessage PlainVersion)))) (w : Branches F)
    → AreWiring k may touches fs m xs j was given w → was ≡ f ∷ todo → j < length touches
is_next k may touches fs m xs j was todo f given w h t = omega (arith, h.many, ap length t)

pub branch_next : {F : Type 0} (k : Kit F) (may : F → ℕ → PlainVersion → Type 0) (touches : List Touch) (fs : List F) (m : ℕ) (xs : List (PlainMessage PlainApart)) (j : ℕ) (was todo : List F) (f : F) (none : Touch) (given : List (List (List (PlainMessage PlainVersion)))) (w : Branches F)
    → AreWiring k may touches fs m xs j was given w → was ≡ f ∷ todo → BranchNext k may touches m xs j todo f (slice_index_or touches j none) given
unfolding came_from AllMayTake
branch_next k may touches fs m xs j was todo f none given w h t =
    let touch = slice_index_or touches j none in
    let d : drop j touches ≡ touch ∷ drop (j + 1) touches = drop_more touches j none (is_next k may touches fs m xs j was todo f given w h t) in
    let a : AllMayTake k may (drop j touches) (f ∷ todo) xs = subst (λ y. AllMayTake k may (drop j touches) y xs) t h.take in
    let b : AllMayTake k may (touch ∷ drop (j + 1) touches) (f ∷ todo) xs = subst (λ y. AllMayTake k may y (f ∷ todo) xs) d a in record {
      touch_is = d;
      take = b.0;
      take_later = b.1;
      ends_are = h.ends ∙ ap (λ y. columns m (came_from k (drop j touches) y xs)) t ∙ ap (λ y. columns m (came_from k y (f ∷ todo) xs)) d;
    }

columns_owing : {A : Type 0} (m i c : ℕ) (rows : List (List A)) → 0 < length rows → All Owing (columns_from m i c rows)
unfolding columns_from
columns_owing m i zero rows some = All-nil Owing
columns_owing m i (suc c) rows some =
    let long = length-map rows (share m i) in
    let here : Owing (map (share m i) rows) = omega (arith, some, long) in
    All-cons Owing (map (share m i) rows) (columns_from m (suc i) c rows) here (columns_owing m (suc i) c rows some)

-- each merger has an end left for the next branch, and the first of each is its own
pub ends_left : {F : Type 0} (k : Kit F) (may : F → ℕ → PlainVersion → Type 0) (touches : List Touch) (m : ℕ) (xs : List (PlainMessage PlainApart)) (j : ℕ) (todo : List F) (f : F) (touch : Touch) (given : List (List (List (PlainMessage PlainVersion))))
    → BranchNext k may touches m xs j todo f touch given → All Owing given
ends_left k may touches m xs j todo f touch given h = subst (All Owing) (sym h.ends_are) (columns_owing m 0 m (ran k f (map (parted touch) xs) ∷ came_from k (drop (j + 1) touches) todo xs) (omega arith))

pub ends_own : {F : Type 0} (k : Kit F) (may : F → ℕ → PlainVersion → Type 0) (touches : List Touch) (m : ℕ) (xs : List (PlainMessage PlainApart)) (j : ℕ) (todo : List F) (f : F) (touch : Touch) (given : List (List (List (PlainMessage PlainVersion)))) (own : List (List (PlainMessage PlainVersion)))
    → BranchNext k may touches m xs j todo f touch given → own ≡ map front given → own ≡ shares m (ran k f (map (parted touch) xs))
ends_own k may touches m xs j todo f touch given own h e =
    e ∙ ap (map front) h.ends_are ∙ columns_front m 0 m (ran k f (map (parted touch) xs)) (came_from k (drop (j + 1) touches) todo xs)

pub wired_more : {F : Type 0} (k : Kit F) (may : F → ℕ → PlainVersion → Type 0) (touches : List Touch) (fs : List F) (m : ℕ) (xs : List (PlainMessage PlainApart)) (j : ℕ) (was todo : List F) (f : F) (touch : Touch) (given given' : List (List (List (PlainMessage PlainVersion)))) (w new : Branches F)
    → AreWiring k may touches fs m xs j was given w → was ≡ f ∷ todo → BranchNext k may touches m xs j todo f touch given → given' ≡ map rest given
    → HasWired k may touch f m xs w new
    → AreWiring k may touches fs m xs (j + 1) todo given' new
unfolding stayed AreFanned branches_ends versions_ends
wired_more k may touches fs m xs j was todo f touch given given' w new h t b g e = record {
  many = omega (arith, h.many, ap length t);
  versions = λ later r.
      let v : IsFanned (map (parted touch) xs) w.versions new.versions = e.versions in
      let both : AreFanned (touch ∷ drop (j + 1) touches) xs (v.0 ∷ later) = (v.1, r) in
      subst (AreFanned touches xs) (sym (ap (λ y. y ++ later) v.2 ∙ append_assoc w.versions (v.0 ∷ []) later))
      (h.versions (v.0 ∷ later) (subst (λ y. AreFanned y xs (v.0 ∷ later)) (sym b.touch_is) both));
  ends = g ∙ ap (map rest) b.ends_are ∙ columns_rest m 0 m (ran k f (map (parted touch) xs)) (came_from k (drop (j + 1) touches) todo xs);
  take = b.take_later;
  split = h.split ++ e.split ∷ [];
  each = omega (arith, length-append h.split (e.split ∷ []), h.each);
  fans = λ later.
      ap (λ y. y ++ versions_ends k m xs later (drop (j + 1) touches)) e.fan
      ∙ append_assoc w.versions (version_ends k m xs e.split touch ∷ []) (versions_ends k m xs later (drop (j + 1) touches))
      ∙ ap (λ y. w.versions ++ versions_ends k m xs (e.split ∷ later) y) (sym b.touch_is)
      ∙ h.fans (e.split ∷ later)
      ∙ ap (λ y. versions_ends k m xs y touches) (sym (append_assoc h.split (e.split ∷ []) later));
  on = λ later.
      ap (λ y. y ++ branches_ends k m xs later (drop (j + 1) touches) todo) e.joined.all
      ∙ append_assoc (map ends_at w.nodes.items) (branch_ends k m xs e.split touch f) (branches_ends k m xs later (drop (j + 1) touches) todo)
      ∙ ap (λ y. map ends_at w.nodes.items ++ branches_ends k m xs (e.split ∷ later) (touch ∷ drop (j + 1) touches) y) (sym t)
      ∙ ap (λ y. map ends_at w.nodes.items ++ branches_ends k m xs (e.split ∷ later) y was) (sym b.touch_is)
      ∙ h.on (e.split ∷ later)
      ∙ ap (λ y. branches_ends k m xs y touches fs) (sym (append_assoc h.split (e.split ∷ []) later));
  functions = h.functions ++ left k f (map (parted touch) xs) ∷ [];
  nodes = e.nodes h.functions no_copies h.nodes;
  gives = append_assoc h.functions (left k f (map (parted touch) xs) ∷ []) (stayed k (drop (j + 1) touches) todo xs)
      ∙ ap (λ y. h.functions ++ stayed k (touch ∷ drop (j + 1) touches) y xs) (sym t)
      ∙ ap (λ y. h.functions ++ stayed k y was xs) (sym b.touch_is)
      ∙ h.gives;
}

pub drop_none : {A : Type 0} (n : ℕ) (xs : List A) → length xs ≤ n → drop n xs ≡ []
drop_none zero [] le = refl
drop_none zero (x ∷ xs) le = absurd (omega arith)
drop_none (suc n) [] le = refl
drop_none (suc n) (x ∷ xs) le = drop_none n xs (omega arith)

pub all_wired : {F : Type 0} (k : Kit F) (may : F → ℕ → PlainVersion → Type 0) (touches : List Touch) (fs : List F) (m : ℕ) (xs : List (PlainMessage PlainApart)) (j : ℕ) (todo : List F) (given : List (List (List (PlainMessage PlainVersion)))) (w : Branches F)
    → AreWiring k may touches fs m xs j todo given w → todo ≡ [] → AreWired k may touches fs m xs w
unfolding stayed AreFanned branches_ends versions_ends
all_wired k may touches fs m xs j todo given w h t =
    let none : drop j touches ≡ [] = drop_none j touches (omega (arith, h.many, ap length t)) in record {
      versions = subst (AreFanned touches xs) (append-nil w.versions) (h.versions [] (subst (λ y. AreFanned y xs []) (sym none) tt));
      split = h.split;
      each = omega (arith, h.each, h.many, ap length t);
      fans = sym (append-nil w.versions) ∙ h.fans [] ∙ ap (λ y. versions_ends k m xs y touches) (append-nil h.split);
      on = sym (append-nil (map ends_at w.nodes.items)) ∙ h.on [] ∙ ap (λ y. branches_ends k m xs y touches fs) (append-nil h.split);
      nodes = nodes_are k may w.nodes.items w.nodes.items h.functions (stayed k touches fs xs) no_copies no_copies h.nodes refl
          (sym (sym (append-nil h.functions) ∙ ap (λ y. h.functions ++ stayed k y todo xs) (sym none) ∙ h.gives)) (λ f. refl);
    }

pub wired_by : {F : Type 0} (k : Kit F) (may : F → ℕ → PlainVersion → Type 0) (touches touches' : List Touch) (fs : List F) (m : ℕ) (xs : List (PlainMessage PlainApart)) (w : Branches F)
    → AreWired k may touches fs m xs w → touches ≡ touches' → AreWired k may touches' fs m xs w
wired_by k may touches touches' fs m xs w h e = subst (λ y. AreWired k may y fs m xs w) e h

-- the mergers

share_first : {P : Type 0} (m : ℕ) (columns : List (List (PlainMessage P))) → map first (map (share m 0) columns) ≡ map first columns
unfolding share
share_first m [] = refl
share_first m ([] ∷ columns) = ap (λ y. first [] ∷ y) (share_first m columns)
share_first m ((x ∷ c) ∷ columns) = ap (λ y. x ∷ y) (share_first m columns)

share_next : {P : Type 0} (m : ℕ) (columns : List (List (PlainMessage P))) → map rest (map (share m 0) columns) ≡ map (share m (pred m)) (map rest columns)
unfolding share
share_next m [] = refl
share_next m ([] ∷ columns) = ap (λ y. [] ∷ y) (share_next m columns)
share_next m ((x ∷ c) ∷ columns) = ap (λ y. share m (pred m) c ∷ y) (share_next m columns)

share_later : {P : Type 0} (m i : ℕ) (columns : List (List (PlainMessage P))) → map (share m (suc i)) columns ≡ map (share m i) (map rest columns)
unfolding share
share_later m i [] = refl
share_later m i ([] ∷ columns) = ap (λ y. [] ∷ y) (share_later m i columns)
share_later m i ((x ∷ c) ∷ columns) = ap (λ y. share m i c ∷ y) (share_later m i columns)

-- a merger's share of what is merged is what it merges of its shares
share_merged : (m i : ℕ) (bases : List (PlainMessage PlainApart)) (columns : List (List (PlainMessage PlainVersion))) → share m i (merged_rows bases columns) ≡ merged_rows (share m i bases) (map (share m i) columns)
unfolding share merged_rows
share_merged m i [] columns = refl
share_merged m zero (b ∷ bases) columns =
    ap (λ y. joined b y ∷ share m (pred m) (merged_rows bases (map rest columns))) (sym (share_first m columns))
    ∙ ap (λ y. joined b (map first (map (share m 0) columns)) ∷ y) (share_merged m (pred m) bases (map rest columns) ∙ ap (merged_rows (share m (pred m) bases)) (sym (share_next m columns)))
share_merged m (suc i) (b ∷ bases) columns = share_merged m i bases (map rest columns) ∙ ap (merged_rows (share m i bases)) (sym (share_later m i columns))

-- and parts of one packet are together in each share
share_belong : (m i : ℕ) (bases : List (PlainMessage PlainApart)) (columns : List (List (PlainMessage PlainVersion))) → AllBelong bases columns → AllBelong (share m i bases) (map (share m i) columns)
unfolding share AllBelong
share_belong m i [] columns h = tt
share_belong m zero (b ∷ bases) columns h = (
  subst (λ y. Belongs b y) (sym (share_first m columns)) h.0,
  subst (λ y. AllBelong (share m (pred m) bases) y) (sym (share_next m columns)) (share_belong m (pred m) bases (map rest columns) h.1),
)
share_belong m (suc i) (b ∷ bases) columns h = subst (λ y. AllBelong (share m i bases) y) (sym (share_later m i columns)) (share_belong m i bases (map rest columns) h.1)

pub all_tail : {A : Type 0} (R : A → Type 0) (x : A) (xs : List A) → All R (x ∷ xs) → All R xs
all_tail R x xs h k d lt = h (suc k) d (omega arith)

pub all_head : {A : Type 0} (R : A → Type 0) (x : A) (xs : List A) → All R (x ∷ xs) → R x
all_head R x xs h = h 0 x (omega arith)

pub share_even : {P : Type 0} (m i count own : ℕ) (columns : List (List (PlainMessage P))) → own ≡ share_len m i count → All (λ column. length column ≡ count) columns → All (λ column. length column ≡ own) (map (share m i) columns)
share_even m i count own [] w a = All-nil _
share_even m i count own (c ∷ columns) w a =
    All-cons (λ column. length column ≡ own) (share m i c) (map (share m i) columns)
    (share_long m i c ∙ ap (share_len m i) (all_head (λ column. length column ≡ count) c columns a) ∙ sym w)
    (share_even m i count own columns w (all_tail (λ column. length column ≡ count) c columns a))

-- one merger's ends, and those of the others
pub record MergerNext (m i c count : ℕ) (bases : List (List (PlainMessage PlainApart))) (inlets : List (List (List (PlainMessage PlainVersion)))) (outlets : List (List (PlainMessage PlainApart))) : Type 0 where
  pub base_some : 0 < length bases
  pub inlets_some : 0 < length inlets
  pub outlet_some : 0 < length outlets
  pub due : (base outlet : List (PlainMessage PlainApart)) (inlet : List (List (PlainMessage PlainVersion))) (bases' outlets' : List (List (PlainMessage PlainApart))) (inlets' : List (List (List (PlainMessage PlainVersion)))) (own : ℕ)
      → bases ≡ base ∷ bases' → outlets ≡ outlet ∷ outlets' → inlets ≡ inlet ∷ inlets' → own ≡ share_len m i count → MergerDue own base inlet outlet
  pub on : (base outlet : List (PlainMessage PlainApart)) (inlet : List (List (PlainMessage PlainVersion))) (bases' outlets' : List (List (PlainMessage PlainApart))) (inlets' : List (List (List (PlainMessage PlainVersion))))
      → bases ≡ base ∷ bases' → outlets ≡ outlet ∷ outlets' → inlets ≡ inlet ∷ inlets' → MergersFit m (i + 1) c count bases' inlets' outlets'

next_of : (m i c count : ℕ) (bases : List (List (PlainMessage PlainApart))) (inlets : List (List (List (PlainMessage PlainVersion)))) (outlets : List (List (PlainMessage PlainApart)))
    → MergersFit m i (suc c) count bases inlets outlets → MergerNext m i c count bases inlets outlets
unfolding shares_from columns_from
next_of m i c count bases inlets outlets h =
    let up : suc i ≡ i + 1 = omega arith in record {
      base_some = omega (arith, ap length h.takes);
      inlets_some = omega (arith, ap length h.come);
      outlet_some = omega (arith, ap length h.gives);
      due = λ base outlet inlet bases' outlets' inlets' own b o n w.
          let b' = tail_is (sym b ∙ h.takes) in
          let o' = tail_is (sym o ∙ h.gives) in
          let columns : inlet ≡ map (share m i) h.columns = (tail_is (sym n ∙ h.come)).0 in record {
            many = ap length b'.0 ∙ share_long m i h.coming ∙ ap (share_len m i) h.many ∙ sym w;
            some = omega (arith, ap length columns, length-map h.columns (share m i), h.some);
            few = omega (arith, ap length columns, length-map h.columns (share m i), h.few);
            even = subst (All (λ column. length column ≡ own)) (sym columns) (share_even m i count own h.columns w h.even);
            belong = subst (λ y. AllBelong base y) (sym columns) (subst (λ y. AllBelong y (map (share m i) h.columns)) (sym b'.0) (share_belong m i h.coming h.columns h.belong));
            gives = o'.0 ∙ share_merged m i h.coming h.columns ∙ ap (λ y. merged_rows y (map (share m i) h.columns)) (sym b'.0) ∙ ap (merged_rows base) (sym columns);
          };
      on = λ base outlet inlet bases' outlets' inlets' b o n.
          let b' = tail_is (sym b ∙ h.takes) in
          let o' = tail_is (sym o ∙ h.gives) in
          let n' = tail_is (sym n ∙ h.come) in record {
            coming = h.coming;
            columns = h.columns;
            many = h.many;
            some = h.some;
            few = h.few;
            even = h.even;
            belong = h.belong;
            takes = b'.1 ∙ ap (λ n. shares_from m n c h.coming) up;
            come = n'.1 ∙ ap (λ n. columns_from m n c h.columns) up;
            gives = o'.1 ∙ ap (λ n. shares_from m n c (merged_rows h.coming h.columns)) up;
          };
    }

pub merger_next : (m i count : ℕ) (bases : List (List (PlainMessage PlainApart))) (inlets : List (List (List (PlainMessage PlainVersion)))) (outlets : List (List (PlainMessage PlainApart)))
    → i < m → MergersFit m i (m - i) count bases inlets outlets → MergerNext m i (m - (i + 1)) count bases inlets outlets
merger_next m i count bases inlets outlets lt h =
    let e : m - i ≡ suc (m - (i + 1)) = omega arith in
    next_of m i (m - (i + 1)) count bases inlets outlets (subst (λ c. MergersFit m i c count bases inlets outlets) e h)

pub merger_added : {F : Type 0} (k : Kit F) (may : F → ℕ → PlainVersion → Type 0) (m : Merger) (old new : List (Node F)) (fs : List F) (c : Field → ℕ)
    → merger_ready m → new ≡ old ++ node.Merger m ∷ [] → AreNodes k may old fs c → AreNodes k may new fs c
merger_added k may m old new fs c due n a =
    nodes_are k may new new _ _ _ _ (nodes_push k may old new (node.Merger m) fs c n due a) refl (sym (append-nil fs)) (λ f. omega arith)

-- the whole stage

pub mergers_fit : {F : Type 0} (k : Kit F) (may : F → ℕ → PlainVersion → Type 0) (m count : ℕ) (s : PlainStage F) (xs : List (PlainMessage PlainApart)) (bases outlets : List (List (PlainMessage PlainApart))) (inlets : List (List (List (PlainMessage PlainVersion))))
    → MayPass k may s xs → length xs ≡ count → bases ≡ shares m (map (base_of s.parts.touches) xs) → outlets ≡ shares m (passed k s xs) → inlets ≡ columns_from m 0 m (came_from k s.parts.touches s.branches xs)
    → MergersFit m 0 m count bases inlets outlets
mergers_fit k may m count s xs bases outlets inlets p many b o i =
    let long : length (came_from k s.parts.touches s.branches xs) ≡ length s.parts.touches = came_many k s.parts.touches s.branches xs p.owners in record {
      coming = map (base_of s.parts.touches) xs;
      columns = came_from k s.parts.touches s.branches xs;
      many = length-map xs (base_of s.parts.touches) ∙ many;
      some = omega (arith, long, p.some);
      few = omega (arith, long, p.few);
      even = came_even k s.parts.touches s.branches xs count many;
      belong = p.belong;
      takes = b;
      come = i;
      gives = o;
    }

pub is_wired : {F S : Type 0} (k : Kit F) (may : F → ℕ → PlainVersion → Type 0) (comes : S → List (PlainMessage PlainApart) → Type 0) (m count : ℕ) (s : PlainStage F) (xs : List (PlainMessage PlainApart)) (source : S) (b : Branches F) (w : WiredStage F S)
    → MayPass k may s xs → 0 < m → length xs ≡ count → comes source xs → AreWired k may s.parts.touches s.branches m xs b
    → w.dealer.source ≡ source → w.dealer.count ≡ count → w.dealer.to.short ≡ false → ((f : Field) → count_of w.dealer.tally f ≡ 0) → w.dealer.parts ≡ s.parts → w.dealer.to.ends.versions ≡ b.versions → w.dealer.to.ends.bases ≡ shares m (map (base_of s.parts.touches) xs)
    → w.next ≡ shares m (passed k s xs)
    → ((gs : List F) (e : Field → ℕ) → AreNodes k may b.nodes.items gs e → AreNodes k may w.nodes.items gs e)
    → IsWired k may comes m count s xs source w
is_wired {F} {S} k may comes m count s xs source b w p lt many takes h src n ample none parts v bases next mergers = record {
  source_is = src;
  many = n;
  ample = ample;
  none = none;
  touches = ap (λ (p : StageParts). p.touches) parts;
  due = record {
    mergers = m;
    some = lt;
    modes = subst (λ (p : StageParts). p.modes ≡ modes_of p.touches) (sym parts) p.modes;
    branches = subst (λ (p : StageParts). 0 < length p.touches) (sym parts) p.some;
    few = subst (λ (p : StageParts). length p.touches ≤ 64) (sym parts) p.few;
    many = many ∙ sym n;
    takes = subst (λ y. comes y xs) (sym src) takes;
    gives = subst (λ (p : StageParts). AreFanned p.touches xs w.dealer.to.ends.versions) (sym parts) (subst (AreFanned s.parts.touches xs) (sym v) h.versions);
    gives_bases = bases ∙ ap (λ (p : StageParts). shares m (map (base_of p.touches) xs)) (sym parts);
  };
  nodes = mergers (stayed k s.parts.touches s.branches xs) no_copies h.nodes;
  next = next;
}

pub stage_pushed : {F : Type 0} (k : Kit F) (may : F → ℕ → PlainVersion → Type 0) (m count : ℕ) (s : PlainStage F) (source : List (List (PlainMessage PlainApart))) (w : WiredStage F (List (List (PlainMessage PlainApart)))) (old new : List (Node F)) (fs : List F) (c : Field → ℕ)
    → IsWired k may ComesFrom m count s (in_turn count source) source w → new ≡ old ++ node.Dealer w.dealer ∷ w.nodes.items → AreNodes k may old fs c
    → AreNodes k may new (fs ++ stayed k s.parts.touches s.branches (in_turn count source)) (λ f. c f + dealer_copies s.parts.touches (in_turn count source) f)
stage_pushed {F} k may m count s source w old new fs c i e nodes =
    let d = w.dealer in
    let xs = in_turn count source in
    let gone = stayed k s.parts.touches s.branches xs in
    let come : xs ≡ in_turn d.count d.source = λ j. in_turn (sym i.many j) (sym i.source_is j) in
    let ready : is_ready k may (node.Dealer d) = (i.ample, i.none, subst (λ y. DealerDue ComesFrom d.parts d.count y d.source d.to.ends.versions d.to.ends.bases) come i.due) in
    let own = nodes_append k may (node.Dealer d ∷ []) w.nodes.items [] gone _ no_copies (one_node k may (node.Dealer d) ready) i.nodes in
    nodes_are k may (old ++ node.Dealer d ∷ w.nodes.items) new _ (fs ++ gone) _ (λ f. c f + dealer_copies s.parts.touches xs f) (nodes_append k may old (node.Dealer d ∷ w.nodes.items) fs gone c _ nodes own) e refl
    (λ f. let q : dealer_copies s.parts.touches xs f ≡ copies_by {F = F} f (node.Dealer d) = ap (λ y. dealer_copies y xs f) (sym i.touches) ∙ ap (λ y. dealer_copies d.parts.touches y f) come in omega (arith, q))
