-- The nodes of a branch that keeps no state.
use Rattle.std.proofs.Common.{◌≡◌, ◌<◌, ◌≤◌, ◌+◌, ◌-◌, ◌*◌, ◌∙◌, ℕ, zero, suc, pred, List, [], ◌∷◌, ◌++◌, length, refl, arith, ap, sym, subst, false, All, length-append, mul-le-mul_right}
use Rattle.std.proofs.lemmas.List.{append-nil}
use Rattle.std.proofs.lemmas.List.Elements.{All-nil, All-push}
use Rattle.packet_fields.specs.declared.field.Field.{Field}
use Rattle.packet_version.specs.Versions.{PlainVersion}
use Rattle.packet_messages.specs.Messages.{PlainMessage, PlainMessage.Live, PlainMessage.Nil, PlainMessage.Short}
use Rattle.packet_messages.specs.Turns.{share, share_len, shares_from, shares}
use Rattle.stage_nodes.specs.Streams.{Kit, KeepsNothing, gave, moved, ran, left}
use Rattle.stage_nodes.specs.Flows.{MayTake, MayTakeAll, MayTakeEach}
use Rattle.stage_nodes.specs.Dues.{BranchDue}
use Rattle.stage_nodes.specs.declared.branch.Branch.{Branch}
use Rattle.node_run.specs.declared.node.Node.{Node}
use Rattle.node_run.specs.declared.node.Node.TheVariants as node
use Rattle.node_run.specs.Nodes.{AreNodes, branch_ready}
use Rattle.node_run.specs.Replicas.{AreReplicas, ReplicasFit}
use Rattle.packet_messages.proofs.Turning.{share_long, one_share}
use Rattle.node_run.proofs.Wiring.{all_head, all_tail, nodes_are, nodes_push, tail_is}

-- its functions stay

moved_same : {F : Type 0} (k : Kit F) (f : F) → KeepsNothing k f → (x : PlainMessage PlainVersion) → moved k f x ≡ f
moved_same k f h (Live v) = h.0 v
moved_same k f h (Nil p) = h.1
moved_same k f h Short = refl

pub left_same : {F : Type 0} (k : Kit F) (f : F) → KeepsNothing k f → (xs : List (PlainMessage PlainVersion)) → left k f xs ≡ f
unfolding left
left_same k f h [] = refl
left_same k f h (x ∷ xs) = ap (λ g. left k g xs) (moved_same k f h x) ∙ left_same k f h xs

-- what they make of a share is the share of what they make of all

ran_share : {F : Type 0} (k : Kit F) (f : F) → KeepsNothing k f → (m i : ℕ) (xs : List (PlainMessage PlainVersion)) → ran k f (share m i xs) ≡ share m i (ran k f xs)
unfolding share ran
ran_share k f h m i [] = refl
ran_share k f h m zero (x ∷ xs) =
    let same = moved_same k f h x in
    ap (λ g. gave k f x ∷ ran k g (share m (pred m) xs)) same
    ∙ ap (λ y. gave k f x ∷ y) (ran_share k f h m (pred m) xs)
    ∙ ap (λ g. gave k f x ∷ share m (pred m) (ran k g xs)) (sym same)
ran_share k f h m (suc i) (x ∷ xs) = ran_share k f h m i xs ∙ ap (λ g. share m i (ran k g xs)) (sym (moved_same k f h x))

-- and they may take it, for packets whose numbers are this far from each other

may_share : {F : Type 0} (k : Kit F) (may : F → ℕ → PlainVersion → Type 0) (f : F) → KeepsNothing k f → (m i p : ℕ) (xs : List (PlainMessage PlainVersion)) → 0 < m → MayTakeAll k may f p xs → MayTakeEach k may m f (p + i) (share m i xs)
unfolding MayTakeAll MayTakeEach share
may_share k may f h m i p [] lt all = tt
may_share k may f h m zero p (x ∷ xs) lt all =
    let here : p ≡ p + 0 = omega arith in
    let next : suc p + pred m ≡ p + 0 + m = omega (arith, lt) in
    let later : MayTakeAll k may f (suc p) xs = subst (λ g. MayTakeAll k may g (suc p) xs) (moved_same k f h x) all.1 in
    let each : MayTakeEach k may m f (p + 0 + m) (share m (pred m) xs) = subst (λ n. MayTakeEach k may m f n (share m (pred m) xs)) next (may_share k may f h m (pred m) (suc p) xs lt later) in
    (subst (λ n. MayTake may f n x) here all.0, subst (λ g. MayTakeEach k may m g (p + 0 + m) (share m (pred m) xs)) (sym (moved_same k f h x)) each)
may_share k may f h m (suc i) p (x ∷ xs) lt all =
    let next : suc p + i ≡ p + suc i = omega arith in
    let later : MayTakeAll k may f (suc p) xs = subst (λ g. MayTakeAll k may g (suc p) xs) (moved_same k f h x) all.1 in
    subst (λ n. MayTakeEach k may m f n (share m i xs)) next (may_share k may f h m i (suc p) xs lt later)

pub few_numbers : (m i own count : ℕ) → m ≤ 16 → i < m → own ≤ count → count < 65537 → i + own * m ≤ 4294967295
few_numbers m i own count few lt le small =
    let most : own * m ≤ 65536 * m = mul-le-mul_right m (omega (arith, le, small)) in
    over (own * m) most
  where
    over : (n : ℕ) → n ≤ 65536 * m → i + n ≤ 4294967295
    over n le = omega (arith, le, few, lt)

-- the node for a merger

-- its own ends, and those of the others
pub inlet_is : {F : Type 0} (k : Kit F) (may : F → ℕ → PlainVersion → Type 0) (f : F) (m i c count : ℕ) (versions : List (PlainMessage PlainVersion)) (inlets inlets' ends : List (List (PlainMessage PlainVersion))) (inlet : List (PlainMessage PlainVersion))
    → ReplicasFit k may f m i (suc c) count versions inlets ends → inlets ≡ inlet ∷ inlets' → (inlet ≡ share m i versions) × (inlets' ≡ shares_from m (suc i) c versions)
unfolding shares_from
inlet_is k may f m i c count versions inlets inlets' ends inlet h e = tail_is (sym e ∙ h.takes)

pub end_is : {F : Type 0} (k : Kit F) (may : F → ℕ → PlainVersion → Type 0) (f : F) (m i c count : ℕ) (versions : List (PlainMessage PlainVersion)) (inlets ends ends' : List (List (PlainMessage PlainVersion))) (end : List (PlainMessage PlainVersion))
    → ReplicasFit k may f m i (suc c) count versions inlets ends → ends ≡ end ∷ ends' → (end ≡ share m i (ran k f versions)) × (ends' ≡ shares_from m (suc i) c (ran k f versions))
unfolding shares_from
end_is k may f m i c count versions inlets ends ends' end h e = tail_is (sym e ∙ h.gives)

pub inlets_some : {F : Type 0} (k : Kit F) (may : F → ℕ → PlainVersion → Type 0) (f : F) (m i c count : ℕ) (versions : List (PlainMessage PlainVersion)) (inlets ends : List (List (PlainMessage PlainVersion)))
    → ReplicasFit k may f m i (suc c) count versions inlets ends → (0 < length inlets) × (0 < length ends)
unfolding shares_from
inlets_some k may f m i c count versions inlets ends h = (omega (arith, ap length h.takes), omega (arith, ap length h.gives))

pub replica_ready : {F : Type 0} (k : Kit F) (may : F → ℕ → PlainVersion → Type 0) (m i c count : ℕ) (versions : List (PlainMessage PlainVersion)) (inlets inlets' ends ends' : List (List (PlainMessage PlainVersion))) (end : List (PlainMessage PlainVersion)) (b : Branch F)
    → ReplicasFit k may b.work m i (suc c) count versions inlets ends → 0 < m → m ≤ 16 → i < m → count < 65537
    → inlets ≡ b.inlet ∷ inlets' → ends ≡ end ∷ ends' → b.to.ends ≡ end ∷ [] → b.step ≡ m → b.first ≡ i → b.count ≡ share_len m i count → b.count ≤ count → b.to.short ≡ false
    → branch_ready k may b
replica_ready k may m i c count versions inlets inlets' ends ends' end b h some few lt small takes gives out s p n le w =
    let inlet : b.inlet ≡ share m i versions = (inlet_is k may b.work m i c count versions inlets inlets' ends b.inlet h takes).0 in
    let own : end ≡ share m i (ran k b.work versions) = (end_is k may b.work m i c count versions inlets ends ends' end h gives).0 in
    let zero : 0 + i ≡ i = omega arith in
    let due : BranchDue k may m i b.count (left k b.work b.inlet) false b.work b.inlet b.to.ends = record {
      mergers = 1;
      now = b.work;
      some = omega arith;
      many = ap length inlet ∙ share_long m i versions ∙ ap (share_len m i) h.many ∙ sym n;
      few = few_numbers m i b.count count few lt le small;
      take = subst (MayTakeEach k may m b.work i) (sym inlet) (subst (λ n. MayTakeEach k may m b.work n (share m i versions)) zero (may_share k may b.work h.nothing m i 0 versions some h.take));
      gives = out ∙ ap (λ y. y ∷ []) (own ∙ sym (ran_share k b.work h.nothing m i versions)) ∙ sym (one_share (ran k b.work (share m i versions))) ∙ ap (λ y. shares 1 (ran k b.work y)) (sym inlet);
      same = λ _. refl;
      ends = refl;
    } in (
      w,
      subst (λ y. BranchDue k may b.step y b.count (left k b.work b.inlet) false b.work b.inlet b.to.ends) (sym p)
          (subst (λ y. BranchDue k may y i b.count (left k b.work b.inlet) false b.work b.inlet b.to.ends) (sym s) due),
    )

pub replicas_on : {F : Type 0} (k : Kit F) (may : F → ℕ → PlainVersion → Type 0) (f : F) (m i c count : ℕ) (versions : List (PlainMessage PlainVersion)) (inlets inlets' ends ends' : List (List (PlainMessage PlainVersion))) (inlet end : List (PlainMessage PlainVersion))
    → ReplicasFit k may f m i (suc c) count versions inlets ends → inlets ≡ inlet ∷ inlets' → ends ≡ end ∷ ends' → ReplicasFit k may f m (i + 1) c count versions inlets' ends'
replicas_on k may f m i c count versions inlets inlets' ends ends' inlet end h takes gives =
    let up : suc i ≡ i + 1 = omega arith in record {
      many = h.many;
      nothing = h.nothing;
      take = h.take;
      takes = (inlet_is k may f m i c count versions inlets inlets' ends inlet h takes).1 ∙ ap (λ n. shares_from m n c versions) up;
      gives = (end_is k may f m i c count versions inlets ends ends' end h gives).1 ∙ ap (λ n. shares_from m n c (ran k f versions)) up;
    }

-- node by node

pub replicas_fit : {F : Type 0} (k : Kit F) (may : F → ℕ → PlainVersion → Type 0) (f : F) (m count : ℕ) (versions : List (PlainMessage PlainVersion)) (inlets ends : List (List (PlainMessage PlainVersion))) (replicas : List F)
    → AreReplicas k f (m - 1) replicas → length versions ≡ count → MayTakeAll k may f 0 versions → inlets ≡ shares m versions → ends ≡ shares m (ran k f versions) → ReplicasFit k may f m 0 m count versions inlets ends
replicas_fit k may f m count versions inlets ends replicas r many take takes gives = record {
  many = many;
  nothing = r.nothing;
  take = take;
  takes = takes;
  gives = gives;
}

pub first_added : {F : Type 0} (k : Kit F) (may : F → ℕ → PlainVersion → Type 0) (b : Branch F) (f : F) (old new : List (Node F)) (fs : List F) (c : Field → ℕ)
    → branch_ready k may b → left k b.work b.inlet ≡ f → new ≡ old ++ node.Branch b ∷ [] → AreNodes k may old fs c → AreNodes k may new (fs ++ f ∷ []) c
first_added k may b f old new fs c r l n a =
    nodes_are k may new new _ _ _ _ (nodes_push k may old new (node.Branch b) fs c n r a) refl (ap (λ y. fs ++ y ∷ []) (sym l)) (λ f. omega arith)

pub replica_added : {F : Type 0} (k : Kit F) (may : F → ℕ → PlainVersion → Type 0) (b : Branch F) (old new : List (Node F)) (fs : List F) (c : Field → ℕ)
    → branch_ready k may b → new ≡ old ++ node.Replica b ∷ [] → AreNodes k may old fs c → AreNodes k may new fs c
replica_added k may b old new fs c r n a =
    nodes_are k may new new _ _ _ _ (nodes_push k may old new (node.Replica b) fs c n r a) refl (sym (append-nil fs)) (λ f. omega arith)

pub first_fits : {F : Type 0} (k : Kit F) (may : F → ℕ → PlainVersion → Type 0) (f : F) (m count : ℕ) (versions : List (PlainMessage PlainVersion)) (inlets ends : List (List (PlainMessage PlainVersion)))
    → 0 < m → ReplicasFit k may f m 0 m count versions inlets ends → ReplicasFit k may f m 0 (suc (m - 1)) count versions inlets ends
first_fits k may f m count versions inlets ends lt h =
    let e : m ≡ suc (m - 1) = omega (arith, lt) in
    subst (λ c. ReplicasFit k may f m 0 c count versions inlets ends) e h

-- Replicas are still to get their nodes, for the mergers from `i` on, of `m`.
pub record AreComing {F : Type 0} (k : Kit F) (may : F → ℕ → PlainVersion → Type 0) (f : F) (m i count : ℕ) (todo : List F) (inlets ends : List (List (PlainMessage PlainVersion))) : Type 0 where
  pub versions : List (PlainMessage PlainVersion)
  pub many : i + length todo ≡ m
  pub same : All (λ replica. replica ≡ f) todo
  pub fits : ReplicasFit k may f m i (length todo) count versions inlets ends

pub all_coming : {F : Type 0} (k : Kit F) (may : F → ℕ → PlainVersion → Type 0) (f : F) (m count : ℕ) (versions : List (PlainMessage PlainVersion)) (replicas todo : List F) (inlets ends inlets' ends' : List (List (PlainMessage PlainVersion)))
    → 0 < m → AreReplicas k f (m - 1) replicas → todo ≡ replicas → ReplicasFit k may f m 0 m count versions inlets ends
    → ((vs : List (PlainMessage PlainVersion)) (c : ℕ) → ReplicasFit k may f m 0 (suc c) count vs inlets ends → ReplicasFit k may f m (0 + 1) c count vs inlets' ends')
    → AreComing k may f m 1 count todo inlets' ends'
all_coming k may f m count versions replicas todo inlets ends inlets' ends' lt r t h on =
    let long : length todo ≡ m - 1 = ap length t ∙ r.many in
    let more : m ≡ suc (length todo) = omega (arith, long, lt) in record {
      versions = versions;
      many = omega (arith, long, lt);
      same = subst (All (λ replica. replica ≡ f)) (sym t) r.same;
      fits = on versions (length todo) (subst (λ c. ReplicasFit k may f m 0 c count versions inlets ends) more h);
    }

-- the next
pub record ComesNext {F : Type 0} (k : Kit F) (may : F → ℕ → PlainVersion → Type 0) (f replica : F) (m i count : ℕ) (todo : List F) (inlets ends : List (List (PlainMessage PlainVersion))) : Type 0 where
  pub versions : List (PlainMessage PlainVersion)
  pub inside : i < m
  pub is : replica ≡ f
  pub fits : ReplicasFit k may replica m i (suc (length todo)) count versions inlets ends
  pub on : (inlets' ends' : List (List (PlainMessage PlainVersion)))
      → ((vs : List (PlainMessage PlainVersion)) (c : ℕ) → ReplicasFit k may replica m i (suc c) count vs inlets ends → ReplicasFit k may replica m (i + 1) c count vs inlets' ends')
      → AreComing k may f m (i + 1) count todo inlets' ends'

pub comes_next : {F : Type 0} (k : Kit F) (may : F → ℕ → PlainVersion → Type 0) (f replica : F) (m i count : ℕ) (was todo : List F) (inlets ends : List (List (PlainMessage PlainVersion)))
    → AreComing k may f m i count was inlets ends → was ≡ replica ∷ todo → ComesNext k may f replica m i count todo inlets ends
comes_next {F} k may f replica m i count was todo inlets ends h t =
    let all = subst (All (λ replica. replica ≡ f)) t h.same in
    let is : replica ≡ f = all_head (λ replica. replica ≡ f) replica todo all in
    let fits : ReplicasFit k may replica m i (suc (length todo)) count h.versions inlets ends =
    subst (λ g. ReplicasFit k may g m i (suc (length todo)) count h.versions inlets ends) (sym is) (subst (λ (l : List F). ReplicasFit k may f m i (length l) count h.versions inlets ends) t h.fits) in record {
      versions = h.versions;
      inside = omega (arith, h.many, ap length t);
      is = is;
      fits = fits;
      on = λ inlets' ends' on. record {
        versions = h.versions;
        many = omega (arith, h.many, ap length t);
        same = all_tail (λ replica. replica ≡ f) replica todo all;
        fits = subst (λ g. ReplicasFit k may g m (i + 1) (length todo) count h.versions inlets' ends') is (on h.versions (length todo) fits);
      };
    }

-- all of them: the functions that the branch has at the end are those that it had before
pub replicas_added : {F : Type 0} (k : Kit F) (may : F → ℕ → PlainVersion → Type 0) (f : F) (versions : List (PlainMessage PlainVersion)) (old new : List (Node F))
    → KeepsNothing k f → ((fs : List F) (c : Field → ℕ) → AreNodes k may old fs c → AreNodes k may new (fs ++ f ∷ []) c)
    → (fs : List F) (c : Field → ℕ) → AreNodes k may old fs c → AreNodes k may new (fs ++ left k f versions ∷ []) c
replicas_added k may f versions old new h more fs c a = subst (λ g. AreNodes k may new (fs ++ g ∷ []) c) (sym (left_same k f h versions)) (more fs c a)

-- the functions, this number of times

pub record AreMade {F : Type 0} (k : Kit F) (f : F) (i : ℕ) (made : List F) : Type 0 where
  pub many : length made ≡ i
  pub same : All (λ replica. replica ≡ f) made
  pub nothing : 0 < i → KeepsNothing k f

pub none_made : {F : Type 0} (k : Kit F) (f : F) (made : List F) → made ≡ [] → AreMade k f 0 made
none_made k f made e = record {
  many = ap length e;
  same = subst (All (λ replica. replica ≡ f)) (sym e) (All-nil (λ replica. replica ≡ f));
  nothing = λ lt. absurd (omega (arith, lt));
}

pub one_made : {F : Type 0} (k : Kit F) (f replica : F) (i : ℕ) (made more : List F) → AreMade k f i made → replica ≡ f → KeepsNothing k f → more ≡ made ++ replica ∷ [] → AreMade k f (i + 1) more
one_made k f replica i made more h e n add = record {
  many = omega (arith, ap length add, length-append made (replica ∷ []), h.many);
  same = subst (All (λ replica. replica ≡ f)) (sym add) (All-push (λ replica. replica ≡ f) made replica h.same e);
  nothing = λ lt. n;
}

pub all_made : {F : Type 0} (k : Kit F) (f : F) (count i : ℕ) (made : List F) → 0 < count → count ≤ i → i ≤ count → AreMade k f i made → AreReplicas k f count made
all_made k f count i made some le most h = record {
  many = omega (arith, h.many, le, most);
  same = h.same;
  nothing = h.nothing (omega (arith, some, le));
}
