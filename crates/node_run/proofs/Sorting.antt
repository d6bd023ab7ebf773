-- The nodes of branches, with the replicas after the others.
use Rattle.std.proofs.Common.{◌≡◌, ◌+◌, ◌∙◌, ℕ, List, [], ◌∷◌, ◌++◌, ap, refl, sym, subst, arith, All, append_assoc}
use Rattle.std.proofs.lemmas.List.{append-nil}
use Rattle.std.proofs.lemmas.List.Elements.{All-nil, All-head, All-tail, All-push, All-append}
use Rattle.packet_fields.specs.declared.field.Field.{Field}
use Rattle.packet_version.specs.Versions.{PlainVersion}
use Rattle.stage_nodes.specs.Streams.{Kit}
use Rattle.stage_nodes.specs.declared.branch.Branch.{Branch}
use Rattle.node_run.specs.declared.node.Node.{Node}
use Rattle.node_run.specs.declared.node.Node.TheVariants as node
use Rattle.node_run.specs.Crews.{AreSorted}
use Rattle.node_run.specs.Nodes.{AreNodes, added, copies_by, copies_by_all, gather, is_ready, left_by}
use Rattle.node_run.proofs.Wiring.{copies_append, gather_append}

pub none_sorted : {F : Type 0} (k : Kit F) (may : F → ℕ → PlainVersion → Type 0) (nodes todo first others : List (Node F)) (fs : List F) (c : Field → ℕ)
    → todo ≡ nodes → first ≡ [] → others ≡ [] → AreNodes k may nodes fs c → AreSorted k may fs c first others todo
unfolding gather copies_by_all
none_sorted k may nodes todo first others fs c t a b n = record {
  ready_first = subst (All (is_ready k may)) (sym a) (All-nil (is_ready k may));
  ready_others = subst (All (is_ready k may)) (sym b) (All-nil (is_ready k may));
  ready_rest = subst (All (is_ready k may)) (sym t) n.ready;
  gives = ap (λ y. gather k y ++ gather k todo) a ∙ ap (gather k) t ∙ n.gives;
  none = ap (gather k) b;
  makes = λ f. omega (arith, ap (copies_by_all f) a, ap (copies_by_all f) b, ap (copies_by_all f) t, n.makes f);
}

copies_push : {F : Type 0} (f : Field) (ns new : List (Node F)) (n : Node F) → new ≡ ns ++ n ∷ [] → copies_by_all f new ≡ copies_by_all f ns + copies_by f n
unfolding copies_by_all
copies_push f ns new n e = ap (copies_by_all f) e ∙ copies_append f ns (n ∷ []) ∙ omega arith

copies_next : {F : Type 0} (f : Field) (was ns : List (Node F)) (n : Node F) → was ≡ n ∷ ns → copies_by_all f was ≡ copies_by f n + copies_by_all f ns
unfolding copies_by_all
copies_next f was ns n e = ap (copies_by_all f) e

gather_next : {F : Type 0} (k : Kit F) (ns : List (Node F)) (n : Node F) → gather k (n ∷ ns) ≡ added (left_by k n) (gather k ns)
unfolding gather
gather_next k ns n = refl

-- the next goes to the first
pub first_sorted : {F : Type 0} (k : Kit F) (may : F → ℕ → PlainVersion → Type 0) (first first' others others' was todo : List (Node F)) (n : Node F) (fs : List F) (c : Field → ℕ)
    → first' ≡ first ++ n ∷ [] → others' ≡ others → was ≡ n ∷ todo → AreSorted k may fs c first others was → AreSorted k may fs c first' others' todo
first_sorted k may first first' others others' was todo n fs c a b t h =
    let ready : All (is_ready k may) (n ∷ todo) = subst (All (is_ready k may)) t h.ready_rest in record {
      ready_first = subst (All (is_ready k may)) (sym a) (All-push (is_ready k may) first n h.ready_first (All-head (is_ready k may) n todo ready));
      ready_others = subst (All (is_ready k may)) (sym b) h.ready_others;
      ready_rest = All-tail (is_ready k may) n todo ready;
      gives = sym (gather_append k first' todo) ∙ ap (λ y. gather k (y ++ todo)) a ∙ ap (gather k) (append_assoc first (n ∷ []) todo) ∙ ap (λ y. gather k (first ++ y)) (sym t) ∙ gather_append k first was ∙ h.gives;
      none = ap (gather k) b ∙ h.none;
      makes = λ f. omega (arith, copies_push f first first' n a, ap (copies_by_all f) b, copies_next f was todo n t, h.makes f);
    }

gives_none : {F : Type 0} (k : Kit F) (b : Branch F) → gather k (node.Replica b ∷ []) ≡ []
unfolding gather
gives_none k b = refl

-- it goes to the others
pub other_sorted : {F : Type 0} (k : Kit F) (may : F → ℕ → PlainVersion → Type 0) (first first' others others' was todo : List (Node F)) (b : Branch F) (fs : List F) (c : Field → ℕ)
    → first' ≡ first → others' ≡ others ++ node.Replica b ∷ [] → was ≡ node.Replica b ∷ todo → AreSorted k may fs c first others was → AreSorted k may fs c first' others' todo
other_sorted k may first first' others others' was todo b fs c e o t h =
    let n = node.Replica b in
    let ready : All (is_ready k may) (n ∷ todo) = subst (All (is_ready k may)) t h.ready_rest in record {
      ready_first = subst (All (is_ready k may)) (sym e) h.ready_first;
      ready_others = subst (All (is_ready k may)) (sym o) (All-push (is_ready k may) others n h.ready_others (All-head (is_ready k may) n todo ready));
      ready_rest = All-tail (is_ready k may) n todo ready;
      gives = ap (λ y. gather k y ++ gather k todo) e ∙ ap (λ y. gather k first ++ y) (sym (gather_next k todo n)) ∙ ap (λ y. gather k first ++ gather k y) (sym t) ∙ h.gives;
      none = ap (gather k) o ∙ gather_append k others (n ∷ []) ∙ ap (λ y. gather k others ++ y) (gives_none k b) ∙ append-nil (gather k others) ∙ h.none;
      makes = λ f. omega (arith, copies_push f others others' n o, ap (copies_by_all f) e, copies_next f was todo n t, h.makes f);
    }

pub all_sorted : {F : Type 0} (k : Kit F) (may : F → ℕ → PlainVersion → Type 0) (first others todo all : List (Node F)) (fs : List F) (c : Field → ℕ)
    → AreSorted k may fs c first others todo → todo ≡ [] → all ≡ first ++ others → AreNodes k may all fs c
unfolding gather copies_by_all
all_sorted k may first others todo all fs c h t e = record {
  ready = subst (All (is_ready k may)) (sym e) (All-append (is_ready k may) first others h.ready_first h.ready_others);
  gives = ap (gather k) e ∙ gather_append k first others ∙ ap (λ y. gather k first ++ y) h.none ∙ ap (λ y. gather k first ++ gather k y) (sym t) ∙ h.gives;
  makes = λ f. omega (arith, ap (copies_by_all f) e, copies_append f first others, ap (copies_by_all f) t, h.makes f);
}
