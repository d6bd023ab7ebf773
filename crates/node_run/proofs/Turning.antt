-- A node before and after a turn.
use Rattle.std.proofs.Common.{◌≡◌, ◌∙◌, ℕ, suc, List, [], ◌∷◌, length, map, ap, refl, sym, subst, false}
use Rattle.std.specs.Prelude.{Some}
use Rattle.packet_fields.specs.declared.field.Field.{Field}
use Rattle.packet_version.specs.Splitting.{PlainApart}
use Rattle.packet_version.specs.Tallies.{count_of, raised}
use Rattle.packet_version.specs.Versions.{PlainVersion}
use Rattle.packet_messages.specs.Messages.{PlainMessage, rest}
use Rattle.stage_nodes.specs.Streams.{Kit, left, dealer_copies, merged_rows}
use Rattle.stage_nodes.specs.Dues.{ComesFrom, BranchDue, DealerDue}
use Rattle.stage_nodes.specs.Turns.{BranchOwes, DealerOwes, MergerOwes}
use Rattle.stage_nodes.specs.declared.branch.Branch.{Branch}
use Rattle.stage_nodes.specs.declared.dealer.Dealer.{Dealer}
use Rattle.stage_nodes.specs.declared.merger.Merger.{Merger}
use Rattle.node_run.specs.declared.node.Node.{Node}
use Rattle.node_run.specs.declared.node.Node.TheVariants as node
use Rattle.node_run.specs.Nodes.{HasTurned, copies_by, in_turn, is_going, is_ready, made_by, merger_ready}
use Rattle.node_run.proofs.Shares.{came_all}

turned_dealer : {F : Type 0} (k : Kit F) (may : F → ℕ → PlainVersion → Type 0) (old new : Dealer (List (List (PlainMessage PlainApart))))
    → DealerDue ComesFrom old.parts old.count (in_turn old.count old.source) old.source old.to.ends.versions old.to.ends.bases
    → ((total : Field → ℕ) → DealerOwes ComesFrom total old → DealerOwes ComesFrom total new) → (new.to.short ≡ false → old.to.short ≡ false) → HasTurned k may (node.Dealer old) (node.Dealer new)
turned_dealer k may old new due owes ample =
    let total = λ (f : Field). raised (count_of old.tally f) (dealer_copies old.parts.touches (in_turn old.count old.source) f) in
    let start : DealerOwes ComesFrom total old = record { coming = in_turn old.count old.source; due = due; counted = λ w f. refl } in
    let at : DealerOwes ComesFrom total new = owes total start in
    let come : at.coming ≡ in_turn new.count new.source = came_all new.source new.count at.coming at.due.takes at.due.many in record {
      going = subst (λ y. DealerDue ComesFrom new.parts new.count y new.source new.to.ends.versions new.to.ends.bases) come at.due;
      owes = λ w. record {
        ample = ample w;
        functions = refl;
        copies = λ f. ap (λ y. raised (count_of new.tally f) (dealer_copies new.parts.touches y f)) (sym come) ∙ at.counted w f;
      };
    }

pub dealer_turned : {F : Type 0} (k : Kit F) (may : F → ℕ → PlainVersion → Type 0) (n : Node F) (old new : Dealer (List (List (PlainMessage PlainApart)))) → n ≡ node.Dealer old → is_going k may n
    → ((total : Field → ℕ) → DealerOwes ComesFrom total old → DealerOwes ComesFrom total new) → (new.to.short ≡ false → old.to.short ≡ false) → HasTurned k may n (node.Dealer new)
dealer_turned k may n old new e g owes ample = subst (λ y. HasTurned k may y (node.Dealer new)) (sym e) (turned_dealer k may old new (subst (is_going k may) e g) owes ample)

-- the functions that remain in the end
branch_end : {F : Type 0} (k : Kit F) (may : F → ℕ → PlainVersion → Type 0) (end : F) (b : Branch F) → BranchOwes k may end b → b.to.short ≡ false → left k b.work b.inlet ≡ end
branch_end k may end b d w = ap (λ g. left k g b.inlet) (d.same w) ∙ d.ends

ends_same : {F : Type 0} (k : Kit F) (may : F → ℕ → PlainVersion → Type 0) (end : F) (old new : Branch F) → BranchOwes k may end old → BranchOwes k may end new → old.to.short ≡ false → new.to.short ≡ false
    → Some (left k new.work new.inlet) ≡ Some (left k old.work old.inlet)
ends_same k may end old new o n v w = ap (λ g. Some g) (branch_end k may end new n w ∙ sym (branch_end k may end old o v))

turned_branch : {F : Type 0} (k : Kit F) (may : F → ℕ → PlainVersion → Type 0) (old new : Branch F) → is_going k may (node.Branch old)
    → ((end : F) → BranchOwes k may end old → BranchOwes k may end new) → (new.to.short ≡ false → old.to.short ≡ false) → HasTurned k may (node.Branch old) (node.Branch new)
turned_branch k may old new g owes ample = record {
  going = (g.0, owes g.0 g.1);
  owes = λ w. record { ample = ample w; functions = ends_same k may g.0 old new g.1 (owes g.0 g.1) (ample w) w; copies = λ f. refl };
}

pub branch_turned : {F : Type 0} (k : Kit F) (may : F → ℕ → PlainVersion → Type 0) (n : Node F) (old new : Branch F) → n ≡ node.Branch old → is_going k may n
    → ((end : F) → BranchOwes k may end old → BranchOwes k may end new) → (new.to.short ≡ false → old.to.short ≡ false) → HasTurned k may n (node.Branch new)
branch_turned k may n old new e g owes ample = subst (λ y. HasTurned k may y (node.Branch new)) (sym e) (turned_branch k may old new (subst (is_going k may) e g) owes ample)

-- at first

rows_length : (bases : List (PlainMessage PlainApart)) (columns : List (List (PlainMessage PlainVersion))) → length (merged_rows bases columns) ≡ length bases
unfolding merged_rows
rows_length [] columns = refl
rows_length (b ∷ bases) columns = ap suc (rows_length bases (map rest columns))

merger_owed : (m : Merger) → merger_ready m → MergerOwes m
merger_owed m r = (record { many = ap length r.2.gives ∙ rows_length m.base m.inlets ∙ r.2.many; due = λ w. r.2 }, r.1, r.3)

pub ready_going : {F : Type 0} (k : Kit F) (may : F → ℕ → PlainVersion → Type 0) (n : Node F) → is_ready k may n → is_going k may n
ready_going k may (node.Dealer d) r = r.2
ready_going k may (node.Branch b) r = (left k b.work b.inlet, subst (λ s. BranchDue k may b.step b.first b.count (left k b.work b.inlet) s b.work b.inlet b.to.ends) (sym r.0) r.1)
ready_going k may (node.Replica b) r = (left k b.work b.inlet, subst (λ s. BranchDue k may b.step b.first b.count (left k b.work b.inlet) s b.work b.inlet b.to.ends) (sym r.0) r.1)
ready_going k may (node.Merger m) r = merger_owed m r

pub made_first : {F : Type 0} (k : Kit F) (may : F → ℕ → PlainVersion → Type 0) (f : Field) (n : Node F) → is_ready k may n → made_by f n ≡ raised 0 (copies_by f n)
made_first k may f (node.Dealer d) r = ap (λ y. raised y (dealer_copies d.parts.touches (in_turn d.count d.source) f)) (r.1 f)
made_first k may f (node.Branch b) r = refl
made_first k may f (node.Replica b) r = refl
made_first k may f (node.Merger m) r = refl
