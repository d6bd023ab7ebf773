-- A run, stage by stage, node by node and packet by packet.
use Rattle.std.proofs.Common.{◌≡◌, ◌≢◌, ◌<◌, ◌≤◌, ◌+◌, ◌-◌, ◌∙◌, ℕ, suc, List, [], ◌∷◌, ◌++◌, length, map, refl, arith, ap, sym, subst, Bool, true, false, All, inl, inr, append_assoc, length-append, Result, Ok, Err, IfOk}
use Rattle.std.specs.Prelude.{OnOk}
use Rattle.std.proofs.lemmas.List.{append-nil, map-append}
use Rattle.std.proofs.lemmas.List.Elements.{All-nil, All-push}
use Rattle.packet_fields.specs.declared.field.Field.{Field}
use Rattle.packet_version.specs.Splitting.{PlainApart}
use Rattle.packet_version.specs.Tallies.{count_of, raised}
use Rattle.packet_version.specs.Versions.{PlainVersion}
use Rattle.chain_walk.specs.declared.walk.Fate.{Fate}
use Rattle.merge_ops.specs.Fates.{fate_behind}
use Rattle.merge_ops.specs.declared.merging.Merged.{Merged}
use Rattle.merge_ops.specs.declared.merging.Merged.TheVariants as ends
use Rattle.packet_messages.specs.Messages.{PlainMessage, Fits, is_short}
use Rattle.packet_messages.specs.Turns.{shares}
use Rattle.stage_nodes.specs.Streams.{Kit, PlainStage, as_merged, of_merged, passed, through, ends_of, stayed, dealer_copies, copies_along}
use Rattle.stage_nodes.specs.Flows.{MayPass, MayPassAll}
use Rattle.stage_nodes.specs.Dues.{ComesFrom, DealerDue}
use Rattle.stage_nodes.specs.Turns.{HasMore}
use Rattle.stage_nodes.specs.declared.dealer.Dealer.{Dealer}
use Rattle.node_run.specs.declared.node.Node.{Node}
use Rattle.node_run.specs.declared.node.Node.TheVariants as node
use Rattle.node_run.specs.declared.first.First.{First}
use Rattle.node_run.specs.declared.wire.WiredStage.{WiredStage}
use Rattle.node_run.specs.Firsts.{IsDue, IsFirst}
use Rattle.node_run.specs.Nodes.{AreNodes, in_turn, copies_by_all, is_ready, no_copies}
use Rattle.node_run.specs.Runs.{AreLaid, AreStarted, CanRun, Collects, HasLed, HasRun, IsLaid, MayRun, fates_behind, flat, is_found}
use Rattle.node_run.specs.Wired.{IsWired}
use Rattle.node_run.proofs.Crewing.{all_in_crews}
use Rattle.node_run.proofs.Shares.{came_all}
use Rattle.node_run.proofs.Wiring.{nodes_are, passed_length, stage_pushed}

-- packet by packet

pub record Begins {A : Type 0} (xs : List A) (n : ℕ) : Type 0 where
  pub head : A
  pub tail : List A
  pub is : xs ≡ head ∷ tail
  pub many : length tail ≡ n

begins : {A : Type 0} (xs : List A) (n : ℕ) → length xs ≡ suc n → Begins xs n
begins [] n e = absurd (omega (arith, e))
begins (x ∷ xs) n e = record { head = x; tail = xs; is = refl; many = omega (arith, e) }

pub collect_more : {S : Type 0} (comes : S → List (PlainMessage PlainApart) → Type 0) (n room : ℕ) (fates : List Fate) (source : S) (all : List (PlainMessage PlainApart)) → Collects comes (suc n) room fates source all → HasMore comes source
collect_more comes n room fates source all h =
    let b = begins h.coming n h.many in
    (b.head, b.tail, subst (comes source) b.is h.takes)

due_is : {P : Type 0} (due message : PlainMessage P) → Fits due message → is_short message ≡ false → message ≡ due
due_is due message (inl e) w = e
due_is due message (inr e) w = absurd (let z : true ≡ false = sym (ap is_short e) ∙ w in cc)

found_is : (packet : Merged) → packet ≢ ends.Short → is_short (of_merged packet) ≡ false
found_is (ends.Whole whole) n = refl
found_is (ends.Gone p) n = refl
found_is ends.Short n = absurd (n refl)

back_again : (packet : Merged) → as_merged (of_merged packet) ≡ packet
back_again (ends.Whole whole) = refl
back_again (ends.Gone p) = refl
back_again ends.Short = refl

fates_push : (xs : List (PlainMessage PlainApart)) (x : PlainMessage PlainApart) → fates_behind (xs ++ x ∷ []) ≡ fates_behind xs ++ fate_behind (as_merged x) ∷ []
fates_push [] x = refl
fates_push (y ∷ xs) x = ap (λ l. fate_behind (as_merged y) ∷ l) (fates_push xs x)

pub collected : {S : Type 0} (comes : S → List (PlainMessage PlainApart) → Type 0) (n room room' : ℕ) (fates new : List Fate) (packet : Merged) (fate : Fate) (source source' : S) (all : List (PlainMessage PlainApart))
    → Collects comes (suc n) room fates source all
    → ((x : PlainMessage PlainApart) (xs : List (PlainMessage PlainApart)) → comes source (x ∷ xs) → Fits x (of_merged packet))
    → ((x : PlainMessage PlainApart) (xs : List (PlainMessage PlainApart)) → comes source (x ∷ xs) → comes source' xs)
    → fate ≡ fate_behind packet → packet ≢ ends.Short → new ≡ fates ++ fate ∷ [] → room' ≡ room
    → Collects comes n room' new source' all
collected {S} comes n room room' fates new packet fate source source' all h fit left is found e r =
    let b = begins h.coming n h.many in
    let c : comes source (b.head ∷ b.tail) = subst (comes source) b.is h.takes in
    let w = found_is packet found in
    let same : of_merged packet ≡ b.head = due_is b.head (of_merged packet) (fit b.head b.tail c) w in record {
      came = h.came ++ b.head ∷ [];
      coming = b.tail;
      many = b.many;
      fits = omega (arith, h.fits, r, ap length e, length-append fates (fate ∷ []));
      takes = left b.head b.tail c;
      so_far = append_assoc h.came (b.head ∷ []) b.tail ∙ ap (λ y. h.came ++ y) (sym b.is) ∙ h.so_far;
      told = e ∙ ap (λ y. y ++ fate ∷ []) h.told ∙ ap (λ y. fates_behind h.came ++ y ∷ []) (is ∙ ap fate_behind (sym (back_again packet) ∙ ap as_merged same)) ∙ sym (fates_push h.came b.head);
      found = All-push is_found h.came b.head h.found (subst is_found same w);
    }

pub collect_at : {S : Type 0} (comes : S → List (PlainMessage PlainApart) → Type 0) (count i room : ℕ) (fates : List Fate) (source : S) (all : List (PlainMessage PlainApart)) → i < count → Collects comes (count - i) room fates source all → Collects comes (suc (count - (i + 1))) room fates source all
collect_at comes count i room fates source all lt h =
    let e : count - i ≡ suc (count - (i + 1)) = omega arith in
    subst (λ n. Collects comes n room fates source all) e h

no_more : {A : Type 0} (xs : List A) → length xs ≡ 0 → xs ≡ []
no_more [] e = refl
no_more (x ∷ xs) e = absurd (omega (arith, e))

-- all came
came_whole : {S : Type 0} (comes : S → List (PlainMessage PlainApart) → Type 0) (count i room : ℕ) (fates : List Fate) (source : S) (all : List (PlainMessage PlainApart)) → count ≤ i → (h : Collects comes (count - i) room fates source all) → h.came ≡ all
came_whole comes count i room fates source all le h =
    let z : length h.coming ≡ 0 = omega (arith, h.many) in
    sym (append-nil h.came) ∙ ap (λ y. h.came ++ y) (sym (no_more h.coming z)) ∙ h.so_far

pub collect_over : {S : Type 0} (comes : S → List (PlainMessage PlainApart) → Type 0) (count i room : ℕ) (fates : List Fate) (source : S) (all : List (PlainMessage PlainApart)) → count ≤ i → Collects comes (count - i) room fates source all → fates ≡ fates_behind all
collect_over comes count i room fates source all le h = h.told ∙ ap fates_behind (came_whole comes count i room fates source all le h)

pub collect_found : {S : Type 0} (comes : S → List (PlainMessage PlainApart) → Type 0) (count i room : ℕ) (fates : List Fate) (source : S) (all : List (PlainMessage PlainApart)) → count ≤ i → Collects comes (count - i) room fates source all → All is_found all
collect_found comes count i room fates source all le h = subst (All is_found) (came_whole comes count i room fates source all le h) h.found

pub to_collect : {S : Type 0} (comes : S → List (PlainMessage PlainApart) → Type 0) (count : ℕ) (source : S) (all : List (PlainMessage PlainApart)) → length all ≡ count → comes source all → Collects comes count count [] source all
to_collect comes count source all many takes = record {
  came = [];
  coming = all;
  many = many;
  fits = omega arith;
  takes = takes;
  so_far = refl;
  told = refl;
  found = All-nil is_found;
}

-- what holds for a result that isn't refused
pub ok_so : {A E : Type 0} (P Q : A → Type 0) (result : Result A E) → IfOk result P → ((a : A) → P a → Q a) → IfOk result Q
ok_so P Q (Ok a) h f = f a h
ok_so P Q (Err e) h f = tt

pub on_ok_so : {A E : Type 0} (P : A → Type 0) (Q : Type 0) (result : Result A E) → IfOk result P → ((a : A) → P a → Q) → OnOk result Q
on_ok_so P Q (Ok a) h f = f a h
on_ok_so P Q (Err e) h f = tt

-- stage by stage

-- the stage that is laid next, to which these packets come
pub record StageNext {F : Type 0} (k : Kit F) (may : F → ℕ → PlainVersion → Type 0) (count : ℕ) (s : PlainStage F) (source : List (List (PlainMessage PlainApart))) (due : List (PlainMessage PlainApart)) : Type 0 where
  pub takes : ComesFrom source due
  pub many : length due ≡ count
  pub pass : MayPass k may s due

pub laid_next : {F : Type 0} (k : Kit F) (may : F → ℕ → PlainVersion → Type 0) (count : ℕ) (packets : List (PlainMessage PlainApart)) (functions : List F) (copies : Field → ℕ) (was todo : List (PlainStage F)) (s : PlainStage F) (source : List (List (PlainMessage PlainApart))) (laid : List (Node F))
    → AreLaid k may count packets functions copies was source laid → was ≡ s ∷ todo → StageNext k may count s source (in_turn count source)
unfolding MayPassAll
laid_next k may count packets functions copies was todo s source laid h t =
    let e = came_all source count h.coming h.takes h.long in
    let a : MayPassAll k may (s ∷ todo) h.coming = subst (λ y. MayPassAll k may y h.coming) t h.pass in record {
      takes = subst (ComesFrom source) e h.takes;
      many = ap length (sym e) ∙ h.long;
      pass = subst (MayPass k may s) e a.0;
    }

pub laid_more : {F : Type 0} (k : Kit F) (may : F → ℕ → PlainVersion → Type 0) (m count : ℕ) (packets : List (PlainMessage PlainApart)) (functions : List F) (copies : Field → ℕ) (was todo : List (PlainStage F)) (s : PlainStage F) (source next : List (List (PlainMessage PlainApart))) (laid new : List (Node F))
    → 0 < m → AreLaid k may count packets functions copies was source laid → was ≡ s ∷ todo
    → next ≡ shares m (passed k s (in_turn count source))
    → ((fs : List F) (c : Field → ℕ) → AreNodes k may laid fs c → AreNodes k may new (fs ++ stayed k s.parts.touches s.branches (in_turn count source)) (λ f. c f + dealer_copies s.parts.touches (in_turn count source) f))
    → AreLaid k may count packets functions copies todo next new
unfolding MayPassAll through ends_of flat copies_along
laid_more k may m count packets functions copies was todo s source next laid new lt h t i n =
    let due = in_turn count source in
    let e : h.coming ≡ due = came_all source count h.coming h.takes h.long in
    let a : MayPassAll k may (s ∷ todo) h.coming = subst (λ y. MayPassAll k may y h.coming) t h.pass in record {
      coming = passed k s due;
      long = passed_length k s due ∙ ap length (sym e) ∙ h.long;
      takes = (m, lt, i);
      pass = subst (λ y. MayPassAll k may todo (passed k s y)) e a.1;
      comes = ap (λ y. through k todo (passed k s y)) (sym e) ∙ ap (λ y. through k y h.coming) (sym t) ∙ h.comes;
      kept = h.kept ++ stayed k s.parts.touches s.branches due;
      made = λ f. h.made f + dealer_copies s.parts.touches due f;
      nodes = n h.kept h.made h.nodes;
      gives = append_assoc h.kept (stayed k s.parts.touches s.branches due) (flat (ends_of k todo (passed k s due)))
          ∙ ap (λ y. h.kept ++ (stayed k s.parts.touches s.branches y ++ flat (ends_of k todo (passed k s y)))) (sym e)
          ∙ ap (λ y. h.kept ++ flat (ends_of k y h.coming)) (sym t)
          ∙ h.gives;
      counted = λ f.
          let b : copies_along k was h.coming f ≡ dealer_copies s.parts.touches h.coming f + copies_along k todo (passed k s h.coming) f = ap (λ y. copies_along k y h.coming f) t in
          let c : dealer_copies s.parts.touches due f + copies_along k todo (passed k s due) f ≡ dealer_copies s.parts.touches h.coming f + copies_along k todo (passed k s h.coming) f = ap (λ y. dealer_copies s.parts.touches y f + copies_along k todo (passed k s y) f) (sym e) in
          omega (arith, h.counted f, b, c);
    }

-- its nodes are pushed after the others
pub pushed_more : {F : Type 0} (k : Kit F) (may : F → ℕ → PlainVersion → Type 0) (m count : ℕ) (packets : List (PlainMessage PlainApart)) (functions : List F) (copies : Field → ℕ) (was todo : List (PlainStage F)) (s : PlainStage F) (source : List (List (PlainMessage PlainApart))) (w : WiredStage F (List (List (PlainMessage PlainApart)))) (next : List (List (PlainMessage PlainApart))) (laid new : List (Node F))
    → 0 < m → AreLaid k may count packets functions copies was source laid → was ≡ s ∷ todo
    → IsWired k may ComesFrom m count s (in_turn count source) source w → next ≡ w.next → new ≡ laid ++ node.Dealer w.dealer ∷ w.nodes.items
    → AreLaid k may count packets functions copies todo next new
pushed_more k may m count packets functions copies was todo s source w next laid new lt h t i n e =
    laid_more k may m count packets functions copies was todo s source next laid new lt h t (n ∙ i.next) (λ fs c nodes. stage_pushed k may m count s source w laid new fs c i e nodes)

pub all_laid : {F : Type 0} (k : Kit F) (may : F → ℕ → PlainVersion → Type 0) (count : ℕ) (packets : List (PlainMessage PlainApart)) (functions : List F) (copies : Field → ℕ) (todo : List (PlainStage F)) (source : List (List (PlainMessage PlainApart))) (laid : List (Node F))
    → AreLaid k may count packets functions copies todo source laid → todo ≡ [] → IsLaid k may count packets functions copies source laid
unfolding through ends_of flat copies_along
all_laid k may count packets functions copies todo source laid h t =
    let is : h.coming ≡ packets = ap (λ y. through k y h.coming) (sym t) ∙ h.comes in record {
      long = ap length (sym is) ∙ h.long;
      takes = subst (ComesFrom source) is h.takes;
      nodes = nodes_are k may laid laid h.kept functions h.made copies h.nodes refl
          (sym (sym (append-nil h.kept) ∙ ap (λ y. h.kept ++ flat (ends_of k y h.coming)) (sym t) ∙ h.gives))
          (λ f. let b : copies_along k todo h.coming f ≡ 0 = ap (λ y. copies_along k y h.coming f) t in omega (arith, h.counted f, b));
    }

-- the first stage is laid, and those after it are still to be laid
pub first_laid : {F S : Type 0} (k : Kit F) (may : F → ℕ → PlainVersion → Type 0) (comes : S → List (PlainMessage PlainApart) → Type 0) (m count : ℕ) (all todo : List (PlainStage F)) (s : PlainStage F) (xs : List (PlainMessage PlainApart)) (source : S) (w : WiredStage F S)
    → 0 < m → length xs ≡ count → MayPassAll k may all xs → all ≡ s ∷ todo → IsWired k may comes m count s xs source w
    → AreLaid k may count (through k all xs) (flat (ends_of k all xs)) (λ f. copies_along k todo (passed k s xs) f) todo w.next w.nodes.items
unfolding MayPassAll through ends_of flat
first_laid k may comes m count all todo s xs source w lt many pass t i =
    let a : MayPassAll k may (s ∷ todo) xs = subst (λ y. MayPassAll k may y xs) t pass in record {
      coming = passed k s xs;
      long = passed_length k s xs ∙ many;
      takes = (m, lt, i.next);
      pass = a.1;
      comes = ap (λ y. through k y xs) (sym t);
      kept = stayed k s.parts.touches s.branches xs;
      made = no_copies;
      nodes = i.nodes;
      gives = ap (λ y. flat (ends_of k y xs)) (sym t);
      counted = λ f. omega arith;
    }

-- what comes to it may go through it
pub first_passes : {F : Type 0} (k : Kit F) (may : F → ℕ → PlainVersion → Type 0) (all todo : List (PlainStage F)) (s : PlainStage F) (xs : List (PlainMessage PlainApart)) → MayPassAll k may all xs → all ≡ s ∷ todo → MayPass k may s xs
unfolding MayPassAll
first_passes k may all todo s xs pass t =
    let a : MayPassAll k may (s ∷ todo) xs = subst (λ y. MayPassAll k may y xs) t pass in a.0

-- the dealer of the first stage may deal
pub first_due : {F S : Type 0} (k : Kit F) (may : F → ℕ → PlainVersion → Type 0) (comes : S → List (PlainMessage PlainApart) → Type 0) (m count : ℕ) (s : PlainStage F) (xs : List (PlainMessage PlainApart)) (source : S) (w : WiredStage F S)
    → IsWired k may comes m count s xs source w → IsDue comes (dealer_copies s.parts.touches xs) w.dealer
first_due k may comes m count s xs source w i = record { coming = xs; due = i.due; none = i.none; makes = λ f. ap (λ y. dealer_copies y xs f) i.touches }

pub may_run : {F S : Type 0} (k : Kit F) (may : F → ℕ → PlainVersion → Type 0) (comes : S → List (PlainMessage PlainApart) → Type 0) (count : ℕ) (packets : List (PlainMessage PlainApart)) (functions : List F) (made copies : Field → ℕ) (first : First S) (behind : List (List (PlainMessage PlainApart))) (laid : List (Node F))
    → IsFirst comes made first → IsLaid k may count packets functions copies behind laid → MayRun k may comes made first laid count behind packets
may_run k may comes count packets functions made copies first behind laid d h = record { deals = d; ready = h.nodes.ready; long = h.long; takes = h.takes }

pub can_run : {F S H : Type 0} (k : Kit F) (may : F → ℕ → PlainVersion → Type 0) (comes : S → List (PlainMessage PlainApart) → Type 0) (count room : ℕ) (packets : List (PlainMessage PlainApart)) (made : Field → ℕ) (first : First S) (behind : List (List (PlainMessage PlainApart))) (nodes : List (Node F)) (crews : List (List (Node F))) (started : List H)
    → MayRun k may comes made first nodes count behind packets → flat crews ≡ nodes → started ≡ [] → length crews ≤ room → CanRun k may comes made first crews started room count behind packets
can_run k may comes count room packets made first behind nodes crews started h c e le = record {
  deals = h.deals;
  ready = all_in_crews (is_ready k may) crews (subst (All (is_ready k may)) (sym c) h.ready);
  empty = e;
  fits = le;
  long = h.long;
  takes = h.takes;
}

-- what is said about the nodes of crews is said about the nodes
pub ran_so : {F : Type 0} (k : Kit F) (copies : Field → ℕ) (ran nodes : List (Node F)) (due : List (PlainMessage PlainApart)) (functions : List F) (fates : List Fate) (tally : List ℕ)
    → ran ≡ nodes → HasRun k copies ran due functions fates tally → HasRun k copies nodes due functions fates tally
ran_so k copies ran nodes due functions fates tally e r = subst (λ y. HasRun k copies y due functions fates tally) e r

-- what a run of the laid nodes gave is what the stages make of the packets
copies_of_all : {F : Type 0} (k : Kit F) (all todo : List (PlainStage F)) (s : PlainStage F) (xs : List (PlainMessage PlainApart)) (f : Field) → all ≡ s ∷ todo → dealer_copies s.parts.touches xs f + copies_along k todo (passed k s xs) f ≡ copies_along k all xs f
unfolding copies_along
copies_of_all k all todo s xs f t = ap (λ y. copies_along k y xs f) (sym t)

pub led_by : {F : Type 0} (k : Kit F) (may : F → ℕ → PlainVersion → Type 0) (count : ℕ) (all todo : List (PlainStage F)) (s : PlainStage F) (xs : List (PlainMessage PlainApart)) (behind : List (List (PlainMessage PlainApart))) (laid : List (Node F)) (functions : List F) (fates : List Fate) (tally : List ℕ)
    → all ≡ s ∷ todo → IsLaid k may count (through k all xs) (flat (ends_of k all xs)) (λ f. copies_along k todo (passed k s xs) f) behind laid
    → HasRun k (dealer_copies s.parts.touches xs) laid (through k all xs) functions fates tally → HasLed k all xs functions fates tally
led_by k may count all todo s xs behind laid functions fates tally t h r = record {
  gives = r.gives ∙ h.nodes.gives;
  told = r.told;
  found = r.found;
  counted = λ f. r.counted f ∙ ap (raised 0) (ap (λ y. dealer_copies s.parts.touches xs f + y) (h.nodes.makes f) ∙ copies_of_all k all todo s xs f t);
}

-- no stage
pub none_through : {F : Type 0} (k : Kit F) (all : List (PlainStage F)) (xs : List (PlainMessage PlainApart)) → all ≡ [] → through k all xs ≡ xs
unfolding through
none_through k all xs t = ap (λ y. through k y xs) t

pub none_ends : {F : Type 0} (k : Kit F) (all : List (PlainStage F)) (xs : List (PlainMessage PlainApart)) → all ≡ [] → flat (ends_of k all xs) ≡ []
unfolding ends_of flat
none_ends k all xs t = ap (λ y. flat (ends_of k y xs)) t

pub none_copies : {F : Type 0} (k : Kit F) (all : List (PlainStage F)) (xs : List (PlainMessage PlainApart)) (f : Field) → all ≡ [] → copies_along k all xs f ≡ 0
unfolding copies_along
none_copies k all xs f t = ap (λ y. copies_along k y xs f) t

-- node by node

all_tail : {A : Type 0} (R : A → Type 0) (x : A) (xs : List A) → All R (x ∷ xs) → All R xs
all_tail R x xs h k d lt = h (suc k) d (omega arith)

pub started_none : {N S : Type 0} (crew_of : S → N) (ready : N → Type 0) (room : ℕ) (all todo : List N) (started : List S) → todo ≡ all → started ≡ [] → All ready all → length all ≤ room → AreStarted crew_of ready room all todo started
started_none crew_of ready room all todo started t s r le = record {
  rest = ap (λ y. map crew_of y ++ todo) s ∙ t;
  ready_rest = subst (All ready) (sym t) r;
  fits = omega (arith, ap length t, ap length s, le);
}

pub started_more : {N S : Type 0} (crew_of : S → N) (ready : N → Type 0) (room room' : ℕ) (all was todo : List N) (node : N) (one : S) (started new : List S)
    → AreStarted crew_of ready room all was started → was ≡ node ∷ todo → crew_of one ≡ node → new ≡ started ++ one ∷ [] → room' ≡ room → AreStarted crew_of ready room' all todo new
started_more crew_of ready room room' all was todo node one started new h t o e r = record {
  rest = ap (λ y. map crew_of y ++ todo) e ∙ ap (λ y. y ++ todo) (map-append crew_of started (one ∷ [])) ∙ append_assoc (map crew_of started) (crew_of one ∷ []) todo
      ∙ ap (λ y. map crew_of started ++ (y ∷ todo)) o ∙ ap (λ y. map crew_of started ++ y) (sym t) ∙ h.rest;
  ready_rest = all_tail ready node todo (subst (All ready) t h.ready_rest);
  fits = omega (arith, h.fits, ap length t, ap length e, length-append started (one ∷ []), r);
}

pub started_all : {N S : Type 0} (crew_of : S → N) (ready : N → Type 0) (room : ℕ) (all todo : List N) (started : List S) → AreStarted crew_of ready room all todo started → todo ≡ [] → map crew_of started ≡ all
started_all crew_of ready room all todo started h t = sym (append-nil (map crew_of started)) ∙ ap (λ y. map crew_of started ++ y) (sym t) ∙ h.rest

-- with those of the first dealer
raised_both : (a b t m : ℕ) → m ≡ raised 0 a → t ≡ raised m b → t ≡ raised 0 (a + b)
raised_both a b t m e h = omega arith

pub counted_with : {F : Type 0} (nodes given : List (Node F)) (tally made : List ℕ) (short : Bool) (copies : Field → ℕ) (f : Field)
    → (short ≡ false → (f : Field) → count_of made f ≡ raised 0 (copies f)) → short ≡ false → given ≡ nodes → count_of tally f ≡ raised (count_of made f) (copies_by_all f given)
    → count_of tally f ≡ raised 0 (copies f + copies_by_all f nodes)
counted_with nodes given tally made short copies f dealt found same e =
    raised_both (copies f) (copies_by_all f nodes) (count_of tally f) (count_of made f) (dealt found f) (e ∙ ap (λ y. raised (count_of made f) (copies_by_all f y)) same)

pub dealt_first : {S : Type 0} (comes : S → List (PlainMessage PlainApart) → Type 0) (copies : Field → ℕ) (d : Dealer S) (tally : List ℕ) (short : Bool) → IsDue comes copies d
    → ((xs : List (PlainMessage PlainApart)) → DealerDue comes d.parts d.count xs d.source d.to.ends.versions d.to.ends.bases → short ≡ false → (f : Field) → count_of tally f ≡ raised (count_of d.tally f) (dealer_copies d.parts.touches xs f))
    → short ≡ false → (f : Field) → count_of tally f ≡ raised 0 (copies f)
dealt_first comes copies d tally short i ran found f = ran i.coming i.due found f ∙ ap (λ y. raised y (dealer_copies d.parts.touches i.coming f)) (i.none f) ∙ ap (raised 0) (i.makes f)
