-- The results for the packets of a burst are put, one after another.
use Rattle.std.proofs.Common.{◌≡◌, ◌≢◌, ◌<◌, ◌+◌, ◌∙◌, ℕ, suc, List, [], ◌∷◌, ◌++◌, length, drop, refl, ap, sym, subst, append_assoc, arith}
use Rattle.std.specs.Prelude.{All, IfSome, Option, slice_index_or}
use Rattle.std.proofs.lemmas.List.{append-nil, drop_all, drop_more, nil_from_length}
use Rattle.std.proofs.lemmas.List.Elements.{All-head, All-same, All-tail}
use Rattle.nfp_outside.specs.declared.slot.Slot.{Slot}
use Rattle.nfp_outside.specs.declared.slot.Slot.TheVariants as slots
use Rattle.nfp_outside.specs.Outside.{SlotView}
use Rattle.capture_bytes.specs.declared.packet.PcapRecord.{PcapRecord}
use Rattle.chain_walk.specs.declared.walk.Fate.{Fate}
use Rattle.chain_walk.specs.declared.walk.Fate.TheVariants.{Out}
use Rattle.classifier.specs.declared.burst.Item.{Item}
use Rattle.capture_run.specs.Emitted.{emitted, wire_after}
use Rattle.capture_report.specs.BurstWalkProofs.{IsWritable, all_ended, ended}
use Rattle.capture_items.specs.Slots.{Puts, Breaks}
use Rattle.capture_items.specs.Streams.{spelled_with}
use Rattle.capture_run.specs.Streams.{emitted_among, held_in}
use Rattle.capture_items.specs.declared.fault.RunFault.{RunFault}
use Rattle.capture_items.specs.declared.given.Given.{Given}
use Rattle.capture_items.specs.Putting.{puts_none, puts_more, puts_is, breaks_more, breaks_longer, breaks_is}

-- what is put for these packets, by the fates that their chains gave
abbrev pub put_of : {X B : Type 0} → (Given X B → List ℕ) → List Item → List X → List (Option Fate) → List ℕ
put_of spelled items beside fates = emitted_among spelled (held_in items beside) (all_ended items fates)

put_of-nil : {X B : Type 0} (spelled : Given X B → List ℕ) → put_of spelled [] [] [] ≡ []
unfolding emitted_among all_ended
put_of-nil spelled = refl

put_of-cons : {X B : Type 0} (spelled : Given X B → List ℕ) (item : Item) (items : List Item) (x : X) (beside : List X) (fate : Option Fate) (fates : List (Option Fate)) →
    put_of spelled (item ∷ items) (x ∷ beside) (fate ∷ fates) ≡ emitted (spelled_with spelled x) item.packet (ended item.packet fate) ++ put_of spelled items beside fates
unfolding emitted_among all_ended
put_of-cons spelled item items x beside fate fates = refl

-- a packet with the frame that was read goes out as it was read
pub unchanged : (spelled : PcapRecord → List ℕ) (packet : PcapRecord) → wire_after packet.wire (length packet.frame) (length packet.frame) ≡ packet.wire →
    emitted spelled packet (Out packet.frame) ≡ spelled packet
unchanged spelled packet as_long = λ i. spelled (record packet { wire = as_long i })

-- The records of some packets were put, and these fates are left.
pub record IsEmitting {X B : Type 0} (spelled spelled' : Given X B → List ℕ) (items : List Item) (beside : List X) (fates left : List (Option Fate)) (index : ℕ) (old now : Slot →
    SlotView) : Type 0 where
  pub put : List ℕ
  pub puts : Puts put [] old now
  pub due : put ++ put_of spelled (drop index items) (drop index beside) left ≡ put_of spelled items beside fates
  pub count : index + length left ≡ length items
  pub as_many : length beside ≡ length items
  pub writable : All (λ o. IfSome o IsWritable) left
  pub same_spelling : spelled' ≡ spelled
  pub others : (s : Slot) → s ≢ slots.Out → now s ≡ old s

pub emitting_begins : {X B : Type 0} (spelled : Given X B → List ℕ) (items : List Item) (beside : List X) (fates left : List (Option Fate)) (old : Slot → SlotView) → left ≡ fates →
    length fates ≡ length items → length beside ≡ length items →
    All (λ o. IfSome o IsWritable) fates → IsEmitting spelled spelled items beside fates left 0 old old
emitting_begins spelled items beside fates left old all as_many many writable = record {
  put = [];
  puts = puts_none old;
  due = ap (put_of spelled items beside) all;
  count = let e : length left ≡ length fates = ap length all in omega arith;
  as_many = many;
  writable = All-same (λ o. IfSome o IsWritable) left fates all writable;
  same_spelling = refl;
  others = λ s r. refl;
}

-- a packet is left if a fate is
pub still_left : {X B : Type 0} (spelled spelled' : Given X B →
    List ℕ) (items : List Item) (beside : List X) (fates left left' : List (Option Fate)) (fate : Option Fate) (index : ℕ) (old now : Slot → SlotView) →
    IsEmitting spelled spelled' items beside fates left index old now → left ≡ fate ∷ left' → index < length items
still_left spelled spelled' items beside fates left left' fate index old now at next =
    let c = at.count in
    let n : length left ≡ suc (length left') = ap length next in
    omega arith

pub next_writable : {X B : Type 0} (spelled spelled' : Given X B →
    List ℕ) (items : List Item) (beside : List X) (fates left left' : List (Option Fate)) (fate : Option Fate) (index : ℕ) (old now : Slot → SlotView) →
    IsEmitting spelled spelled' items beside fates left index old now → left ≡ fate ∷ left' → IfSome fate IsWritable
next_writable spelled spelled' items beside fates left left' fate index old now at next =
    All-head (λ o. IfSome o IsWritable) fate left' (All-same (λ o. IfSome o IsWritable) (fate ∷ left') left (sym next) at.writable)

-- what is left to be put is the next packet's record and what is left after it
due_next : {X B : Type 0} (spelled : Given X B → List ℕ) (items : List Item) (beside : List X) (left left' : List (Option Fate)) (index : ℕ) (item : Item) (x : X) (fate : Option Fate) →
    left ≡ fate ∷ left' → index < length items → length beside ≡ length items →
    item ≡ slice_index_or items index item → x ≡ slice_index_or beside index x →
    put_of spelled (drop index items) (drop index beside) left ≡ emitted (spelled_with spelled x) item.packet (ended item.packet fate) ++ put_of spelled (drop (index + 1) items) (drop (index + 1) beside) left'
due_next spelled items beside left left' index item x fate next inside many is is_x =
    let split : drop index items ≡ item ∷ drop (index + 1) items = drop_more items index item inside ∙ ap (λ i. i ∷ drop (index + 1) items) (sym is) in
    let split_x : drop index beside ≡ x ∷ drop (index + 1) beside = drop_more beside index x (omega arith) ∙ ap (λ i. i ∷ drop (index + 1) beside) (sym is_x) in
    (λ i. put_of spelled (split i) (split_x i) (next i)) ∙ put_of-cons spelled item (drop (index + 1) items) x (drop (index + 1) beside) fate left'

pub emitting_goes_on : {X B : Type 0} (spelled spelled1 spelled2 : Given X B →
    List ℕ) (items : List Item) (beside : List X) (fates left left' : List (Option Fate)) (index : ℕ) (item : Item) (x : X) (fate : Option Fate) (old mid new : Slot → SlotView) →
    IsEmitting spelled spelled1 items beside fates left index old mid → left ≡ fate ∷ left' → item ≡ slice_index_or items index item → x ≡ slice_index_or beside index x →
    Puts (emitted (spelled_with spelled1 x) item.packet (ended item.packet fate)) [] mid new → spelled2 ≡ spelled1 → ((s : Slot) → s ≢ slots.Out → new s ≡ mid s) →
    IsEmitting spelled spelled2 items beside fates left' (index + 1) old new
emitting_goes_on spelled spelled1 spelled2 items beside fates left left' index item x fate old mid new at next is is_x put same around =
    let inside = still_left spelled spelled1 items beside fates left left' fate index old mid at next in
    let one = emitted (spelled_with spelled x) item.packet (ended item.packet fate) in
    let rest = put_of spelled (drop (index + 1) items) (drop (index + 1) beside) left' in
    record {
      put = at.put ++ one;
      puts = puts_more at.put [] one [] old mid new at.puts (subst (λ f. Puts (emitted (spelled_with f x) item.packet (ended item.packet fate)) [] mid new) at.same_spelling put);
      due = append_assoc at.put one rest ∙ ap (λ l. at.put ++ l) (sym (due_next spelled items beside left left' index item x fate next inside at.as_many is is_x)) ∙ at.due;
      count = let c = at.count in let n : length left ≡ suc (length left') = ap length next in omega arith;
      as_many = at.as_many;
      writable = All-tail (λ o. IfSome o IsWritable) fate left' (All-same (λ o. IfSome o IsWritable) (fate ∷ left') left (sym next) at.writable);
      same_spelling = same ∙ at.same_spelling;
      others = λ s r. around s r ∙ at.others s r;
    }

pub emitting_ends : {X B : Type 0} (spelled spelled' : Given X B → List ℕ) (items : List Item) (beside : List X) (fates left : List (Option Fate)) (index : ℕ) (old now : Slot → SlotView) →
    IsEmitting spelled spelled' items beside fates left index old now →
    length left ≡ 0 → Puts (put_of spelled items beside fates) [] old now
emitting_ends spelled spelled' items beside fates left index old now at none =
    let c = at.count in
    let many = at.as_many in
    let over : drop index items ≡ [] = drop_all index items (omega arith) in
    let over_x : drop index beside ≡ [] = drop_all index beside (omega arith) in
    let rest : put_of spelled (drop index items) (drop index beside) left ≡ [] = (λ i. put_of spelled (over i) (over_x i) (nil_from_length left none i)) ∙ put_of-nil spelled in
    puts_is at.put (put_of spelled items beside fates) [] [] old now (sym (append-nil at.put) ∙ ap (λ l. at.put ++ l) (sym rest) ∙ at.due) refl at.puts

pub emitting_breaks : {X B : Type 0} (spelled spelled1 : Given X B →
    List ℕ) (items : List Item) (beside : List X) (fates left left' : List (Option Fate)) (index : ℕ) (item : Item) (x : X) (fate : Option Fate) (old mid new : Slot → SlotView) (e : RunFault) →
    IsEmitting spelled spelled1 items beside fates left index old mid → left ≡ fate ∷ left' → item ≡ slice_index_or items index item → x ≡ slice_index_or beside index x →
    Breaks (emitted (spelled_with spelled1 x) item.packet (ended item.packet fate)) [] mid new e → Breaks (put_of spelled items beside fates) [] old new e
emitting_breaks spelled spelled1 items beside fates left left' index item x fate old mid new e at next is is_x broken =
    let inside = still_left spelled spelled1 items beside fates left left' fate index old mid at next in
    let one = emitted (spelled_with spelled x) item.packet (ended item.packet fate) in
    let rest = put_of spelled (drop (index + 1) items) (drop (index + 1) beside) left' in
    breaks_is ((at.put ++ one) ++ rest) (put_of spelled items beside fates) [] [] old new e
    (append_assoc at.put one rest ∙ ap (λ l. at.put ++ l) (sym (due_next spelled items beside left left' index item x fate next inside at.as_many is is_x)) ∙ at.due) refl
    (breaks_longer (at.put ++ one) [] rest [] old new e
    (breaks_more at.put [] one [] old mid new e at.puts (subst (λ f. Breaks (emitted (spelled_with f x) item.packet (ended item.packet fate)) [] mid new e) at.same_spelling broken)))
