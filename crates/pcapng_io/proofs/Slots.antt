-- What reading a block says about its slot.
use Rattle.std.proofs.Common.{◌≡◌, ◌≤◌, ◌<◌, ◌+◌, ◌∙◌, ℕ, List, [], ◌∷◌, ◌++◌, length, take, drop, refl, ap, sym, subst, length-append, arith}
use Rattle.std.specs.Prelude.{◌%◌, Option, Some, None, IfSome, IfOk, MatchOption, Result, Ok, Err, IsErrOf}
use Rattle.std.specs.Option.{option_map}
use Rattle.std.proofs.Math.Seq.{take-length, take-append_seam}
use Rattle.std.proofs.lemmas.List.{take-append-drop}
use Rattle.nfp_outside.specs.Outside.{SlotView}
use Rattle.capture_bytes.specs.declared.order.Endian.{Endian}
use Rattle.capture_bytes.specs.Filling.{Fills, FillsFrom, unread}
use Rattle.capture_bytes.specs.FillingLaws.{told_some, told_none, if_some, if_told}
use Rattle.pcapng_io.specs.declared.block_kind.BlockKind.{BlockKind}
use Rattle.pcapng_io.specs.declared.block_kind.BlockKind.TheVariants.{SectionHeader}
use Rattle.pcapng_io.specs.declared.fault.NgFault.{NgFault}
use Rattle.pcapng_io.specs.declared.fault.NgFault.TheVariants.{CutBlock}
use Rattle.pcapng_io.specs.declared.fault.NgReadFault.{NgReadFault}
use Rattle.pcapng_io.specs.declared.fault.NgReadFault.TheVariants.{Ng}
use Rattle.pcapng_io.specs.declared.place.Place.{Place}
use Rattle.pcapng_io.specs.Blocks.{next_of, blocks_of, and_rest, with_item, first_fault, content_faults, kind_in, length_in, order_in, item_of, after}
use Rattle.pcapng_io.specs.Reader.{Opens, IsAtEnd, RefusesBlock, next_left, blocks_left, head_faults, head_length, Says, Closes}
use Rattle.pcapng_io.proofs.Heads.{Begins, Known, few_left, few_of_section, head_refused, block_cut, block_refused, block_given}
use Rattle.pcapng_io.proofs.Sequence.{blocks_next}

-- the fault of a block that is cut
abbrev pub cut_of : Place → NgFault
cut_of place = CutBlock (place.blocks + 1)

-- the one fault of an answer
pub only_fault : {T : Type 0} (P : NgFault → Type 0) (f : NgFault) → P f → (fault : NgFault) → IsErrOf {T = T} (Err (Ng f)) (Ng fault) → P fault
only_fault P f holds fault is = let same : f ≡ fault = cc in subst P same holds

pub refuses : (f : NgFault) (place : Place) (slot : SlotView) → ((bytes : List ℕ) → slot.bytes ≡ Some bytes → next_of place bytes ≡ Err f) → RefusesBlock f place slot
refuses f place slot is = record {
  next = next_is slot.bytes is;
  whole = whole_is slot.bytes is;
}
  where
    next_is : (o : Option (List ℕ)) → ((bytes : List ℕ) → o ≡ Some bytes → next_of place bytes ≡ Err f) → IfSome (option_map (next_of place) o) (λ next. next ≡ Err f)
    next_is None is = tt
    next_is (Some bytes) is = is bytes refl

    whole_is : (o : Option (List ℕ)) → ((bytes : List ℕ) → o ≡ Some bytes → next_of place bytes ≡ Err f) → IfSome (option_map (blocks_of place) o) (λ blocks. blocks ≡ record { items = []; fault = Some f })
    whole_is None is = tt
    whole_is (Some bytes) is = blocks_next place bytes ∙ ap (and_rest blocks_of) (is bytes refl)

-- a full buffer is the front of the bytes that remained
pub whole_front : (k : ℕ) (head bytes : List ℕ) (new : SlotView) → length head ≡ k → FillsFrom k bytes head new → Begins head bytes
whole_front k head bytes new size fills = record {
  front = sym (take-length head) ∙ ap (λ n. take n head) size ∙ fills.front ∙ ap (λ n. take n bytes) (sym size);
  long = omega (arith, size, fills.some_left);
}

empty : (bytes : List ℕ) → length bytes ≡ 0 → bytes ≡ []
empty [] h = refl
empty (b ∷ bs) h = absurd (omega arith)

-- no bytes were read
pub at_end : (k : ℕ) (place : Place) (head : List ℕ) (x new : SlotView) → length head ≡ 8 → k ≡ 0 → Fills k head x new → IsAtEnd place x new
at_end k place head x new size zero fills = record {
  left = if_told (λ o. new.bytes ≡ o) x.bytes (told_none k head x new fills) (λ (bytes : List ℕ) (is : x.bytes ≡ Some bytes). (told_some k head bytes x new fills is).rest ∙ ap (λ n. Some (drop n bytes)) zero);
  empty = if_some (λ bytes. bytes ≡ []) x.bytes none;
  whole = ends x.bytes none;
}
  where
    none : (bytes : List ℕ) → x.bytes ≡ Some bytes → bytes ≡ []
    none bytes is = empty bytes ((told_some k head bytes x new fills is).end_only (omega (arith, size, zero)) ∙ zero)

    ends : (o : Option (List ℕ)) → ((bytes : List ℕ) → o ≡ Some bytes → bytes ≡ []) → IfSome (option_map (blocks_of place) o) (λ blocks. blocks ≡ record { items = []; fault = None })
    ends None h = tt
    ends (Some bytes) h = ap (blocks_of place) (h bytes refl) ∙ blocks_next place []

pub head_cut : (k : ℕ) (place : Place) (head : List ℕ) (x new : SlotView) → length head ≡ 8 → 0 < k → k < 8 → Fills k head x new → RefusesBlock (CutBlock (place.blocks + 1)) place x
head_cut k place head x new size some short fills = refuses (CutBlock (place.blocks + 1)) place x (λ bytes is.
    let all : length bytes ≡ k = (told_some k head bytes x new fills is).end_only (omega (arith, size, short)) in few_left place bytes (omega (arith, all, some)) (omega (arith, all, short)))

-- the bytes that remained show the same after bytes that were taken are put back
pub put_back : (n : ℕ) (head : List ℕ) (x mid : SlotView) → length head ≡ n → Fills n head x mid → (unread head mid).bytes ≡ x.bytes
put_back n head x mid size first = if_told (λ o. option_map (λ left. head ++ left) mid.bytes ≡ o) x.bytes
    (λ none. ap (option_map (λ left. head ++ left)) (told_none n head x mid first none))
    (λ (bytes : List ℕ) (is : x.bytes ≡ Some bytes).
    let fills = told_some n head bytes x mid first is in
    ap (option_map (λ left. head ++ left)) fills.rest ∙ ap (λ l. Some (l ++ drop n bytes)) ((whole_front n head bytes mid size fills).front ∙ ap (λ m. take m bytes) size) ∙ ap (λ l. Some l) (take-append-drop n bytes))

-- what was filled further, if a front was taken before
pub further : (k n : ℕ) (head buffer : List ℕ) (x mid new : SlotView) → length head ≡ n → Fills n head x mid → Fills k buffer (unread head mid) new → Fills k buffer x new
further k n head buffer x mid new size first second = record {
  within = second.within;
  same_name = second.same_name ∙ first.same_name;
  told = subst (λ o. MatchOption o (new.bytes ≡ None) (λ bytes. FillsFrom k bytes buffer new)) (put_back n head x mid size first) second.told;
}

pub opens_further : (place : Place) (kind : BlockKind) (order : Endian) (size n : ℕ) (front head : List ℕ) (x mid new : SlotView) → length front ≡ n → Fills n front x mid → Opens place kind order size head (unread front mid) new →
    Opens place kind order size head x new
opens_further place kind order size n front head x mid new there first opens = record { says = opens.says; fills = further (length head) n front head x mid new there first opens.fills }

pub refuses_further : (f : NgFault) (place : Place) (n : ℕ) (front : List ℕ) (x mid : SlotView) → length front ≡ n → Fills n front x mid → RefusesBlock f place (unread front mid) → RefusesBlock f place x
refuses_further f place n front x mid there first refused = record {
  next = subst (λ o. IfSome (option_map (next_of place) o) (λ next. next ≡ Err f)) (put_back n front x mid there first) refused.next;
  whole = subst (λ o. IfSome (option_map (blocks_of place) o) (λ blocks. blocks ≡ record { items = []; fault = Some f })) (put_back n front x mid there first) refused.whole;
}

-- the bytes that were taken are the first ones
pub begins_unread : (head bytes : List ℕ) (mid : SlotView) → (unread head mid).bytes ≡ Some bytes → Begins head bytes
begins_unread head bytes mid is = by mid.bytes is
  where
    by : (o : Option (List ℕ)) → option_map (λ left. head ++ left) o ≡ Some bytes → Begins head bytes
    by None h = absurd cc
    by (Some left) h =
        let same : head ++ left ≡ bytes = cc in
        subst (Begins head) same (record { front = sym (take-append_seam head left); long = omega (arith, length-append head left) })

-- the head of a section is cut
pub section_cut : (k : ℕ) (place : Place) (head buffer : List ℕ) (mid new : SlotView) → length head ≡ 8 → length buffer ≡ 12 → kind_in place.order head ≡ SectionHeader → k < 12 →
    Fills k buffer (unread head mid) new → RefusesBlock (CutBlock (place.blocks + 1)) place (unread head mid)
section_cut k place head buffer mid new size room section short second = refuses (CutBlock (place.blocks + 1)) place (unread head mid) (λ bytes is.
    few_of_section place head bytes (begins_unread head bytes mid is) (omega (arith, size)) section
    (let all : length bytes ≡ k = (told_some k buffer bytes (unread head mid) new second is).end_only (omega (arith, room, short)) in omega (arith, all, short)))

-- the head is refused
pub head_told : (place : Place) (kind : BlockKind) (head : List ℕ) (f : NgFault) (x new : SlotView) → length head ≡ head_length kind → kind ≡ kind_in place.order head → Fills (length head) head x new →
    first_fault (head_faults (place.blocks + 1) (order_in place.order kind head) kind head) ≡ Some f → RefusesBlock f place x
head_told place kind head f x new size is_kind fills told = refuses f place x (λ bytes is.
    head_refused place kind (order_in place.order kind head) head bytes f
    (record { begins = whole_front (length head) head bytes new refl (told_some (length head) head bytes x new fills is); enough = omega (arith, size); kind_is = is_kind; order_is = refl }) told)

-- what the head says holds for all the bytes that remain
known_unread : (place : Place) (kind : BlockKind) (order : Endian) (size : ℕ) (head bytes : List ℕ) (mid : SlotView) → Says place kind order size head → (unread head mid).bytes ≡ Some bytes → Known place kind order head bytes
known_unread place kind order size head bytes mid says is = record { begins = begins_unread head bytes mid is; enough = omega (arith, says.enough); kind_is = says.kind_is; order_is = says.order_is }

-- the block is cut
pub rest_cut : (k : ℕ) (place : Place) (kind : BlockKind) (order : Endian) (size : ℕ) (head block : List ℕ) (mid new : SlotView) → Says place kind order size head → length block ≡ size → k < size →
    Fills k block (unread head mid) new → RefusesBlock (CutBlock (place.blocks + 1)) place (unread head mid)
rest_cut k place kind order size head block mid new says there short fills = refuses (CutBlock (place.blocks + 1)) place (unread head mid) (λ bytes is.
    block_cut place kind order head bytes (known_unread place kind order size head bytes mid says is) says.sound
    (let all : length bytes ≡ k = (told_some k block bytes (unread head mid) new fills is).end_only (omega (arith, there, short)) in omega (arith, all, short, says.size_is)))

-- a block that is present is the front of the bytes that remained
block_is : (size : ℕ) (order : Endian) (head block bytes : List ℕ) (new : SlotView) → size ≡ length_in order head → length block ≡ size → FillsFrom size bytes block new → block ≡ take (length_in order head) bytes
block_is size order head block bytes new is there fills = let begins = whole_front size block bytes new there fills in begins.front ∙ ap (λ n. take n bytes) (there ∙ is)

-- the block is refused
pub block_told : (place : Place) (kind : BlockKind) (order : Endian) (size : ℕ) (head block : List ℕ) (f : NgFault) (mid new : SlotView) → Says place kind order size head → Closes size block (unread head mid) new →
    first_fault (content_faults place order kind block) ≡ Some f → RefusesBlock f place (unread head mid)
block_told place kind order size head block f mid new says closes told = refuses f place (unread head mid) (λ bytes is.
    let fills = told_some size block bytes (unread head mid) new closes.fills is in
    block_refused place kind order head bytes f (known_unread place kind order size head bytes mid says is) says.sound (omega (arith, says.size_is, fills.some_left))
    (ap (λ b. first_fault (content_faults place order kind b)) (sym (block_is size order head block bytes new says.size_is closes.there fills)) ∙ told))

-- the block is read
pub record Given (place : Place) (kind : BlockKind) (order : Endian) (block : List ℕ) (x new : SlotView) : Type 0 where
  pub next : next_left place x ≡ option_map (λ rest. Ok (Some (item_of place order kind block, after place order kind block, rest))) new.bytes
  pub whole : blocks_left place x ≡ option_map (with_item (item_of place order kind block)) (blocks_left (after place order kind block) new)

pub given : (place : Place) (kind : BlockKind) (order : Endian) (size : ℕ) (head block : List ℕ) (mid new : SlotView) → Says place kind order size head → Closes size block (unread head mid) new →
    first_fault (content_faults place order kind block) ≡ None → Given place kind order block (unread head mid) new
given place kind order size head block mid new says closes none = record {
  next = if_told (λ o. option_map (next_of place) o ≡ option_map (λ rest. Ok (Some (item_of place order kind block, after place order kind block, rest))) new.bytes) x.bytes
      (λ untold. ap (option_map (λ rest. Ok (Some (item_of place order kind block, after place order kind block, rest)))) (sym (told_none size block x new closes.fills untold)))
      (λ (bytes : List ℕ) (is : x.bytes ≡ Some bytes). ap (λ n. Some n) (is_next bytes is) ∙ ap (option_map (λ rest. Ok (Some (item_of place order kind block, after place order kind block, rest)))) (sym (told_some size block bytes x new closes.fills is).rest));
  whole = if_told (λ o. option_map (blocks_of place) o ≡ option_map (with_item (item_of place order kind block)) (option_map (blocks_of (after place order kind block)) new.bytes)) x.bytes
      (λ untold. ap (λ o. option_map (with_item (item_of place order kind block)) (option_map (blocks_of (after place order kind block)) o)) (sym (told_none size block x new closes.fills untold)))
      (λ (bytes : List ℕ) (is : x.bytes ≡ Some bytes). ap (λ b. Some b) (blocks_next place bytes ∙ ap (and_rest blocks_of) (is_next bytes is))
      ∙ ap (λ o. option_map (with_item (item_of place order kind block)) (option_map (blocks_of (after place order kind block)) o)) (sym (told_some size block bytes x new closes.fills is).rest));
}
  where
    x : SlotView
    x = unread head mid

    is_next : (bytes : List ℕ) → x.bytes ≡ Some bytes → next_of place bytes ≡ Ok (Some (item_of place order kind block, after place order kind block, drop size bytes))
    is_next bytes is =
        let fills = told_some size block bytes x new closes.fills is in
        let same : take (length_in order head) bytes ≡ block = sym (block_is size order head block bytes new says.size_is closes.there fills) in
        block_given place kind order head bytes (known_unread place kind order size head bytes mid says is) says.sound (omega (arith, says.size_is, fills.some_left))
        (ap (λ b. first_fault (content_faults place order kind b)) same ∙ none)
        ∙ ap (λ b. Ok (Some (item_of place order kind b, after place order kind b, drop (length_in order head) bytes))) same
        ∙ ap (λ n. Ok (Some (item_of place order kind block, after place order kind block, drop n bytes))) (sym says.size_is)

-- the length in an accepted head
pub record Length (size : ℕ) : Type 0 where
  pub least : 12 ≤ size
  pub most : size ≤ 16777216
  pub multiple : size % 4 ≡ 0

-- a buffer that was filled fully
pub full : (k n : ℕ) (buffer : List ℕ) (x new : SlotView) → length buffer ≡ n → n ≤ k → Fills k buffer x new → Fills n buffer x new
full k n buffer x new size all fills = subst (λ m. Fills m buffer x new) (let e : k ≡ n = omega (arith, fills.within, size, all) in e) fills

pub full_length : (k n : ℕ) (buffer : List ℕ) (x new : SlotView) → length buffer ≡ n → n ≤ k → Fills k buffer x new → Fills (length buffer) buffer x new
full_length k n buffer x new size all fills = subst (λ m. Fills m buffer x new) (sym size) (full k n buffer x new size all fills)

pub known_first : (k : ℕ) (buffer first first' : List ℕ) (old new : SlotView) → first ≡ first' → Fills k buffer (unread first old) new → Fills k buffer (unread first' old) new
known_first k buffer first first' old new same fills = subst (λ l. Fills k buffer (unread l old) new) same fills

-- what holds for a value that is there
pub ok_some : {T E : Type 0} (P Q : T → Type 0) (r : Result (Option T) E) → ((t : T) → P t → Q t) → IfOk r (λ o. IfSome o P) → IfOk r (λ o. IfSome o Q)
ok_some P Q (Ok None) f h = tt
ok_some P Q (Ok (Some t)) f h = f t h
ok_some P Q (Err e) f h = tt

-- the fault of an answer, whatever the good answer would have been
pub retyped : {T U : Type 0} (e f : NgReadFault) → IsErrOf {T = T} (Err e) f → IsErrOf {T = U} (Err e) f
retyped e f is = let same : e ≡ f = cc in ap (λ x. Err x) same
