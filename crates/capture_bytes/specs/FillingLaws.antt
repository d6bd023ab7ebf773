-- For proofs: what a filled buffer says about the bytes that remained, and how steps of taking add up.
use Rattle.std.proofs.Common.{◌≡◌, ◌≤◌, ◌+◌, ◌-◌, ◌∙◌, ℕ, List, [], ◌++◌, length, take, drop, refl, ap, sym, subst, length-append, length-drop, arith}
use Rattle.std.specs.Prelude.{Option, Some, None, MatchOption, IfSome}
use Rattle.std.specs.Option.{option_map}
use Rattle.std.proofs.Math.Seq.{take-append-add, drop-append_seam}
use Rattle.std.proofs.Math.Seq.{take-length}
use Rattle.std.proofs.lemmas.Slice.{take-put_mid}
use borrow.Rule.Slice.PartMut.{put_mid, mid_of, same_len_mid}
use Rattle.std.proofs.lemmas.List.{drop-drop, length-take-le}
use Rattle.nfp_outside.specs.Outside.{SlotView, TakesFront}
use Rattle.capture_bytes.specs.Filling.{Fills, FillsFrom, unread}

-- what a slot shows after a filled buffer, by what it showed before
pub told_some : (k : ℕ) (buffer bytes : List ℕ) (old new : SlotView) → Fills k buffer old new → old.bytes ≡ Some bytes → FillsFrom k bytes buffer new
told_some k buffer bytes old new fills is = subst (λ o. MatchOption o (new.bytes ≡ None) (λ left. FillsFrom k left buffer new)) is fills.told

pub told_none : (k : ℕ) (buffer : List ℕ) (old new : SlotView) → Fills k buffer old new → old.bytes ≡ None → new.bytes ≡ None
told_none k buffer old new fills is = subst (λ o. MatchOption o (new.bytes ≡ None) (λ left. FillsFrom k left buffer new)) is fills.told

pub if_some : {X : Type 0} (P : X → Type 0) (o : Option X) → ((x : X) → o ≡ Some x → P x) → IfSome o P
if_some P None f = tt
if_some P (Some x) f = f x refl

pub if_told : {X : Type 0} (P : Option X → Type 0) (o : Option X) → (o ≡ None → P None) → ((x : X) → o ≡ Some x → P (Some x)) → P o
if_told P None f g = f refl
if_told P (Some x) f g = g x refl

pub fills_taken : (k : ℕ) (buffer : List ℕ) (old new : SlotView) → Fills k buffer old new → TakesFront (length buffer) old new
fills_taken k buffer old new fills = record {
  same_name = fills.same_name;
  told = if_told (λ o. MatchOption o (new.bytes ≡ None) (λ bytes. (n : ℕ) × (n ≤ length buffer) × (new.bytes ≡ Some (drop n bytes)))) old.bytes (told_none k buffer old new fills)
      (λ (bytes : List ℕ) (is : old.bytes ≡ Some bytes). (k, fills.within, (told_some k buffer bytes old new fills is).rest));
}

-- two steps of taking are one
pub taken_twice : (a b : ℕ) (x y z : SlotView) → TakesFront a x y → TakesFront b y z → TakesFront (a + b) x z
taken_twice a b x y z first second = record { same_name = second.same_name ∙ first.same_name; told = twice x.bytes first.told }
  where
    twice : (o : Option (List ℕ)) → MatchOption o (y.bytes ≡ None) (λ bytes. (n : ℕ) × (n ≤ a) × (y.bytes ≡ Some (drop n bytes))) →
        MatchOption o (z.bytes ≡ None) (λ bytes. (n : ℕ) × (n ≤ a + b) × (z.bytes ≡ Some (drop n bytes)))
    twice None h = subst (λ o. MatchOption o (z.bytes ≡ None) (λ bytes. (n : ℕ) × (n ≤ b) × (z.bytes ≡ Some (drop n bytes)))) h second.told
    twice (Some bytes) h =
        let more : (n : ℕ) × (n ≤ b) × (z.bytes ≡ Some (drop n (drop h.0 bytes))) = subst (λ o. MatchOption o (z.bytes ≡ None) (λ left. (n : ℕ) × (n ≤ b) × (z.bytes ≡ Some (drop n left)))) h.2 second.told in
        (h.0 + more.0, omega (arith, h.1, more.1), more.2 ∙ ap (λ l. Some l) (drop-drop more.0 h.0 bytes))

pub taken_less : (a b : ℕ) (x y : SlotView) → a ≤ b → TakesFront a x y → TakesFront b x y
taken_less a b x y less taken = record { same_name = taken.same_name; told = more x.bytes taken.told }
  where
    more : (o : Option (List ℕ)) → MatchOption o (y.bytes ≡ None) (λ bytes. (n : ℕ) × (n ≤ a) × (y.bytes ≡ Some (drop n bytes))) → MatchOption o (y.bytes ≡ None) (λ bytes. (n : ℕ) × (n ≤ b) × (y.bytes ≡ Some (drop n bytes)))
    more None h = h
    more (Some bytes) h = (h.0, omega (arith, h.1), h.2)

-- what was filled after bytes that were read before
fills_more : (first bytes buffer : List ℕ) (k : ℕ) (new : SlotView) → FillsFrom k bytes buffer new → FillsFrom (length first + k) (first ++ bytes) (first ++ buffer) new
fills_more first bytes buffer k new fills = record {
  some_left = omega (arith, fills.some_left, length-append first bytes);
  front = take-append-add first buffer k ∙ ap (λ l. first ++ l) fills.front ∙ sym (take-append-add first bytes k);
  rest = fills.rest ∙ ap (λ l. Some l) (ap (drop k) (sym (drop-append_seam first bytes)) ∙ drop-drop k (length first) (first ++ bytes));
  end_only = λ short. omega (arith, fills.end_only (omega (arith, short, length-append first buffer)), length-append first bytes);
}

pub fills_behind : (first buffer : List ℕ) (k : ℕ) (old new : SlotView) → Fills k buffer old new → Fills (length first + k) (first ++ buffer) (unread first old) new
fills_behind first buffer k old new fills = record {
  within = omega (arith, fills.within, length-append first buffer);
  same_name = fills.same_name;
  told = if_told (λ o. MatchOption (option_map (λ left. first ++ left) o) (new.bytes ≡ None) (λ bytes. FillsFrom (length first + k) bytes (first ++ buffer) new)) old.bytes
      (told_none k buffer old new fills) (λ (bytes : List ℕ) (is : old.bytes ≡ Some bytes). fills_more first bytes buffer k new (told_some k buffer bytes old new fills is));
}

-- no bytes were read before
pub unread_none : (slot : SlotView) → unread [] slot ≡ slot
unread_none slot = ap (λ b. record { name = slot.name; bytes = b; weight = slot.weight; faults = slot.faults }) (same slot.bytes)
  where
    same : (o : Option (List ℕ)) → option_map (λ left. [] ++ left) o ≡ o
    same None = refl
    same (Some bytes) = refl

-- as many bytes as the end of the buffer has
pub room_of : (done : ℕ) (buffer piece : List ℕ) → done ≤ length buffer → length piece ≡ length (mid_of done (length buffer - done) buffer) → length piece + done ≡ length buffer
room_of done buffer piece within size = omega (arith, size, length-take-le (length buffer - done) (drop done buffer) (omega (arith, length-drop done buffer)))

-- a buffer whose end was written anew
pub put_end : (done : ℕ) (buffer piece : List ℕ) → done ≤ length buffer → length piece + done ≡ length buffer → put_mid done (length buffer - done) buffer piece ≡ take done buffer ++ piece
put_end done buffer piece within room =
    let whole : length (put_mid done (length buffer - done) buffer piece) ≡ length piece + done = same_len_mid done (length buffer - done) buffer piece (middle done buffer piece within room) ∙ sym room in
    sym (take-length (put_mid done (length buffer - done) buffer piece)) ∙ ap (λ n. take n (put_mid done (length buffer - done) buffer piece)) whole
    ∙ take-put_mid done (length buffer - done) buffer piece (length piece + done) (omega arith) within
  where
    middle : (done : ℕ) (buffer piece : List ℕ) → done ≤ length buffer → length piece + done ≡ length buffer → length piece ≡ length (mid_of done (length buffer - done) buffer)
    middle done buffer piece within room = let e : length (mid_of done (length buffer - done) buffer) ≡ length buffer - done = length-take-le (length buffer - done) (drop done buffer) (omega (arith, length-drop done buffer)) in omega (arith, e)

-- a buffer with known bytes at its front, whose other `n` were written anew
pub put_behind : (n : ℕ) (first buffer piece : List ℕ) → take (length first) buffer ≡ first → length first + n ≡ length buffer → length piece ≡ length (mid_of (length first) n buffer) →
    put_mid (length first) n buffer piece ≡ first ++ piece
put_behind n first buffer piece front whole size =
    let others : n ≡ length buffer - length first = omega (arith, whole) in
    let within : length first ≤ length buffer = omega (arith, whole) in
    ap (λ k. put_mid (length first) k buffer piece) others
    ∙ put_end (length first) buffer piece within (room_of (length first) buffer piece within (size ∙ ap (λ k. length (mid_of (length first) k buffer)) others)) ∙ ap (λ l. l ++ piece) front
