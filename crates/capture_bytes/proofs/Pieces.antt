-- How the pieces that reads give add up.
use Rattle.std.proofs.Common.{◌≡◌, ◌≢◌, ◌≤◌, ◌<◌, ◌+◌, ◌++◌, ◌∙◌, ℕ, List, length, take, drop, refl, ap, sym, subst, length-append, length-drop, arith}
use Rattle.std.specs.Prelude.{Option, Some, None, MatchOption}
use Rattle.std.proofs.Math.Seq.{take-add, take-append-add}
use Rattle.std.proofs.lemmas.List.{length-take-le, drop-drop}
use Rattle.nfp_outside.specs.declared.slot.Slot.{Slot}
use Rattle.nfp_outside.specs.declared.slot.Slot.TheVariants.{Capture}
use Rattle.nfp_outside.specs.Outside.{SlotView, Reads, Takes}
use Rattle.capture_bytes.specs.Filling.{Fills, FillsFrom}

-- this number of the bytes that remained is at the front of the buffer
pub record IsFront (done : ℕ) (bytes buffer : List ℕ) (now : Option (List ℕ)) : Type 0 where
  pub some_left : done ≤ length bytes
  pub front : take done buffer ≡ take done bytes
  pub rest : now ≡ Some (drop done bytes)

-- what a loop that fills a buffer has done so far
pub record HasFilled {D : Type 0} (slots : D → Slot → SlotView) (buffer : List ℕ) (done : ℕ) (old new : D) : Type 0 where
  pub within : done ≤ length buffer
  pub same_name : (slots new Capture).name ≡ (slots old Capture).name
  pub told : MatchOption (slots old Capture).bytes ((slots new Capture).bytes ≡ None) (λ bytes. IsFront done bytes buffer (slots new Capture).bytes)
  pub later : (slots old Capture).faults ≤ (slots new Capture).faults
  pub others : (s : Slot) → s ≢ Capture → slots new s ≡ slots old s

front_more : (front piece bytes : List ℕ) (done k : ℕ) → length front ≡ done → front ≡ take done bytes → take k piece ≡ take k (drop done bytes) → take (done + k) (front ++ piece) ≡ take (done + k) bytes
front_more front piece bytes done k size same more =
    ap (λ n. take (n + k) (front ++ piece)) (sym size) ∙ take-append-add front piece k ∙ ap (λ l. l ++ take k piece) same ∙ ap (λ l. take done bytes ++ l) more ∙ sym (take-add done k bytes)

told_more : (buffer piece : List ℕ) (done k : ℕ) (before : Option (List ℕ)) (mid new : SlotView) → done ≤ length buffer → Reads k piece mid new →
    MatchOption before (mid.bytes ≡ None) (λ bytes. IsFront done bytes buffer mid.bytes) →
    MatchOption before (new.bytes ≡ None) (λ bytes. IsFront (done + k) bytes (take done buffer ++ piece) new.bytes)
told_more buffer piece done k None mid new within reads told = subst (λ o. MatchOption o (new.bytes ≡ None) (λ bytes. Takes k bytes piece new)) told reads.told
told_more buffer piece done k (Some bytes) mid new within reads told =
    let takes : Takes k (drop done bytes) piece new = subst (λ o. MatchOption o (new.bytes ≡ None) (λ left. Takes k left piece new)) told.rest reads.told in
    record {
      some_left = omega (arith, takes.some_left, told.some_left, length-drop done bytes);
      front = front_more (take done buffer) piece bytes done k (length-take-le done buffer within) told.front takes.front;
      rest = takes.rest ∙ ap (λ l. Some l) (drop-drop k done bytes);
    }

-- one more piece
pub filled_more : {D : Type 0} (slots : D → Slot → SlotView) (buffer piece : List ℕ) (done k : ℕ) (old mid new : D) → HasFilled slots buffer done old mid →
    length piece + done ≡ length buffer → Reads k piece (slots mid Capture) (slots new Capture) → (slots mid Capture).faults ≤ (slots new Capture).faults →
    ((s : Slot) → s ≢ Capture → slots new s ≡ slots mid s) → HasFilled slots (take done buffer ++ piece) (done + k) old new
filled_more slots buffer piece done k old mid new so_far room reads later others = record {
  within = omega (arith, so_far.within, reads.within, room, length-append (take done buffer) piece, length-take-le done buffer so_far.within);
  same_name = reads.same_name ∙ so_far.same_name;
  told = told_more buffer piece done k (slots old Capture).bytes (slots mid Capture) (slots new Capture) so_far.within reads so_far.told;
  later = let earlier = so_far.later in omega arith;
  others = λ s other. others s other ∙ so_far.others s other;
}

-- a read that gave nothing: nothing more remained
told_end : (buffer piece : List ℕ) (done : ℕ) (before : Option (List ℕ)) (mid new : SlotView) → done ≤ length buffer → 0 < length piece → Reads 0 piece mid new →
    MatchOption before (mid.bytes ≡ None) (λ bytes. IsFront done bytes buffer mid.bytes) → MatchOption before (new.bytes ≡ None) (λ bytes. FillsFrom done bytes (take done buffer ++ piece) new)
told_end buffer piece done None mid new within some reads told = subst (λ o. MatchOption o (new.bytes ≡ None) (λ bytes. Takes 0 bytes piece new)) told reads.told
told_end buffer piece done (Some bytes) mid new within some reads told =
    let takes : Takes 0 (drop done bytes) piece new = subst (λ o. MatchOption o (new.bytes ≡ None) (λ left. Takes 0 left piece new)) told.rest reads.told in
    let empty : length (drop done bytes) ≡ 0 = ap length (takes.end_only refl some) in
    record {
      some_left = told.some_left;
      front = ap (λ n. take n (take done buffer ++ piece)) (let e : done ≡ done + 0 = omega arith in e)
          ∙ front_more (take done buffer) piece bytes done 0 (length-take-le done buffer within) told.front refl ∙ ap (λ n. take n bytes) (let e : done + 0 ≡ done = omega arith in e);
      rest = takes.rest;
      end_only = λ short. omega (arith, empty, told.some_left, length-drop done bytes);
    }

pub fills_end : {D : Type 0} (slots : D → Slot → SlotView) (buffer piece : List ℕ) (done : ℕ) (old mid new : D) → HasFilled slots buffer done old mid →
    length piece + done ≡ length buffer → 0 < length piece → Reads 0 piece (slots mid Capture) (slots new Capture) → Fills done (take done buffer ++ piece) (slots old Capture) (slots new Capture)
fills_end slots buffer piece done old mid new so_far room some reads = record {
  within = omega (arith, so_far.within, length-append (take done buffer) piece, length-take-le done buffer so_far.within);
  same_name = reads.same_name ∙ so_far.same_name;
  told = told_end buffer piece done (slots old Capture).bytes (slots mid Capture) (slots new Capture) so_far.within some reads so_far.told;
}
