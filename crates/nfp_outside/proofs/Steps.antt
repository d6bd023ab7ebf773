-- How the steps of a loop over a desk add up.
use Rattle.std.proofs.Common.{◌≡◌, ◌≢◌, ◌≤◌, ◌<◌, ◌+◌, ◌++◌, ℕ, List, [], length, drop, take, refl, ap, sym, subst, ◌∙◌, append_assoc, length-append, arith}
use Rattle.std.specs.Prelude.{Option, Some, None, MatchOption}
use Rattle.std.proofs.Math.Seq.{drop-append_seam}
use Rattle.std.proofs.lemmas.List.{length-take-le, take-append-drop}
use Rattle.nfp_outside.specs.declared.slot.Slot.{Slot}
use Rattle.nfp_outside.specs.Outside.{SlotView, Appends, TakesFront, Reads, Takes, Writes, KeepsSlot}
use Rattle.nfp_outside.specs.Adding.{appends_none, appends_more}

-- what a sequence of calls that append to one slot keeps: these bytes were put there, and nothing else changed
pub record Puts {D : Type 0} (slots : D → Slot → SlotView) (slot : Slot) (bytes : List ℕ) (old new : D) : Type 0 where
  pub appended : Appends bytes (slots old slot) (slots new slot)
  pub later : (slots old slot).faults ≤ (slots new slot).faults
  pub others : (s : Slot) → s ≢ slot → slots new s ≡ slots old s

pub puts_none : {D : Type 0} (slots : D → Slot → SlotView) (slot : Slot) (x : D) → Puts slots slot [] x x
puts_none slots slot x = record { appended = appends_none (slots x slot); later = omega arith; others = λ s other. refl }

pub puts_more : {D : Type 0} (slots : D → Slot → SlotView) (slot : Slot) (a b : List ℕ) (x y z : D) →
    Puts slots slot a x y → Puts slots slot b y z → Puts slots slot (a ++ b) x z
puts_more slots slot a b x y z first second = record {
  appended = appends_more a b (slots x slot) (slots y slot) (slots z slot) first.appended second.appended;
  later = let earlier = first.later in let after = second.later in omega arith;
  others = λ s other. second.others s other ∙ first.others s other;
}

-- what a loop that writes the bytes has done so far
pub record HasWritten {D : Type 0} (slots : D → Slot → SlotView) (slot : Slot) (bytes rest : List ℕ) (old new : D) : Type 0 where
  pub done : List ℕ
  pub parts : bytes ≡ done ++ rest
  pub puts : Puts slots slot done old new
  pub untouched : bytes ≡ [] → new ≡ old

pub has_written_none : {D : Type 0} (slots : D → Slot → SlotView) (slot : Slot) (bytes : List ℕ) (x : D) → HasWritten slots slot bytes bytes x x
has_written_none slots slot bytes x = record { done = []; parts = refl; puts = puts_none slots slot x; untouched = λ _. refl }

pub has_written_more : {D : Type 0} (slots : D → Slot → SlotView) (slot : Slot) (bytes rest : List ℕ) (old mid new : D) (k : ℕ) →
    HasWritten slots slot bytes rest old mid → 0 < length rest → Writes k rest (slots mid slot) (slots new slot) →
    (slots mid slot).faults ≤ (slots new slot).faults → ((s : Slot) → s ≢ slot → slots new s ≡ slots mid s) →
    HasWritten slots slot bytes (drop k rest) old new
has_written_more slots slot bytes rest old mid new k so_far more writes later others = record {
  done = so_far.done ++ take k rest;
  parts = so_far.parts ∙ ap (λ x. so_far.done ++ x) (sym (take-append-drop k rest)) ∙ sym (append_assoc so_far.done (take k rest) (drop k rest));
  puts = puts_more slots slot so_far.done (take k rest) old mid new so_far.puts (record { appended = writes.appended; later = later; others = others });
  untouched = λ empty. absurd (no_rest so_far.done rest bytes so_far.parts empty more);
}
  where
    no_rest : (done rest bytes : List ℕ) → bytes ≡ done ++ rest → bytes ≡ [] → 0 < length rest → ⊥
    no_rest done rest bytes parts empty more =
        let sizes : length bytes ≡ length done + length rest = ap length parts ∙ length-append done rest in
        let none : length bytes ≡ 0 = ap length empty in
        omega arith

-- what holds for the bytes of a read slot after these were taken
abbrev pub Taken : List ℕ → Option (List ℕ) → Option (List ℕ) → Type 0
Taken all None now = now ≡ None
Taken all (Some bytes) now = (rest : List ℕ) × (now ≡ Some rest) × (bytes ≡ all ++ rest)

-- what a loop that reads has done so far
pub record HasRead {D : Type 0} (slots : D → Slot → SlotView) (slot : Slot) (all : List ℕ) (max : ℕ) (old new : D) : Type 0 where
  pub within : length all ≤ max + 1
  pub taken : Taken all (slots old slot).bytes (slots new slot).bytes
  pub same_name : (slots new slot).name ≡ (slots old slot).name
  pub later : (slots old slot).faults ≤ (slots new slot).faults
  pub others : (s : Slot) → s ≢ slot → slots new s ≡ slots old s

taken_more : (all buffer : List ℕ) (k : ℕ) (before : Option (List ℕ)) (mid new : SlotView) → Taken all before mid.bytes → Reads k buffer mid new → Taken (all ++ take k buffer) before new.bytes
taken_more all buffer k None mid new taken reads = subst (λ o. MatchOption o (new.bytes ≡ None) (λ bytes. Takes k bytes buffer new)) taken reads.told
taken_more all buffer k (Some bytes) mid new taken reads =
    let takes : Takes k taken.0 buffer new = subst (λ o. MatchOption o (new.bytes ≡ None) (λ left. Takes k left buffer new)) taken.1 reads.told in
    (drop k taken.0, takes.rest, taken.2 ∙ ap (λ x. all ++ x) (sym (take-append-drop k taken.0) ∙ ap (λ x. x ++ drop k taken.0) (sym takes.front)) ∙ sym (append_assoc all (take k buffer) (drop k taken.0)))

pub has_read_more : {D : Type 0} (slots : D → Slot → SlotView) (slot : Slot) (all buffer : List ℕ) (max k : ℕ) (old mid new : D) →
    HasRead slots slot all max old mid → Reads k buffer (slots mid slot) (slots new slot) → length all + length buffer ≤ max + 1 →
    (slots mid slot).faults ≤ (slots new slot).faults → ((s : Slot) → s ≢ slot → slots new s ≡ slots mid s) →
    HasRead slots slot (all ++ take k buffer) max old new
has_read_more slots slot all buffer max k old mid new so_far reads room later others = record {
  within = let size = length-append all (take k buffer) in let part = length-take-le k buffer reads.within in let some = reads.within in omega (arith, size, part, some, room);
  taken = taken_more all buffer k (slots old slot).bytes (slots mid slot) (slots new slot) so_far.taken reads;
  same_name = reads.same_name ∙ so_far.same_name;
  later = let earlier = so_far.later in omega arith;
  others = λ s other. others s other ∙ so_far.others s other;
}

-- what was taken is off the front of the bytes that remained
pub taken_front : {D : Type 0} (slots : D → Slot → SlotView) (slot : Slot) (all : List ℕ) (max : ℕ) (old mid : D) (new : SlotView) →
    HasRead slots slot all max old mid → KeepsSlot (slots mid slot) new → TakesFront (max + 1) (slots old slot) new
taken_front slots slot all max old mid new so_far keeps = record {
  same_name = keeps.same_name ∙ so_far.same_name;
  told = off_front all max (slots old slot).bytes (slots mid slot).bytes new.bytes so_far.within so_far.taken keeps.same_bytes;
}
  where
    off_front : (all : List ℕ) (max : ℕ) (before mid now : Option (List ℕ)) → length all ≤ max + 1 → Taken all before mid → now ≡ mid →
        MatchOption before (now ≡ None) (λ bytes. (k : ℕ) × (k ≤ max + 1) × (now ≡ Some (drop k bytes)))
    off_front all max None mid now within taken same = same ∙ taken
    off_front all max (Some bytes) mid now within taken same =
        (length all, within, same ∙ taken.1 ∙ ap (λ b. Some b) (sym (ap (drop (length all)) taken.2 ∙ drop-append_seam all taken.0)))

pub read_front : {D : Type 0} (slots : D → Slot → SlotView) (slot : Slot) (all buffer : List ℕ) (max k : ℕ) (old mid new : D) →
    HasRead slots slot all max old mid → Reads k buffer (slots mid slot) (slots new slot) → length all + length buffer ≤ max + 1 →
    (slots mid slot).faults ≤ (slots new slot).faults → ((s : Slot) → s ≢ slot → slots new s ≡ slots mid s) →
    TakesFront (max + 1) (slots old slot) (slots new slot)
read_front slots slot all buffer max k old mid new so_far reads room later others =
    taken_front slots slot (all ++ take k buffer) max old new (slots new slot)
    (has_read_more slots slot all buffer max k old mid new so_far reads room later others) (record { same_name = refl; same_bytes = refl; same_weight = refl })
