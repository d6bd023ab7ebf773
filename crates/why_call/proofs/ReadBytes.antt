-- Facts about the bytes of the policy and of the capture, if the desk shows what the words read.
use Rattle.std.proofs.Common.{ℕ, List}
use Rattle.std.specs.Prelude.{Option, Some, None, IfSome, Result, Ok, Err}
use Rattle.nfp_outside.specs.declared.slot.Slot.{Slot}
use Rattle.nfp_outside.specs.declared.slot.Slot.TheVariants as slots
use Rattle.nfp_outside.specs.Outside.{SlotView}
use Rattle.command_words.specs.WhyWords.{WhyAsked}
use Rattle.command_words.specs.declared.usage.UsageFault.{UsageFault}
use Rattle.call_ending.specs.Told.{OfBytes}
use Rattle.why_call.specs.Answers.{WhereRead}

-- if one fact gives another for all bytes, it gives it for the known bytes
pub if_told : (o : Option (List ℕ)) (P Q : List ℕ → Type 0) → ((bytes : List ℕ) → P bytes → Q bytes) → IfSome o P → IfSome o Q
if_told None P Q f h = tt
if_told (Some bytes) P Q f h = f bytes h

pub told_always : (o : Option (List ℕ)) (P : List ℕ → Type 0) → ((bytes : List ℕ) → P bytes) → IfSome o P
told_always None P f = tt
told_always (Some bytes) P f = f bytes

told_under : (o : Option (List ℕ)) (F : Type 0) (P : List ℕ → Type 0) → (F → IfSome o P) → IfSome o (λ bytes. F → P bytes)
told_under None F P h = tt
told_under (Some bytes) F P h = h

-- the same for the known bytes, or some
pub if_of : (o : Option (List ℕ)) (P Q : List ℕ → Type 0) → ((bytes : List ℕ) → P bytes → Q bytes) → OfBytes o P → OfBytes o Q
if_of None P Q f h = (h.0, f h.0 h.1)
if_of (Some bytes) P Q f h = f bytes h

pub told_of : (o : Option (List ℕ)) (P : List ℕ → Type 0) → OfBytes o P → IfSome o P
told_of None P h = tt
told_of (Some bytes) P h = h

-- ---- both

pub if_read : (asked : Result WhyAsked UsageFault) (old : Slot → SlotView) (P Q : List ℕ → List ℕ → Type 0) → ((p c : List ℕ) → P p c → Q p c) → WhereRead asked old P → WhereRead asked old Q
if_read (Ok asked) old P Q f h = if_told (old slots.Policy).bytes _ _ (λ p. if_told (old slots.Capture).bytes (P p) (Q p) (f p)) h
if_read (Err fault) old P Q f h = λ p c. f p c (h p c)

pub read_always : (asked : Result WhyAsked UsageFault) (old : Slot → SlotView) (P : List ℕ → List ℕ → Type 0) → ((p c : List ℕ) → P p c) → WhereRead asked old P
read_always (Ok asked) old P f = told_always (old slots.Policy).bytes _ (λ p. told_always (old slots.Capture).bytes (P p) (f p))
read_always (Err fault) old P f = f

pub read_under : (asked : Result WhyAsked UsageFault) (old : Slot → SlotView) (F : Type 0) (P : List ℕ → List ℕ → Type 0) → (F → WhereRead asked old P) → WhereRead asked old (λ p c. F → P p c)
read_under (Ok asked) old F P h = if_told (old slots.Policy).bytes _ _ (λ p. told_under (old slots.Capture).bytes F (P p))
    (told_under (old slots.Policy).bytes F (λ p. IfSome (old slots.Capture).bytes (P p)) h)
read_under (Err fault) old F P h = λ p c x. h x p c
