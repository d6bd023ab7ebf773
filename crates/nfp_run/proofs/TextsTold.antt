-- Facts about the bytes of the texts and of the capture, if the desk shows what the words read.
use Rattle.std.proofs.Common.{ℕ, List}
use Rattle.std.specs.Prelude.{Option, Some, None, IfSome, Result, Ok, Err}
use Rattle.nfp_outside.specs.declared.slot.Slot.{Slot}
use Rattle.nfp_outside.specs.declared.slot.Slot.TheVariants as slots
use Rattle.nfp_outside.specs.Outside.{SlotView}
use Rattle.command_words.specs.declared.usage.UsageFault.{UsageFault}
use Rattle.command_words.specs.Words.{Command, Run, Plan, Demo, Flows}
use Rattle.call_ending.specs.Told.{OfBytes}
use Rattle.nfp_run.specs.Answers.{WhereNamed, WhereRead, WhereTexts}

-- if one fact gives another for all bytes, it gives it for the known bytes
pub if_told : (o : Option (List ℕ)) (P Q : List ℕ → Type 0) → ((bytes : List ℕ) → P bytes → Q bytes) → IfSome o P → IfSome o Q
if_told None P Q f h = tt
if_told (Some bytes) P Q f h = f bytes h

pub told_always : (o : Option (List ℕ)) (P : List ℕ → Type 0) → ((bytes : List ℕ) → P bytes) → IfSome o P
told_always None P f = tt
told_always (Some bytes) P f = f bytes

-- ---- the known bytes, or some

-- if one fact gives another for all bytes, it gives it here too
pub if_of : (o : Option (List ℕ)) (P Q : List ℕ → Type 0) → ((bytes : List ℕ) → P bytes → Q bytes) → OfBytes o P → OfBytes o Q
if_of None P Q f h = (h.0, f h.0 h.1)
if_of (Some bytes) P Q f h = f bytes h

-- it is a fact about the known bytes
pub told_of : (o : Option (List ℕ)) (P : List ℕ → Type 0) → OfBytes o P → IfSome o P
told_of None P h = tt
told_of (Some bytes) P h = h

-- ---- premises

-- what is due for the bytes under a premise
told_under : (o : Option (List ℕ)) (F : Type 0) (P : List ℕ → Type 0) → (F → IfSome o P) → IfSome o (λ bytes. F → P bytes)
told_under None F P h = tt
told_under (Some bytes) F P h = h

-- ---- a text that has a name among the words, or none

pub if_named : (named o : Option (List ℕ)) (P Q : List ℕ → Type 0) → ((text : List ℕ) → P text → Q text) → WhereNamed named o P → WhereNamed named o Q
if_named None o P Q f h = λ text. f text (h text)
if_named (Some name) o P Q f h = if_told o P Q f h

named_always : (named o : Option (List ℕ)) (P : List ℕ → Type 0) → ((text : List ℕ) → P text) → WhereNamed named o P
named_always None o P f = f
named_always (Some name) o P f = told_always o P f

named_under : (named o : Option (List ℕ)) (F : Type 0) (P : List ℕ → Type 0) → (F → WhereNamed named o P) → WhereNamed named o (λ text. F → P text)
named_under None o F P h = λ text x. h x text
named_under (Some name) o F P h = told_under o F P h

-- ---- the policy and the graphs

pub if_texts : (named : Option (List ℕ)) (old : Slot → SlotView) (P Q : List ℕ → List ℕ → Type 0) → ((p g : List ℕ) → P p g → Q p g) → WhereTexts named old P → WhereTexts named old Q
if_texts named old P Q f h = if_told (old slots.Policy).bytes _ _ (λ p. if_named named (old slots.Graph).bytes (P p) (Q p) (f p)) h

texts_always : (named : Option (List ℕ)) (old : Slot → SlotView) (P : List ℕ → List ℕ → Type 0) → ((p g : List ℕ) → P p g) → WhereTexts named old P
texts_always named old P f = told_always (old slots.Policy).bytes _ (λ p. named_always named (old slots.Graph).bytes (P p) (f p))

-- what a fact about the policy gives for any graphs
pub texts_by_policy : (named : Option (List ℕ)) (old : Slot → SlotView) (R : List ℕ → Type 0) (P : List ℕ → List ℕ → Type 0) → ((p g : List ℕ) → R p → P p g) → IfSome (old slots.Policy).bytes R →
    WhereTexts named old P
texts_by_policy named old R P f h = if_told (old slots.Policy).bytes R _ (λ p r. named_always named (old slots.Graph).bytes (P p) (λ g. f p g r)) h

pub texts_under : (named : Option (List ℕ)) (old : Slot → SlotView) (F : Type 0) (P : List ℕ → List ℕ → Type 0) → (F → WhereTexts named old P) → WhereTexts named old (λ p g. F → P p g)
texts_under named old F P h = if_told (old slots.Policy).bytes _ _ (λ p. named_under named (old slots.Graph).bytes F (P p))
    (told_under (old slots.Policy).bytes F (λ p. WhereNamed named (old slots.Graph).bytes (P p)) h)

-- ---- all that the words read

pub if_read : (command : Result Command UsageFault) (old : Slot → SlotView) (P Q : List ℕ → List ℕ → List ℕ → Type 0) → ((p g c : List ℕ) → P p g c → Q p g c) → WhereRead command old P →
    WhereRead command old Q
if_read (Ok (Run names options)) old P Q f h = if_texts names.graph old _ _ (λ p g. if_told (old slots.Capture).bytes (P p g) (Q p g) (f p g)) h
if_read (Ok (Plan names)) old P Q f h = if_texts names.graph old _ _ (λ p g here c. f p g c (here c)) h
if_read (Ok (Demo input options)) old P Q f h = λ p g c. f p g c (h p g c)
if_read (Ok (Flows names options)) old P Q f h = if_told (old slots.Capture).bytes _ _ (λ c here p g. f p g c (here p g)) h
if_read (Err fault) old P Q f h = λ p g c. f p g c (h p g c)

pub read_always : (command : Result Command UsageFault) (old : Slot → SlotView) (P : List ℕ → List ℕ → List ℕ → Type 0) → ((p g c : List ℕ) → P p g c) → WhereRead command old P
read_always (Ok (Run names options)) old P f = texts_always names.graph old _ (λ p g. told_always (old slots.Capture).bytes (P p g) (f p g))
read_always (Ok (Plan names)) old P f = texts_always names.graph old _ f
read_always (Ok (Demo input options)) old P f = f
read_always (Ok (Flows names options)) old P f = told_always (old slots.Capture).bytes _ (λ c p g. f p g c)
read_always (Err fault) old P f = f

pub read_under : (command : Result Command UsageFault) (old : Slot → SlotView) (F : Type 0) (P : List ℕ → List ℕ → List ℕ → Type 0) → (F → WhereRead command old P) →
    WhereRead command old (λ p g c. F → P p g c)
read_under (Ok (Run names options)) old F P h = if_texts names.graph old _ _ (λ p g. told_under (old slots.Capture).bytes F (P p g)) (texts_under names.graph old F _ h)
read_under (Ok (Plan names)) old F P h = if_texts names.graph old _ _ (λ p g here c x. here x c) (texts_under names.graph old F _ h)
read_under (Ok (Demo input options)) old F P h = λ p g c x. h x p g c
read_under (Ok (Flows names options)) old F P h = if_told (old slots.Capture).bytes _ _ (λ c here p g x. here x p g) (told_under (old slots.Capture).bytes F _ h)
read_under (Err fault) old F P h = λ p g c x. h x p g c
