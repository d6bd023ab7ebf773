-- What an attached slot holds after something was put into it.
use Rattle.std.proofs.Common.{◌≡◌, ◌∙◌, ℕ, List, [], ◌++◌, refl, ap, sym, rules}
use Rattle.std.specs.Prelude.{Option, Some, None, IsSome, false, if◌then◌else◌}
use Rattle.std.specs.Option.{option_map}
use Rattle.std.proofs.lemmas.List.{append-nil}
use Rattle.nfp_outside.specs.declared.slot.Slot.{Slot}
use Rattle.nfp_outside.specs.Outside.{SlotView, is_read, KeepsSlot, Attaches, Appends, AppendsPrefix}
use Rattle.nfp_run.specs.Answers.{IsUntouched, Holds, HoldsPrefix}

emptied : (o : Option (List ℕ)) (bytes : List ℕ) → option_map (λ before. before ++ bytes) (option_map (λ _. []) o) ≡ option_map (λ _. bytes) o
emptied None bytes = refl
emptied (Some b) bytes = refl

pub is_named : (text : List ℕ) (o : Option (List ℕ)) → o ≡ Some text → IsSome o
is_named text o h = search (rules, h)

content_of : (slot : Slot) (text : List ℕ) (old mid : SlotView) → is_read slot ≡ false → Attaches slot text old mid → mid.bytes ≡ option_map (λ _. []) old.bytes
content_of slot text old mid written attached = attached.content ∙ ap (λ b. if b then old.bytes else option_map (λ _. []) old.bytes) written

pub holds_all : (slot : Slot) (text bytes : List ℕ) (old mid new : SlotView) → is_read slot ≡ false → Attaches slot text old mid → Appends bytes mid new → Holds bytes old new
holds_all slot text bytes old mid new written attached put = record {
  attached = is_named text new.name (put.same_name ∙ attached.named);
  content = put.content ∙ ap (option_map (λ before. before ++ bytes)) (content_of slot text old mid written attached) ∙ emptied old.bytes bytes;
}

pub holds_prefix : (slot : Slot) (text bytes : List ℕ) (old mid new : SlotView) → is_read slot ≡ false → Attaches slot text old mid → AppendsPrefix bytes mid new → HoldsPrefix bytes old new
holds_prefix slot text bytes old mid new written attached put =
    record { done = put.done; rest = put.rest; parts = put.parts; holds = holds_all slot text put.done old mid new written attached put.appended }

pub holds_none : (slot : Slot) (text bytes : List ℕ) (old new : SlotView) → is_read slot ≡ false → Attaches slot text old new → HoldsPrefix bytes old new
holds_none slot text bytes old new written attached =
    record { done = []; rest = bytes; parts = refl; holds = record { attached = is_named text new.name attached.named; content = content_of slot text old new written attached } }

pub whole_prefix : (bytes : List ℕ) (old new : SlotView) → Holds bytes old new → HoldsPrefix bytes old new
whole_prefix bytes old new h = record { done = bytes; rest = []; parts = sym (append-nil bytes); holds = h }

pub untouched : (old new : SlotView) → old.name ≡ None → KeepsSlot old new → IsUntouched old new
untouched old new free keeps = record { no_name = keeps.same_name ∙ free; same_bytes = keeps.same_bytes }

pub untouched_same : (old new : SlotView) → old.name ≡ None → new ≡ old → IsUntouched old new
untouched_same old new free same = record { no_name = ap (λ v. v.name) same ∙ free; same_bytes = ap (λ v. v.bytes) same }
