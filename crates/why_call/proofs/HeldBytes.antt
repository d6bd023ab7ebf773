-- What Report holds after something was put into it.
use Rattle.std.proofs.Common.{◌≡◌, ◌∙◌, inl, inr, ℕ, List, [], ◌++◌, refl, ap, sym, rules}
use Rattle.std.specs.Prelude.{Option, Some, None, IsSome}
use Rattle.std.specs.Option.{option_map}
use Rattle.std.proofs.lemmas.List.{append-nil}
use Rattle.nfp_outside.specs.declared.slot.Slot.TheVariants.{Report}
use Rattle.nfp_outside.specs.Outside.{SlotView, KeepsSlot, Attaches, Appends, AppendsPrefix}
use Rattle.call_ending.specs.Left.{Holds, HoldsPrefix, IsUntouched, LeavesPrefix}

emptied : (o : Option (List ℕ)) (bytes : List ℕ) → option_map (λ before. before ++ bytes) (option_map (λ _. []) o) ≡ option_map (λ _. bytes) o
emptied None bytes = refl
emptied (Some b) bytes = refl

pub is_named : (text : List ℕ) (o : Option (List ℕ)) → o ≡ Some text → IsSome o
is_named text o h = search (rules, h)

pub holds_all : (name bytes : List ℕ) (old mid new : SlotView) → Attaches Report name old mid → Appends bytes mid new → Holds bytes old new
holds_all name bytes old mid new attached put = record {
  attached = is_named name new.name (put.same_name ∙ attached.named);
  content = put.content ∙ ap (option_map (λ before. before ++ bytes)) attached.content ∙ emptied old.bytes bytes;
}

pub holds_prefix : (name bytes : List ℕ) (old mid new : SlotView) → Attaches Report name old mid → AppendsPrefix bytes mid new → HoldsPrefix bytes old new
holds_prefix name bytes old mid new attached put = record { done = put.done; rest = put.rest; parts = put.parts; holds = holds_all name put.done old mid new attached put.appended }

pub whole_prefix : (bytes : List ℕ) (old new : SlotView) → Holds bytes old new → LeavesPrefix (Some bytes) old new
whole_prefix bytes old new h = inr (record { done = bytes; rest = []; parts = sym (append-nil bytes); holds = h })

pub untouched : (old new : SlotView) → old.name ≡ None → KeepsSlot old new → IsUntouched old new
untouched old new free keeps = record { no_name = keeps.same_name ∙ free; same_bytes = keeps.same_bytes }

pub untouched_same : (old new : SlotView) → old.name ≡ None → new ≡ old → IsUntouched old new
untouched_same old new free same = record { no_name = ap (λ v. v.name) same ∙ free; same_bytes = ap (λ v. v.bytes) same }

-- a slot that isn't touched holds a prefix of whatever is due
pub untouched_prefix : (due : Option (List ℕ)) (old new : SlotView) → IsUntouched old new → LeavesPrefix due old new
untouched_prefix None old new h = h
untouched_prefix (Some bytes) old new h = inl h
