-- How a text is put through a buffer.
use Rattle.std.proofs.Common.{◌≡◌, ◌∙◌, List, ℕ, [], ◌++◌, refl, ap, sym, append_assoc}
use Rattle.std.proofs.lemmas.List.{append-nil}
use Rattle.nfp_outside.specs.Outside.{SlotView}
use Rattle.nfp_outside.specs.declared.slot.Slot.{Slot}
use Rattle.capture_items.specs.Putting.{breaks_is, breaks_longer, breaks_more, puts_is, puts_more, puts_none}
use Rattle.capture_items.specs.Slots.{Breaks, Gathers, Puts}
use Rattle.capture_items.specs.declared.fault.RunFault.{RunFault}

pub gathers_none : (h : List ℕ) (old : Slot → SlotView) → Gathers [] h h old old
gathers_none h old = record { put = []; puts = puts_none old; parts = sym (append-nil h) }

-- a text was added to the buffer
pub gathers_pushed : (a h m : List ℕ) (old : Slot → SlotView) → m ≡ h ++ a → Gathers a h m old old
gathers_pushed a h m old is = record { put = []; puts = puts_none old; parts = is }

pub gathers_more : (a b h m n : List ℕ) (old mid new : Slot → SlotView) → Gathers a h m old mid → Gathers b m n mid new → Gathers (a ++ b) h n old new
gathers_more a b h m n old mid new first second = record {
  put = first.put ++ second.put;
  puts = puts_more [] first.put [] second.put old mid new first.puts second.puts;
  parts =
      append_assoc first.put second.put n
      ∙ ap (λ l. first.put ++ l) second.parts
      ∙ sym (append_assoc first.put m b)
      ∙ ap (λ l. l ++ b) first.parts
      ∙ append_assoc h a b;
}

-- nothing was put meanwhile
pub gathers_beside : (a h m : List ℕ) (old mid new : Slot → SlotView) → Gathers a h m old mid → Puts [] [] mid new → Gathers a h m old new
gathers_beside a h m old mid new first none = record {
  put = first.put;
  puts = puts_is [] [] (first.put ++ []) first.put old new refl (append-nil first.put) (puts_more [] first.put [] [] old mid new first.puts none);
  parts = first.parts;
}

-- the last of it was put
pub gathered_put : (a h m : List ℕ) (old mid new : Slot → SlotView) → Gathers a h m old mid → Puts [] m mid new → Puts [] (h ++ a) old new
gathered_put a h m old mid new first last = puts_is [] [] (first.put ++ m) (h ++ a) old new refl first.parts (puts_more [] first.put [] m old mid new first.puts last)

-- the part that comes next was broken off
pub gather_breaks : (a b h m : List ℕ) (old mid new : Slot → SlotView) (e : RunFault) → Gathers a h m old mid → Breaks [] (m ++ b) mid new e → Breaks [] (h ++ (a ++ b)) old new e
gather_breaks a b h m old mid new e first broken =
    breaks_is [] [] (first.put ++ (m ++ b)) (h ++ (a ++ b)) old new e refl
    (sym (append_assoc first.put m b) ∙ ap (λ l. l ++ b) first.parts ∙ append_assoc h a b)
    (breaks_more [] first.put [] (m ++ b) old mid new e first.puts broken)

-- more is due than the part that was broken off
pub breaks_within : (a b : List ℕ) (old new : Slot → SlotView) (e : RunFault) → Breaks [] a old new e → Breaks [] (a ++ b) old new e
breaks_within a b old new e broken = breaks_longer [] a [] b old new e broken
