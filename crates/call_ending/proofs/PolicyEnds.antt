-- How a call ends at its policy.
use Rattle.std.proofs.Common.{◌≡◌, ◌<◌, inl, inr, ℕ, List, length, refl, ap, sym, subst, true, Err, arith, lit<}
use Rattle.std.specs.Prelude.{Option, Some, None, IfSome, nat_lt, if◌then◌else◌, replicate}
use Rattle.std.proofs.lemmas.List.{length-replicate}
use Rattle.std.proofs.lemmas.Bool.Decides.{nat_tests}
use Rattle.nfp_outside.specs.Outside.{SlotView}
use Rattle.policy_text.specs.Grammar.{policy_of}
use Rattle.policy_judge.specs.declared.fault.JudgeFault.{JudgeFault}
use Rattle.policy_judge.specs.declared.fault.JudgeFault.TheVariants as faults
use Rattle.policy_judge.specs.declared.fault.PolicyFault.TheVariants as policies
use Rattle.policy_judge.specs.Judging.{judged, judged_text, told, Judges}
use Rattle.policy_judge.specs.Lines.{too_long_line}
use Rattle.call_ending.specs.declared.ending.Ending.{Ending}
use Rattle.call_ending.specs.declared.read.Unread.{Unread}
use Rattle.call_ending.specs.declared.read.Unread.TheVariants.{TooLong, Failed, NoMemory}
use Rattle.call_ending.specs.Reading.{IsUnread, UnreadEnds, refused_by, EndsAtPolicy}
use Rattle.call_ending.specs.Told.{OfBytes}
use Rattle.call_ending.proofs.ReadWhole.{of_read}

judged_long : (bytes : List ℕ) → 1048576 < length bytes → judged bytes ≡ Err (told policies.TooLong too_long_line)
unfolding judged
judged_long bytes long =
    let beyond : nat_lt 1048576 (length bytes) ≡ true = grind (arith, nat_tests) in
    ap (λ b. if b then Err (told policies.TooLong too_long_line) else judged_text (policy_of bytes)) beyond

-- there are texts of that length
some_long : (n : ℕ) → 1048576 < n → (bytes : List ℕ) × (judged bytes ≡ Err (told policies.TooLong too_long_line))
some_long n long = (replicate n 0, judged_long (replicate n 0) (subst (λ m. 1048576 < m) (sym (length-replicate n 0)) long))

long_ends : (o : Option (List ℕ)) → IfSome o (λ bytes. 1048576 < length bytes) → OfBytes o (λ bytes. judged bytes ≡ Err (told policies.TooLong too_long_line))
long_ends None long = some_long 1048577 (lit< tt)
long_ends (Some bytes) long = judged_long bytes long

pub unread_ends : (old new : SlotView) (unread : Unread) (ending : Ending) → IsUnread 1048576 old new unread → UnreadEnds unread ending → EndsAtPolicy old new ending
unread_ends old new TooLong ending is (inl e) = subst (EndsAtPolicy old new) (sym e) (long_ends old.bytes is)
unread_ends old new TooLong ending is (inr e) = subst (EndsAtPolicy old new) (sym e) tt
unread_ends old new Failed ending is e = subst (EndsAtPolicy old new) (sym e) (refl, is)
unread_ends old new NoMemory ending is e = subst (EndsAtPolicy old new) (sym e) tt

pub refused_ends : (old new : SlotView) (read : List ℕ) (fault : JudgeFault) → IfSome old.bytes (λ bytes. bytes ≡ read) → Judges (judged read) (Err fault) → EndsAtPolicy old new (refused_by fault)
refused_ends old new read (faults.Refused refusal) is due = of_read old.bytes read (λ bytes. judged bytes ≡ Err refusal) is due
refused_ends old new read faults.OutOfMemory is due = tt
