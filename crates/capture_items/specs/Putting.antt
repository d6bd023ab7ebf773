-- For proofs: how what is put into Out and Report adds up.
use Rattle.std.proofs.Common.{◌≡◌, ◌≢◌, ◌≤◌, inl, inr, ℕ, List, [], ◌++◌, ap, sym, subst, arith}
use Rattle.std.specs.Prelude.{Result, Err}
use Rattle.nfp_outside.specs.declared.slot.Slot.{Slot}
use Rattle.nfp_outside.specs.declared.slot.Slot.TheVariants.{Policy, Capture, Out, Report, Note, Graph}
use Rattle.nfp_outside.specs.declared.slot.OutsideFault.{OutsideFault}
use Rattle.nfp_outside.specs.declared.slot.OutsideFault.TheVariants as outside
use Rattle.nfp_outside.specs.Outside.{SlotView, IsRisen, Appends, AppendsPrefix, WriteCause}
use Rattle.nfp_outside.specs.Adding.{appends_none, appends_more, prefix_longer, prefix_more, prefix_none, prefix_whole}
use Rattle.capture_items.specs.Slots.{IsLater, Puts, IsBroken, Breaks, fault_seen}
use Rattle.capture_items.specs.declared.fault.RunFault.{RunFault}
use Rattle.capture_items.specs.declared.fault.RunFault.TheVariants as faults

-- a count that rose in the later of two calls rose in both
pub risen_earlier : (a b c : ℕ) → a ≤ b → IsRisen b c → IsRisen a c
risen_earlier a b c h (inl less) = inl (omega arith)
risen_earlier a b c h (inr full) = inr full

stays : (a b : SlotView) → b ≡ a → Appends [] a b
stays a b same = subst (Appends [] a) (sym same) (appends_none a)

prefix_stays : (a b : SlotView) → b ≡ a → AppendsPrefix [] a b
prefix_stays a b same = subst (AppendsPrefix [] a) (sym same) (prefix_none [] a)

no_later : (a b : SlotView) → b ≡ a → a.faults ≤ b.faults
no_later a b same = let e : b.faults ≡ a.faults = ap (λ v. v.faults) same in omega arith

pub report_is_not_out : Report ≢ Out
report_is_not_out h = cc

pub out_is_not_report : Out ≢ Report
out_is_not_report h = cc

pub capture_is_not_out : Capture ≢ Out
capture_is_not_out h = cc

pub capture_is_not_report : Capture ≢ Report
capture_is_not_report h = cc

pub out_is_not_capture : Out ≢ Capture
out_is_not_capture h = cc

pub report_is_not_capture : Report ≢ Capture
report_is_not_capture h = cc

out_later : (old new : Slot → SlotView) → (old Out).faults ≤ (new Out).faults → ((s : Slot) → s ≢ Out → new s ≡ old s) → IsLater old new
out_later old new later others = record { capture = no_later _ _ (others Capture capture_is_not_out); out = later; report = no_later _ _ (others Report report_is_not_out) }

report_later : (old new : Slot → SlotView) → (old Report).faults ≤ (new Report).faults → ((s : Slot) → s ≢ Report → new s ≡ old s) → IsLater old new
report_later old new later others = record { capture = no_later _ _ (others Capture capture_is_not_report); out = no_later _ _ (others Out out_is_not_report); report = later }

pub later_more : (old mid new : Slot → SlotView) → IsLater old mid → IsLater mid new → IsLater old new
later_more old mid new a b = record {
  capture = let x = a.capture in let y = b.capture in omega arith;
  out = let x = a.out in let y = b.out in omega arith;
  report = let x = a.report in let y = b.report in omega arith;
}

pub later_same : (old : Slot → SlotView) → IsLater old old
later_same old = record { capture = omega arith; out = omega arith; report = omega arith }

pub puts_out : (out : List ℕ) (old new : Slot → SlotView) → Appends out (old Out) (new Out) → (old Out).faults ≤ (new Out).faults →
    ((s : Slot) → s ≢ Out → new s ≡ old s) → Puts out [] old new
puts_out out old new put later others = record { in_out = put; in_report = stays (old Report) (new Report) (others Report report_is_not_out); later = out_later old new later others }

pub puts_report : (report : List ℕ) (old new : Slot → SlotView) → Appends report (old Report) (new Report) → (old Report).faults ≤ (new Report).faults →
    ((s : Slot) → s ≢ Report → new s ≡ old s) → Puts [] report old new
puts_report report old new put later others = record { in_out = stays (old Out) (new Out) (others Out out_is_not_report); in_report = put; later = report_later old new later others }

-- reading the capture puts nothing
pub puts_read : (old new : Slot → SlotView) → (old Capture).faults ≤ (new Capture).faults → ((s : Slot) → s ≢ Capture → new s ≡ old s) → Puts [] [] old new
puts_read old new later others = record {
  in_out = stays (old Out) (new Out) (others Out out_is_not_capture);
  in_report = stays (old Report) (new Report) (others Report report_is_not_capture);
  later = record { capture = later; out = no_later _ _ (others Out out_is_not_capture); report = no_later _ _ (others Report report_is_not_capture) };
}

out_cause : {T : Type 0} (old new : Slot → SlotView) (fault : OutsideFault) (result : Result T OutsideFault) → result ≡ Err fault → WriteCause Out (old Out) (new Out) result → IsBroken old new (fault_seen Out fault)
out_cause old new (outside.WriteFault s) result is cause = (cause.write_fault s is).1
out_cause old new (outside.ReadFault s) result is cause = tt
out_cause old new outside.TooLong result is cause = tt
out_cause old new outside.OutOfMemory result is cause = tt

report_cause : {T : Type 0} (old new : Slot → SlotView) (fault : OutsideFault) (result : Result T OutsideFault) → result ≡ Err fault → WriteCause Report (old Report) (new Report) result → IsBroken old new (fault_seen Report fault)
report_cause old new (outside.WriteFault s) result is cause = (cause.write_fault s is).1
report_cause old new (outside.ReadFault s) result is cause = tt
report_cause old new outside.TooLong result is cause = tt
report_cause old new outside.OutOfMemory result is cause = tt

pub out_refused : {T : Type 0} (out : List ℕ) (old new : Slot → SlotView) (fault : OutsideFault) (result : Result T OutsideFault) → result ≡ Err fault → AppendsPrefix out (old Out) (new Out) →
    WriteCause Out (old Out) (new Out) result → ((s : Slot) → s ≢ Out → new s ≡ old s) → Breaks out [] old new (fault_seen Out fault)
out_refused out old new fault result is put cause others = record {
  prefixes = record { in_out = put; in_report = prefix_stays (old Report) (new Report) (others Report report_is_not_out); later = out_later old new cause.later others };
  cause = out_cause old new fault result is cause;
}

pub report_refused : {T : Type 0} (report : List ℕ) (old new : Slot → SlotView) (fault : OutsideFault) (result : Result T OutsideFault) → result ≡ Err fault → AppendsPrefix report (old Report) (new Report) →
    WriteCause Report (old Report) (new Report) result → ((s : Slot) → s ≢ Report → new s ≡ old s) → Breaks [] report old new (fault_seen Report fault)
report_refused report old new fault result is put cause others = record {
  prefixes = record { in_out = prefix_stays (old Out) (new Out) (others Out out_is_not_report); in_report = put; later = report_later old new cause.later others };
  cause = report_cause old new fault result is cause;
}

pub puts_none : (old : Slot → SlotView) → Puts [] [] old old
puts_none old = record { in_out = appends_none (old Out); in_report = appends_none (old Report); later = later_same old }

pub puts_more : (a b c d : List ℕ) (old mid new : Slot → SlotView) → Puts a b old mid → Puts c d mid new → Puts (a ++ c) (b ++ d) old new
puts_more a b c d old mid new first second = record {
  in_out = appends_more a c (old Out) (mid Out) (new Out) first.in_out second.in_out;
  in_report = appends_more b d (old Report) (mid Report) (new Report) first.in_report second.in_report;
  later = later_more old mid new first.later second.later;
}

-- nothing was put
pub breaks_none : (out report : List ℕ) (old new : Slot → SlotView) (e : RunFault) → Puts [] [] old new → IsBroken old new e → Breaks out report old new e
breaks_none out report old new e none cause = record {
  prefixes = record { in_out = prefix_longer [] out (old Out) (new Out) (prefix_whole [] (old Out) (new Out) none.in_out); in_report = prefix_longer [] report (old Report) (new Report) (prefix_whole [] (old Report) (new Report) none.in_report); later = none.later };
  cause = cause;
}

pub no_memory : (out report : List ℕ) (old : Slot → SlotView) → Breaks out report old old faults.OutOfMemory
no_memory out report old = breaks_none out report old old faults.OutOfMemory (puts_none old) tt

-- there is more to put
pub breaks_longer : (a b x y : List ℕ) (old new : Slot → SlotView) (e : RunFault) → Breaks a b old new e → Breaks (a ++ x) (b ++ y) old new e
breaks_longer a b x y old new e r = record {
  prefixes = record {
    in_out = prefix_longer a x (old Out) (new Out) r.prefixes.in_out;
    in_report = prefix_longer b y (old Report) (new Report) r.prefixes.in_report;
    later = r.prefixes.later;
  };
  cause = r.cause;
}

pub earlier_cause : (old mid new : Slot → SlotView) (e : RunFault) → IsLater old mid → IsBroken mid new e → IsBroken old new e
earlier_cause old mid new (faults.WriteFault Out) l h = risen_earlier _ _ _ l.out h
earlier_cause old mid new (faults.WriteFault Report) l h = risen_earlier _ _ _ l.report h
earlier_cause old mid new (faults.WriteFault Policy) l h = h
earlier_cause old mid new (faults.WriteFault Capture) l h = h
earlier_cause old mid new (faults.WriteFault Note) l h = h
earlier_cause old mid new (faults.WriteFault Graph) l h = h
earlier_cause old mid new faults.ReadFault l h = risen_earlier _ _ _ l.capture h
earlier_cause old mid new faults.OutOfMemory l h = tt

-- something was put before
pub breaks_more : (a b c d : List ℕ) (old mid new : Slot → SlotView) (e : RunFault) → Puts a b old mid → Breaks c d mid new e → Breaks (a ++ c) (b ++ d) old new e
breaks_more a b c d old mid new e first r = record {
  prefixes = record {
    in_out = prefix_more a c (old Out) (mid Out) (new Out) first.in_out r.prefixes.in_out;
    in_report = prefix_more b d (old Report) (mid Report) (new Report) first.in_report r.prefixes.in_report;
    later = later_more old mid new first.later r.prefixes.later;
  };
  cause = earlier_cause old mid new e first.later r.cause;
}

pub puts_is : (a a' b b' : List ℕ) (old new : Slot → SlotView) → a ≡ a' → b ≡ b' → Puts a b old new → Puts a' b' old new
puts_is a a' b b' old new p q h = subst (λ x. Puts a' x old new) q (subst (λ x. Puts x b old new) p h)

pub breaks_is : (a a' b b' : List ℕ) (old new : Slot → SlotView) (e : RunFault) → a ≡ a' → b ≡ b' → Breaks a b old new e → Breaks a' b' old new e
breaks_is a a' b b' old new e p q h = subst (λ x. Breaks a' x old new e) q (subst (λ x. Breaks x b old new e) p h)
