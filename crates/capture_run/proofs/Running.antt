-- A capture that passed whole, or was broken off, in terms of its body.
use Rattle.std.proofs.Common.{◌≡◌, ◌≤◌, ◌∙◌, ℕ, List, [], ◌∷◌, ◌++◌, refl, ap, sym, subst, append_assoc}
use Rattle.std.specs.Prelude.{Option, Some, None, IfSome}
use Rattle.std.specs.Option.{option_map}
use Rattle.std.proofs.lemmas.List.{append-nil}
use Rattle.nfp_outside.specs.declared.slot.Slot.{Slot}
use Rattle.nfp_outside.specs.Outside.{SlotView}
use Rattle.capture_run.specs.Passing.{PassBreaks, Passes, lines_next, out_next}
use Rattle.capture_items.specs.declared.fault.FormatFault.{FormatFault}
use Rattle.capture_run.specs.Running.{Goes, PassesStream, RunBreaks, RunsAll}
use Rattle.capture_items.specs.Slots.{Breaks, Puts, PutsPrefixes}
use Rattle.capture_items.specs.Sources.{IsOpeningFault}
use Rattle.capture_items.specs.Streams.{Stream, records_in, with_given}
use Rattle.capture_items.specs.declared.fault.RunFault.{RunFault}
use Rattle.capture_items.specs.declared.fault.RunFault.TheVariants.{OutOfMemory}
use Rattle.capture_items.specs.declared.given.Given.{Given}
use Rattle.capture_run.specs.declared.passage.Passage.{Passage}
use Rattle.capture_items.specs.Putting.{later_same, no_memory}
use Rattle.capture_run.proofs.Passing.{longer}

pub if_some : {T : Type 0} (o : Option T) (P Q : T → Type 0) → ((b : T) → P b → Q b) → IfSome o P → IfSome o Q
if_some None P Q f h = tt
if_some (Some b) P Q f h = f b h

pub for_each : {T : Type 0} (o : Option T) (P : T → Type 0) → ((b : T) → P b) → IfSome o P
for_each None P f = tt
for_each (Some b) P f = f b

pub goes_by : (out report : List ℕ) (old new : Slot → SlotView) → Puts out report old new → Goes old new
goes_by out report old new puts = record { out_name = puts.in_out.same_name; report_name = puts.in_report.same_name; later = puts.later }

pub broken_goes : (out report : List ℕ) (old new : Slot → SlotView) (e : RunFault) → Breaks out report old new e → Goes old new
broken_goes out report old new e b = record { out_name = b.prefixes.in_out.appended.same_name; report_name = b.prefixes.in_report.appended.same_name; later = b.prefixes.later }

-- this before the rest of a capture
abbrev pub with_all : {X B : Type 0} → List (Given X B) → Stream X B → Stream X B
with_all done rest = record { given = done ++ rest.given; fault = rest.fault }

pub with_more : {X B : Type 0} (done : List (Given X B)) (x : Given X B) (o : Option (Stream X B)) → option_map (with_all done) (option_map (with_given x) o) ≡ option_map (with_all (done ++ x ∷ [])) o
with_more done x None = refl
with_more done x (Some rest) = ap (λ l. Some (record { given = l; fault = rest.fault })) (sym (append_assoc done (x ∷ []) rest.given))

pub with_none : {X B : Type 0} (o : Option (Stream X B)) → o ≡ option_map (with_all []) o
with_none None = refl
with_none (Some rest) = refl

settled : {X B : Type 0} (start left : Option (Stream X B)) (done : List (Given X B)) (fault : Option FormatFault) → start ≡ option_map (with_all done) left →
    IfSome left (λ s. s ≡ record { given = []; fault = fault }) → IfSome start (λ s. s ≡ record { given = done; fault = fault })
settled start None done fault whole empty = subst (λ o. IfSome o (λ s. s ≡ record { given = done; fault = fault })) (sym whole) tt
settled start (Some left) done fault whole empty = subst (λ o. IfSome o (λ s. s ≡ record { given = done; fault = fault })) (sym whole)
    (ap (with_all done) empty ∙ ap (λ l. record { given = l; fault = fault }) (append-nil done))

-- all that the capture gives passed
pub runs_all : {W X B : Type 0} (spelled : W → Given X B →
    List ℕ) (p : Passage W) (run : Passage W × Option FormatFault) (start left : Option (Stream X B)) (all : List (Given X B)) (old new : Slot → SlotView) →
    Passes spelled all p run.0 old new → start ≡ option_map (with_all all) left → IfSome left (λ s. s ≡ record { given = []; fault = run.1 }) → IfSome run.1 (λ fault. ¬ IsOpeningFault fault) →
    run.0.totals.dropped ≤ run.0.totals.records → RunsAll spelled p start old new run
runs_all {X = X} {B = B} spelled p run start left all old new passes whole empty kind within = record {
  goes = goes_by _ _ old new passes.puts;
  within = within;
  kind = kind;
  passed = if_some start _ _ (λ s is. subst (λ (x : Stream X B). PassesStream spelled p run.0 run.1 old new x) (sym is) (record {
    passes = passes;
    fault_is =
        refl;
  })) (settled start left all run.1 whole empty);
}

-- this is the front of what the capture gives
pub breaks_run : {W X B : Type 0} (spelled : W → Given X B → List ℕ) (p : Passage W) (start left : Option (Stream X B)) (xs : List (Given X B)) (old new : Slot → SlotView) (e : RunFault) →
    start ≡ option_map (with_all xs) left → PassBreaks spelled xs p old new e → RunBreaks spelled p start old new e
breaks_run {X = X} {B = B} spelled p start left xs old new e whole broken = record { goes = broken_goes _ _ old new e broken; cause = broken.cause; prefixes = go left whole }
  where
    go : (o : Option (Stream X B)) → start ≡ option_map (with_all xs) o → IfSome start (λ b. PutsPrefixes (out_next spelled p b.given) (lines_next p (records_in b.given)) old new)
    go None is = subst (λ o. IfSome o (λ b. PutsPrefixes (out_next spelled p b.given) (lines_next p (records_in b.given)) old new)) (sym is) tt
    go (Some rest) is = subst (λ o. IfSome o (λ b. PutsPrefixes (out_next spelled p b.given) (lines_next p (records_in b.given)) old new)) (sym is) (longer spelled xs rest.given p old new e broken).prefixes

-- it ran out of memory before anything was put
pub no_run : {W X B : Type 0} (spelled : W → Given X B → List ℕ) (p : Passage W) (start : Option (Stream X B)) (old : Slot → SlotView) → RunBreaks spelled p start old old OutOfMemory
no_run spelled p start old = record {
  goes = record { out_name = refl; report_name = refl; later = later_same old };
  cause = tt;
  prefixes = for_each start _ (λ b. (no_memory (out_next spelled p b.given) (lines_next p (records_in b.given)) old).prefixes);
}
