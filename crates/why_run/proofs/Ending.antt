-- How a whole capture is reported: the first line, the lines of the drops, and what follows them.
use Rattle.std.proofs.Common.{◌≡◌, ◌≤◌, ◌∙◌, ℕ, List, [], ◌++◌, length, refl, ap, sym, subst, append_assoc, arith}
use Rattle.std.specs.Prelude.{Option, Some, None, IfSome, IfNone, count_by}
use Rattle.std.proofs.lemmas.List.{append-nil}
use Rattle.nfp_outside.specs.Outside.{SlotView}
use Rattle.nfp_outside.specs.declared.slot.Slot.{Slot}
use Rattle.capture_bytes.specs.declared.packet.Unit.{Unit as TimeUnit}
use Rattle.capture_items.specs.Putting.{breaks_is, breaks_longer, no_memory}
use Rattle.capture_items.specs.Slots.{Breaks, Gathers, Puts, PutsPrefixes}
use Rattle.capture_items.specs.Streams.{Stream, records_in}
use Rattle.capture_items.specs.declared.fault.FormatFault.{FormatFault}
use Rattle.capture_items.specs.declared.fault.RunFault.{RunFault}
use Rattle.capture_items.specs.declared.fault.RunFault.TheVariants.{OutOfMemory}
use Rattle.plain_chains.specs.Plain.{chains_of}
use Rattle.plain_chains.specs.declared.chain.PlainChain.{PlainChain}
use Rattle.traced_walk.specs.Ways.{Way}
use Rattle.why_account.specs.Accounts.{account_of}
use Rattle.why_report.specs.Report.{drop_lines, is_gone, report_bytes, summary, title}
use Rattle.why_run.specs.Running.{Goes, ReportBreaks, Reports, ReportsAll, ordered_of, report_given, ways_given}
use Rattle.why_run.specs.Telling.{EndsSo, IsTold, TellBreaks, TellsAll}
use Rattle.why_run.specs.Why.{asked_trace}
use Rattle.why_run.specs.declared.run.WhyEnded.{WhyEnded}
use Rattle.why_run.specs.declared.telling.Telling.{Telling}
use Rattle.why_run.proofs.Gathering.{gathered_put, gather_breaks}
use Rattle.why_run.proofs.Streaming.{length-ways}
use Rattle.why_run.proofs.Turns.{broken_goes, for_each, if_some, within_by}

goes_by : (out report : List ℕ) (old new : Slot → SlotView) → Puts out report old new → Goes old new
goes_by out report old new puts = record { report_name = puts.in_report.same_name; later = puts.later }

-- how a capture ended that is told so
abbrev pub ended_so : Telling → Option FormatFault → WhyEnded
ended_so t fault = record { totals = t.account.totals; fault = fault; trace = t.trace }

module _ {X B : Type 0} (first : List PlainChain) (unit : TimeUnit) (asked : Option ℕ) (stream : Option (Stream X B)) where
  -- nothing was put
  pub no_report : (old : Slot → SlotView) → ReportBreaks first unit asked stream old old OutOfMemory
  no_report old = record {
    goes = broken_goes [] [] old old OutOfMemory (no_memory [] [] old);
    cause = tt;
    prefixes = for_each stream _ (λ s. (no_memory [] (report_given first unit s) old).prefixes);
  }

  -- it was broken off among the lines of the drops
  pub breaks_among : (held : List ℕ) (old new : Slot → SlotView) (e : RunFault) → held ≡ title → TellBreaks first unit stream held old new e → ReportBreaks first unit asked stream old new e
  unfolding report_bytes
  breaks_among held old new e is broken = record {
    goes = broken.goes;
    cause = broken.cause;
    prefixes = if_some stream _ _ (λ s prefix.
        let lines = drop_lines (ordered_of first) 1 (ways_given first unit s) in
        let rest = summary (ordered_of first) (ways_given first unit s) s.fault in
        (breaks_is [] [] ((held ++ lines) ++ rest) (title ++ (lines ++ rest)) old new e refl (ap (λ l. (l ++ lines) ++ rest) is ∙ append_assoc title lines rest)
        (breaks_longer [] (held ++ lines) [] rest old new e (record { prefixes = prefix; cause = broken.cause }))).prefixes) broken.prefixes;
  }

  -- all that is held and follows is the report
  report_is : (held : List ℕ) (done : List Way) (fault : Option FormatFault) (s : Stream X B) → held ≡ title → EndsSo first unit done fault s
      → held ++ (drop_lines (ordered_of first) 1 done ++ summary (ordered_of first) done fault) ≡ report_given first unit s
  unfolding report_bytes
  report_is held done fault s is ends =
      (λ i. is i ++ (drop_lines (ordered_of first) 1 (sym ends.ways i) ++ summary (ordered_of first) (sym ends.ways i) (ends.fault_is i)))

  module _ (t : Telling) (held held' : List ℕ) (text : List ℕ) (fault : Option FormatFault) (old mid : Slot → SlotView) (is : held ≡ title) (all : TellsAll first unit asked stream t held held' old mid fault) (adds : text ≡ held' ++ summary (ordered_of first) all.done fault) where
    abbrev done_lines : List ℕ
    done_lines = drop_lines (ordered_of first) 1 all.done

    abbrev rest_lines : List ℕ
    rest_lines = summary (ordered_of first) all.done fault

    -- what is still held with the summary behind it
    gathered_all : Gathers (done_lines ++ rest_lines) held text old mid
    gathered_all = record {
      put = all.gathered.put;
      puts = all.gathered.puts;
      parts = ap (λ l. all.gathered.put ++ l) adds ∙ sym (append_assoc all.gathered.put held' rest_lines) ∙ ap (λ l. l ++ rest_lines) all.gathered.parts ∙ append_assoc held done_lines rest_lines;
    }

    pub reports_all : (new : Slot → SlotView) → Puts [] text mid new → ReportsAll first unit asked stream old new (ended_so t fault)
    reports_all new last =
        let whole : Puts [] (held ++ (done_lines ++ rest_lines)) old new = gathered_put (done_lines ++ rest_lines) held text old mid new gathered_all last in
        record {
          goes = goes_by [] (held ++ (done_lines ++ rest_lines)) old new whole;
          within = within_by (ordered_of first) asked all.done t all.told;
          kind = all.kind;
          whole = if_some stream _ _ (λ s ends. record {
            read = ap (λ a. a.totals.records) all.told.account ∙ ap length (sym ends.ways) ∙ length-ways first unit (records_in s.given);
            dropped = ap (λ a. a.totals.dropped) all.told.account ∙ ap (count_by (λ w. is_gone w.fate)) (sym ends.ways);
            fault = ends.fault_is;
            trace = all.told.trace ∙ ap (λ w. asked_trace (ordered_of first) w asked) (sym ends.ways);
            puts = subst (λ l. Puts [] l old new) (report_is held all.done fault s is ends) whole;
          }) all.whole;
        }

    pub breaks_last : (new : Slot → SlotView) (e : RunFault) → Breaks [] text mid new e → ReportBreaks first unit asked stream old new e
    breaks_last new e broken =
        let whole : Breaks [] (held ++ (done_lines ++ rest_lines)) old new e =
        breaks_is [] [] (held ++ ((done_lines ++ rest_lines) ++ [])) (held ++ (done_lines ++ rest_lines)) old new e refl (ap (λ l. held ++ l) (append-nil (done_lines ++ rest_lines)))
        (gather_breaks (done_lines ++ rest_lines) [] held text old mid new e gathered_all (breaks_longer [] text [] [] mid new e broken)) in
        record {
          goes = broken_goes [] (held ++ (done_lines ++ rest_lines)) old new e whole;
          cause = whole.cause;
          prefixes = if_some stream _ _ (λ s ends. subst (λ l. PutsPrefixes [] l old new) (report_is held all.done fault s is ends) whole.prefixes) all.whole;
        }

  -- memory ran out behind the last packet
  pub breaks_behind : (t : Telling) (held held' : List ℕ) (fault : Option FormatFault) (old mid new : Slot → SlotView) (e : RunFault) → held ≡ title → TellsAll first unit asked stream t held held' old mid fault → Breaks [] held' mid new e
      → ReportBreaks first unit asked stream old new e
  breaks_behind t held held' fault old mid new e is all broken =
      let lines = drop_lines (ordered_of first) 1 all.done in
      let rest = summary (ordered_of first) all.done fault in
      let whole : Breaks [] (held ++ (lines ++ rest)) old new e = gather_breaks lines rest held held' old mid new e all.gathered (breaks_longer [] held' [] rest mid new e broken) in
      record {
        goes = broken_goes [] (held ++ (lines ++ rest)) old new e whole;
        cause = whole.cause;
        prefixes = if_some stream _ _ (λ s ends. subst (λ l. PutsPrefixes [] l old new) (report_is held all.done fault s is ends) whole.prefixes) all.whole;
      }

pub still_drained : (P : SlotView → Type 0) (fault : Option FormatFault) (mid new : SlotView) → new ≡ mid → IfNone fault (P mid) → IfNone fault (P new)
still_drained P None mid new same drained = subst P (sym same) drained
still_drained P (Some fault) mid new same drained = tt
