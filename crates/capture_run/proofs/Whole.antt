-- The pieces of a run are the records and the report that are due.
use Rattle.std.proofs.Common.{ℕ, List, [], ◌++◌, length, map, refl, sym, append_assoc}
use Rattle.std.specs.Prelude.{count_by, Option}
use Rattle.std.proofs.lemmas.List.{append-nil}
use Rattle.nfp_outside.specs.declared.slot.Slot.{Slot}
use Rattle.nfp_outside.specs.Outside.{SlotView}
use Rattle.capture_items.specs.declared.fault.FormatFault.{FormatFault}
use Rattle.capture_bytes.specs.declared.packet.PcapRecord.{PcapRecord}
use Rattle.capture_bytes.specs.declared.packet.Unit.{Unit as TimeUnit}
use Rattle.capture_report.specs.ChainService.{Chains}
use Rattle.capture_report.specs.BurstWalk.{all_classed, chains_behind, fates_of}
use Rattle.capture_report.specs.Report.{copies_due, drop_lines, is_gone, names_among, report_bytes, report_of, summary, title}
use Rattle.capture_items.specs.Slots.{Breaks, Puts}
use Rattle.capture_items.specs.declared.fault.RunFault.{RunFault}
use Rattle.capture_items.specs.Putting.{breaks_is, breaks_longer, breaks_more, puts_is, puts_more}

-- the lines of the records that were dropped
abbrev pub lines_due : Chains → TimeUnit → List PcapRecord → List ℕ
lines_due chains unit records = drop_lines (names_among chains) 1 (map (λ x. x.class) (all_classed chains.declared unit records)) (fates_of chains unit records)

-- what follows them
abbrev pub summary_due : Chains → TimeUnit → List PcapRecord → Option FormatFault → List ℕ
summary_due chains unit records fault =
    summary (chains_behind chains unit records) (length (fates_of chains unit records)) (count_by is_gone (fates_of chains unit records))
    (copies_due chains.pieces (all_classed chains.declared unit records)) fault

pub title_refused : (out : List ℕ) (chains : Chains) (unit : TimeUnit) (records : List PcapRecord) (fault : Option FormatFault) (old new : Slot → SlotView) (e : RunFault) →
    Breaks [] title old new e → Breaks out (report_of chains unit records fault) old new e
unfolding report_bytes
title_refused out chains unit records fault old new e refused =
    let lines : List ℕ = lines_due chains unit records in
    let rest : List ℕ = summary_due chains unit records fault in
    breaks_is out out (title ++ (lines ++ rest)) _ old new e refl (sym (append_assoc title lines rest)) (breaks_longer [] title out (lines ++ rest) old new e refused)

pub records_refused : (out : List ℕ) (chains : Chains) (unit : TimeUnit) (records : List PcapRecord) (fault : Option FormatFault) (old mid new : Slot → SlotView) (e : RunFault) →
    Puts [] title old mid → Breaks out (lines_due chains unit records) mid new e → Breaks out (report_of chains unit records fault) old new e
unfolding report_bytes
records_refused out chains unit records fault old mid new e first refused =
    let lines : List ℕ = lines_due chains unit records in
    let rest : List ℕ = summary_due chains unit records fault in
    breaks_is (out ++ []) out ((title ++ lines) ++ rest) _ old new e (append-nil out) refl
    (breaks_longer out (title ++ lines) [] rest old new e (breaks_more [] title out lines old mid new e first refused))

pub text_refused : (out : List ℕ) (chains : Chains) (unit : TimeUnit) (records : List PcapRecord) (fault : Option FormatFault) (old mid now new : Slot → SlotView) (e : RunFault) →
    Puts [] title old mid → Puts out (lines_due chains unit records) mid now → Breaks [] (summary_due chains unit records fault) now new e → Breaks out (report_of chains unit records fault) old new e
unfolding report_bytes
text_refused out chains unit records fault old mid now new e first second refused =
    breaks_is (out ++ []) out _ _ old new e (append-nil out) refl
    (breaks_more out (title ++ lines_due chains unit records) [] (summary_due chains unit records fault) old now new e
    (puts_more [] title out (lines_due chains unit records) old mid now first second) refused)

pub all_put : (out : List ℕ) (chains : Chains) (unit : TimeUnit) (records : List PcapRecord) (fault : Option FormatFault) (old mid now new : Slot → SlotView) →
    Puts [] title old mid → Puts out (lines_due chains unit records) mid now → Puts [] (summary_due chains unit records fault) now new → Puts out (report_of chains unit records fault) old new
unfolding report_bytes
all_put out chains unit records fault old mid now new first second last =
    puts_is (out ++ []) out _ _ old new (append-nil out) refl
    (puts_more out (title ++ lines_due chains unit records) [] (summary_due chains unit records fault) old now new
    (puts_more [] title out (lines_due chains unit records) old mid now first second) last)
