-- What chains make of what a source gives is what is due for the capture, in each format.
use Rattle.std.proofs.Common.{◌≡◌, ◌∙◌, ℕ, List, [], ◌∷◌, ◌++◌, length, map, refl, ap, subst}
use Rattle.std.specs.Prelude.{count_by, Option, Some, None}
use Rattle.std.specs.Option.{option_map}
use Rattle.nfp_outside.specs.declared.slot.Slot.{Slot}
use Rattle.nfp_outside.specs.Outside.{SlotView}
use Rattle.capture_bytes.specs.declared.order.Endian.{Endian}
use Rattle.capture_bytes.specs.declared.packet.PcapRecord.{PcapRecord}
use Rattle.capture_bytes.specs.declared.packet.Unit.TheVariants.{Nano}
use Rattle.pcap_io.specs.Capture.{Body}
use Rattle.pcap_io.specs.Written.{head_bytes, record_bytes}
use Rattle.pcap_io.specs.declared.capture.CaptureHead.{CaptureHead}
use Rattle.pcapng_io.specs.Blocks.{Blocks}
use Rattle.pcapng_io.specs.Written.{interface_bytes, item_bytes, section_bytes}
use Rattle.pcapng_io.specs.declared.item.NgItem.{NgItem}
use Rattle.pcapng_io.specs.declared.item.NgItem.TheVariants.{Packet, Section, Interface, Carried}
use Rattle.chain_walk.specs.declared.walk.Fate.{Fate}
use Rattle.chain_walk.specs.declared.walk.Fate.TheVariants.{Out, Gone}
use Rattle.capture_run.specs.ChainService.{Chains}
use Rattle.capture_run.specs.BurstWalk.{fates_of}
use Rattle.capture_run.specs.CaptureReport.{is_gone, report_of}
use Rattle.capture_run.specs.CaptureReportProofs.{Ended}
use Rattle.capture_items.specs.declared.fault.FormatFault.TheVariants as formats
use Rattle.capture_run.specs.Emitted.{emitted, emitted_all, emitted_record, out_bytes}
use Rattle.capture_run.specs.EmittedNg.{ng_out_bytes, records_among}
use Rattle.capture_items.specs.Formats.{PacketBeside, ng_given, ng_spelled, ng_stream, pcap_given, pcap_spelled, pcap_stream}
use Rattle.capture_run.specs.Running.{Goes, WritesAll, WriteBreaks}
use Rattle.capture_items.specs.Putting.{earlier_cause, later_more}
use Rattle.capture_items.specs.Slots.{Breaks, Puts, PutsPrefixes}
use Rattle.capture_items.specs.Streams.{Stream, records_in}
use Rattle.capture_run.specs.Streams.{emitted_among}
use Rattle.capture_items.specs.declared.fault.RunFault.{RunFault}
use Rattle.nfp_run.specs.Closing.{LedPartly, LedWhole}
use Rattle.nfp_run.specs.Heads.{growth_of, written_head}
use Rattle.nfp_run.specs.Reading.{led_stream}
use Rattle.nfp_run.specs.Written.{led_ng, led_pcap, written_of}
use Rattle.nfp_run.proofs.PutInSteps.{prefixes_longer, puts_more, puts_more_partly}

-- the records of a classic capture
pcap_records : (rs : List PcapRecord) → records_in (map pcap_given rs) ≡ rs
pcap_records [] = refl
pcap_records (r ∷ rs) = ap (λ l. r ∷ l) (pcap_records rs)

-- what is written for them
pcap_written : (order : Endian) (rs : List PcapRecord) (fs : List Fate) → emitted_among (pcap_spelled order) (map pcap_given rs) fs ≡ emitted_all (record_bytes order) rs fs
unfolding emitted_among emitted_all
pcap_written order [] [] = refl
pcap_written order [] (f ∷ fs) = refl
pcap_written order (r ∷ rs) [] = refl
pcap_written order (r ∷ rs) (f ∷ fs) = ap (λ l. emitted (record_bytes order) r f ++ l) (pcap_written order rs fs)

-- the records of a pcapng capture
ng_records : (items : List NgItem) → records_in (map ng_given items) ≡ records_among items
ng_records [] = refl
ng_records (Packet p ∷ more) = ap (λ l. p.packet ∷ l) (ng_records more)
ng_records (Section block ∷ more) = ng_records more
ng_records (Interface order block ∷ more) = ng_records more
ng_records (Carried block ∷ more) = ng_records more

-- what is written for its items
ng_written : (growth : ℕ) (items : List NgItem) (fs : List Fate) → emitted_among (ng_spelled growth) (map ng_given items) fs ≡ ng_out_bytes growth items fs
unfolding emitted_among ng_out_bytes
ng_written growth [] fs = refl
ng_written growth (Section block ∷ more) fs = ap (λ l. section_bytes block ++ l) (ng_written growth more fs)
ng_written growth (Interface order block ∷ more) fs = ap (λ l. interface_bytes growth order block ++ l) (ng_written growth more fs)
ng_written growth (Carried block ∷ more) fs = ap (λ l. block ++ l) (ng_written growth more fs)
ng_written growth (Packet p ∷ more) [] = refl
ng_written growth (Packet p ∷ more) (Out frame ∷ fs) = ap (λ l. item_bytes growth (Packet (record p { packet = emitted_record p.packet frame })) ++ l) (ng_written growth more fs)
ng_written growth (Packet p ∷ more) (Gone position ∷ fs) = ng_written growth more fs

-- what is due for what a source gives for a pcapng capture
pub led_streams : (chains : Chains) (blocks : Blocks) → led_stream chains (ng_stream blocks) ≡ led_ng chains blocks
led_streams chains blocks =
    let records : records_in (map ng_given blocks.items) ≡ records_among blocks.items = ng_records blocks.items in
    let out : emitted_among (ng_spelled (growth_of chains)) (map ng_given blocks.items) (fates_of chains Nano (records_in (map ng_given blocks.items))) ≡ ng_out_bytes (growth_of chains) blocks.items (fates_of chains Nano (records_among blocks.items)) =
    ap (λ rs. emitted_among (ng_spelled (growth_of chains)) (map ng_given blocks.items) (fates_of chains Nano rs)) records ∙ ng_written (growth_of chains) blocks.items (fates_of chains Nano (records_among blocks.items)) in
    λ i. record {
      written = record { out = out i; report = report_of chains Nano (records i) (option_map formats.Ng blocks.fault) };
      fates = fates_of chains Nano (records i);
      fault = option_map formats.Ng blocks.fault;
    }

pub ng_whole : (chains : Chains) (growth : ℕ) (left : Option (Stream PacketBeside NgItem)) (old new : Slot → SlotView) (ended : Ended) → growth ≡ growth_of chains →
    WritesAll (ng_spelled growth) chains Nano left old new ended → LedWhole (option_map (led_stream chains) left) old new ended
ng_whole chains growth None old new ended same w = record { goes = w.goes; within = w.within; kind = w.kind; counts = tt; puts = tt }
ng_whole chains growth (Some s) old new ended same w = record {
  goes = w.goes;
  within = w.within;
  kind = w.kind;
  counts = w.counts;
  puts = subst (λ g. Puts (emitted_among (ng_spelled g) s.given (fates_of chains Nano (records_in s.given))) (report_of chains Nano (records_in s.given) s.fault) old new) same w.puts;
}

pub ng_partly : (chains : Chains) (growth : ℕ) (left : Option (Stream PacketBeside NgItem)) (old new : Slot → SlotView) (e : RunFault) → growth ≡ growth_of chains →
    WriteBreaks (ng_spelled growth) chains Nano left old new e → LedPartly (option_map (led_stream chains) left) old new e
ng_partly chains growth None old new e same w = record { goes = w.goes; cause = w.cause; prefixes = tt }
ng_partly chains growth (Some s) old new e same w = record {
  goes = w.goes;
  cause = w.cause;
  prefixes = subst (λ g. PutsPrefixes (emitted_among (ng_spelled g) s.given (fates_of chains Nano (records_in s.given))) (report_of chains Nano (records_in s.given) s.fault) old new) same w.prefixes;
}

-- the bytes of Out are the head that is written and then what is emitted
head_first : (chains : Chains) (head : CaptureHead) (order : Endian) (b : Body) → order ≡ head.order →
    head_bytes (written_head chains head) ++ emitted_among (pcap_spelled order) (map pcap_given b.records) (fates_of chains head.unit (records_in (map pcap_given b.records))) ≡ (written_of chains head b).out
unfolding out_bytes
head_first chains head order b same =
    ap (λ rs. head_bytes (written_head chains head) ++ emitted_among (pcap_spelled order) (map pcap_given b.records) (fates_of chains head.unit rs)) (pcap_records b.records)
    ∙ ap (λ l. head_bytes (written_head chains head) ++ l) (pcap_written order b.records (fates_of chains head.unit b.records))
    ∙ ap (λ o. head_bytes (written_head chains head) ++ emitted_all (record_bytes o) b.records (fates_of chains head.unit b.records)) same

same_report : (chains : Chains) (head : CaptureHead) (b : Body) →
    report_of chains head.unit (records_in (map pcap_given b.records)) (option_map formats.Pcap b.fault) ≡ (written_of chains head b).report
same_report chains head b = ap (λ rs. report_of chains head.unit rs (option_map formats.Pcap b.fault)) (pcap_records b.records)

goes_behind : (out report : List ℕ) (old mid new : Slot → SlotView) → Puts out report old mid → Goes mid new → Goes old new
goes_behind out report old mid new puts goes =
    record { out_name = goes.out_name ∙ puts.in_out.same_name; report_name = goes.report_name ∙ puts.in_report.same_name; later = later_more old mid new puts.later goes.later }

pub pcap_whole : (chains : Chains) (head : CaptureHead) (order : Endian) (left : Option Body) (old mid new : Slot → SlotView) (ended : Ended) → order ≡ head.order →
    Puts (head_bytes (written_head chains head)) [] old mid →
    WritesAll (pcap_spelled order) chains head.unit (option_map pcap_stream left) mid new ended → LedWhole (option_map (led_pcap chains head) left) old new ended
pcap_whole chains head order None old mid new ended same first w = record { goes = goes_behind _ _ old mid new first w.goes; within = w.within; kind = w.kind; counts = tt; puts = tt }
pcap_whole chains head order (Some b) old mid new ended same first w =
    let records : records_in (map pcap_given b.records) ≡ b.records = pcap_records b.records in
    record {
      goes = goes_behind _ _ old mid new first w.goes;
      within = w.within;
      kind = w.kind;
      counts = record {
        read = w.counts.read ∙ (λ i. length (fates_of chains head.unit (records i)));
        dropped = w.counts.dropped ∙ (λ i. count_by is_gone (fates_of chains head.unit (records i)));
        fault = w.counts.fault;
      };
      puts = subst (λ r. Puts (written_of chains head b).out r old new) (same_report chains head b)
          (subst (λ o. Puts o (report_of chains head.unit (records_in (map pcap_given b.records)) (option_map formats.Pcap b.fault)) old new) (head_first chains head order b same) (puts_more _ [] _ _ old mid new first w.puts));
    }

pub pcap_partly : (chains : Chains) (head : CaptureHead) (order : Endian) (left : Option Body) (old mid new : Slot → SlotView) (e : RunFault) → order ≡ head.order →
    Puts (head_bytes (written_head chains head)) [] old mid →
    WriteBreaks (pcap_spelled order) chains head.unit (option_map pcap_stream left) mid new e → LedPartly (option_map (led_pcap chains head) left) old new e
pcap_partly chains head order None old mid new e same first w = record { goes = goes_behind _ _ old mid new first w.goes; cause = earlier_cause old mid new e first.later w.cause; prefixes = tt }
pcap_partly chains head order (Some b) old mid new e same first w = record {
  goes = goes_behind _ _ old mid new first w.goes;
  cause = earlier_cause old mid new e first.later w.cause;
  prefixes = subst (λ r. PutsPrefixes (written_of chains head b).out r old new) (same_report chains head b)
      (subst (λ o. PutsPrefixes o (report_of chains head.unit (records_in (map pcap_given b.records)) (option_map formats.Pcap b.fault)) old new) (head_first chains head order b same) (puts_more_partly _ [] _ _ old mid new first w.prefixes));
}

-- the head couldn't be put
pub at_head : (chains : Chains) (head : CaptureHead) (left : Option Body) (old new : Slot → SlotView) (e : RunFault) → Breaks (head_bytes (written_head chains head)) [] old new e →
    LedPartly (option_map (led_pcap chains head) left) old new e
at_head chains head None old new e broken = record {
  goes = record { out_name = broken.prefixes.in_out.appended.same_name; report_name = broken.prefixes.in_report.appended.same_name; later = broken.prefixes.later };
  cause = broken.cause;
  prefixes = tt;
}
at_head chains head (Some b) old new e broken = record {
  goes = record { out_name = broken.prefixes.in_out.appended.same_name; report_name = broken.prefixes.in_report.appended.same_name; later = broken.prefixes.later };
  cause = broken.cause;
  prefixes = subst (λ r. PutsPrefixes (written_of chains head b).out r old new) (same_report chains head b)
      (subst (λ o. PutsPrefixes o (report_of chains head.unit (records_in (map pcap_given b.records)) (option_map formats.Pcap b.fault)) old new) (head_first chains head head.order b refl) (prefixes_longer _ [] _ _ old new broken.prefixes));
}
