-- Believed: what is written: what chains write for a capture, by its format, and what is exported for its flows.
use Rattle.std.specs.Prelude.{ℕ, List, Option, Some, None}
use Rattle.std.specs.Option.{option_map}
use Rattle.capture_bytes.specs.declared.packet.Unit.TheVariants.{Nano}
use Rattle.pcap_io.specs.Capture.{Body}
use Rattle.pcap_io.specs.declared.capture.CaptureHead.{CaptureHead}
use Rattle.pcapng_io.specs.Blocks.{Blocks}
use Rattle.chain_walk.specs.declared.walk.Fate.{Fate}
use Rattle.capture_run.specs.ChainService.{Chains}
use Rattle.capture_run.specs.BurstWalk.{fates_of}
use Rattle.capture_run.specs.Emitted.{out_bytes}
use Rattle.capture_run.specs.EmittedNg.{ng_out_bytes, records_among}
use Rattle.capture_run.specs.CaptureReport.{report_of}
use Rattle.capture_items.specs.declared.fault.FormatFault.{FormatFault}
use Rattle.capture_items.specs.declared.fault.FormatFault.TheVariants.{Ng, Pcap}
use Rattle.nfp_run.specs.Heads.{growth_of, written_head}

-- What chains write: the bytes of Out and of Report.
pub record Written : Type 0 where
  pub out : List ℕ
  pub report : List ℕ

-- What Out and Report have to hold: none for a slot that isn't attached.
pub record Files : Type 0 where
  pub out : Option (List ℕ)
  pub report : Option (List ℕ)

abbrev pub neither : Files
neither = record { out = None; report = None }

abbrev pub both : Written → Files
both written = record { out = Some written.out; report = Some written.report }

abbrev pub out_alone : List ℕ → Files
out_alone bytes = record { out = Some bytes; report = None }

-- what these chains write for a classic capture: each packet walks through its chain, after those before it
abbrev pub written_of : Chains → CaptureHead → Body → Written
written_of chains head body = record { out = out_bytes (written_head chains head) body.records (fates_of chains head.unit body.records); report = report_of chains head.unit body.records (option_map Pcap body.fault) }

-- where the packets of a pcapng capture end; their times count nanoseconds
abbrev pub ng_fates : Chains → Blocks → List Fate
ng_fates chains blocks = fates_of chains Nano (records_among blocks.items)

-- what these chains write for a pcapng capture: its blocks, without those of packets that were dropped
abbrev pub ng_written_of : Chains → Blocks → Written
ng_written_of chains blocks = record { out = ng_out_bytes (growth_of chains) blocks.items (ng_fates chains blocks); report = report_of chains Nano (records_among blocks.items) (option_map Ng blocks.fault) }

-- The result of a capture that goes through chains: what is written, where its packets end, and its fault, if any.
pub record Led : Type 0 where
  pub written : Written
  pub fates : List Fate
  pub fault : Option FormatFault

abbrev pub led_pcap : Chains → CaptureHead → Body → Led
led_pcap chains head body = record { written = written_of chains head body; fates = fates_of chains head.unit body.records; fault = option_map Pcap body.fault }

abbrev pub led_ng : Chains → Blocks → Led
led_ng chains blocks = record { written = ng_written_of chains blocks; fates = ng_fates chains blocks; fault = option_map Ng blocks.fault }
