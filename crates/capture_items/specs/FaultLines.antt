-- Believed: the line of a capture's first fault, by its format, and the last line of a report.
use Rattle.std.specs.Prelude.{ℕ, List, [], ◌∷◌, ◌++◌, codes, Option, Some, None}
use Rattle.std.specs.Fmt.{decimal}
use Rattle.text_lines.specs.Texts.{joined}
use Rattle.pcap_io.specs.declared.capture.CaptureFault.{CaptureFault}
use Rattle.pcap_io.specs.declared.capture.CaptureFault.TheVariants.{BadMagic, BadVersion, BadLink, CutHead, CutRecord, FrameTooLong, TooManyRecords}
use Rattle.pcapng_io.specs.declared.fault.NgFault.{NgFault}
use Rattle.pcapng_io.specs.declared.fault.NgFault.TheVariants as ng
use Rattle.capture_items.specs.declared.fault.FormatFault.{FormatFault}
use Rattle.capture_items.specs.declared.fault.FormatFault.TheVariants.{Pcap, Ng}

-- for a classic capture
unfoldable pub capture_text : CaptureFault → List ℕ
capture_text BadMagic = codes "capture: bad magic\n"
capture_text BadVersion = codes "capture: bad version\n"
capture_text (BadLink link) = joined (codes "capture: bad link " ∷ decimal link ∷ codes "\n" ∷ [])
capture_text CutHead = codes "capture: cut head\n"
capture_text (CutRecord number) = joined (codes "capture: cut record " ∷ decimal number ∷ codes "\n" ∷ [])
capture_text (FrameTooLong number length) = joined (codes "capture: frame too long " ∷ decimal number ∷ codes " " ∷ decimal length ∷ codes "\n" ∷ [])
capture_text TooManyRecords = codes "capture: too many records\n"

-- for a pcapng capture
unfoldable pub ng_text : NgFault → List ℕ
ng_text (ng.CutBlock number) = joined (codes "capture: cut block " ∷ decimal number ∷ codes "\n" ∷ [])
ng_text (ng.BadBlock number) = joined (codes "capture: bad block " ∷ decimal number ∷ codes "\n" ∷ [])
ng_text (ng.BlockTooLong number length) = joined (codes "capture: block too long " ∷ decimal number ∷ codes " " ∷ decimal length ∷ codes "\n" ∷ [])
ng_text (ng.BadLink link) = joined (codes "capture: bad link " ∷ decimal link ∷ codes "\n" ∷ [])
ng_text (ng.BadResolution number) = joined (codes "capture: bad resolution " ∷ decimal number ∷ codes "\n" ∷ [])
ng_text (ng.NoInterface number) = joined (codes "capture: no interface " ∷ decimal number ∷ codes "\n" ∷ [])
ng_text (ng.FrameTooLong number length) = joined (codes "capture: frame too long " ∷ decimal number ∷ codes " " ∷ decimal length ∷ codes "\n" ∷ [])
ng_text ng.TooManyRecords = codes "capture: too many records\n"
ng_text ng.TooManyBlocks = codes "capture: too many blocks\n"

abbrev pub fault_text : FormatFault → List ℕ
fault_text (Pcap fault) = capture_text fault
fault_text (Ng fault) = ng_text fault

-- the last line: the end, or the fault at which the capture ends
unfoldable pub last_line : Option FormatFault → List ℕ
last_line None = codes "end\n"
last_line (Some fault) = codes "fault " ++ fault_text fault
