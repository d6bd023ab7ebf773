-- A refused body of a capture has no fault that keeps the capture from being opened.
use Rattle.std.proofs.Common.{◌≡◌, ℕ, List, [], ap, rules, subst, sym}
use Rattle.std.specs.Prelude.{Bool, true, false, Option, Some, None, IfSome, IsErrOf, IsOk, Result, Ok, Err}
use Rattle.std.specs.Option.{option_map}
use Rattle.nfp_outside.specs.Outside.{SlotView}
use Rattle.pcap_io.specs.Capture.{IsHeadFault}
use Rattle.pcap_io.specs.Reader.{IsRecordFault, ReaderState, RefusesRecord, body_left}
use Rattle.pcap_io.specs.declared.capture.CaptureFault.{CaptureFault}
use Rattle.pcap_io.specs.declared.capture.CaptureFault.TheVariants.{BadMagic, BadVersion, BadLink, CutHead, CutRecord, FrameTooLong, TooManyRecords}
use Rattle.pcapng_io.specs.Blocks.{is_of_first_block}
use Rattle.pcapng_io.specs.Reader as ng
use Rattle.pcapng_io.specs.declared.fault.NgFault.{NgFault}
use Rattle.pcapng_io.specs.declared.item.NgItem.{NgItem}
use Rattle.pcapng_io.specs.declared.place.Place.{Place}
use Rattle.capture_items.specs.declared.fault.FormatFault.{FormatFault}
use Rattle.capture_items.specs.declared.fault.FormatFault.TheVariants.{Pcap, Ng}
use Rattle.capture_items.specs.Formats.{ng_behind, ng_stream, pcap_left, pcap_stream}
use Rattle.capture_items.specs.Sources.{RefusesNext}
use Rattle.capture_items.specs.declared.fault.SourceFault.{SourceFault}
use Rattle.capture_items.specs.declared.fault.SourceFault.TheVariants as refusals

none_of_a_head : (given : ℕ) (fault : CaptureFault) → IsRecordFault given fault → ¬ IsHeadFault fault
none_of_a_head given BadMagic is = absurd is
none_of_a_head given BadVersion is = absurd is
none_of_a_head given (BadLink link) is = absurd is
none_of_a_head given CutHead is = absurd is
none_of_a_head given (CutRecord n) is = λ head. head
none_of_a_head given (FrameTooLong n length) is = λ head. head
none_of_a_head given TooManyRecords is = λ head. head

-- what is known about a value is known about what is made of it
made : {T U : Type 0} (f : T → U) (o : Option T) (x : T) → IfSome o (λ b. b ≡ x) → IfSome (option_map f o) (λ s. s ≡ f x)
made f None x is = tt
made f (Some b) x is = ap f is

pub refuses_next : (fault : CaptureFault) (reader : ReaderState) (old : SlotView) → RefusesRecord fault reader old → RefusesNext pcap_left (Pcap fault) reader old
refuses_next fault reader old refuses = record { kind = none_of_a_head reader.given fault refuses.kind; whole = made pcap_stream (body_left reader old) _ refuses.whole }

-- a test that fails doesn't hold
fails : (b : Bool) → b ≡ false → ¬ (b ≡ true)
fails true isnt = absurd cc
fails false isnt = λ is. cc

pub refuses_block : (fault : NgFault) (reader : ng.ReaderState) (old : SlotView) → ng.RefusesBlock fault reader.place old → is_of_first_block fault ≡ false → RefusesNext ng_behind (Ng fault) reader old
refuses_block fault reader old refuses later = record { kind = fails (is_of_first_block fault) later; whole = made ng_stream (ng.blocks_left reader.place old) _ refuses.whole }

abbrev format_of : {T : Type 0} → FormatFault → Result T SourceFault → FormatFault
format_of other (Ok x) = other
format_of other (Err (refusals.Format f)) = f
format_of other (Err refusals.ReadFault) = other
format_of other (Err refusals.OutOfMemory) = other

-- a refusal reports one fault
pub format_is : {T : Type 0} (f g : FormatFault) → IsErrOf {T = T} (Err (refusals.Format f)) (refusals.Format g) → f ≡ g
format_is f g is = ap (format_of g) is

some_is : {T : Type 0} (a b : T) → Some a ≡ Some b → a ≡ b
some_is a b e = cc

-- what comes next was read, so it has no fault
pub next_accepted : (item : NgItem) (before after : Place) (old new : SlotView) → ng.ReadsItem item before after old new → IfSome (ng.next_left before old) IsOk
next_accepted item before after old new reads = go (ng.next_left before old) new.bytes reads.next
  where
    go : (o : Option (Result (Option (NgItem × Place × List ℕ)) NgFault)) (rest : Option (List ℕ)) → o ≡ option_map (λ bytes. Ok (Some (item, after, bytes))) rest → IfSome o IsOk
    go None rest is = tt
    go (Some next) None is = absurd cc
    go (Some next) (Some bytes) is = subst IsOk (sym (some_is next _ is)) (search rules)
