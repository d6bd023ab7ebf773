-- For proofs: what a source gives from the rest of a capture.
use Rattle.std.specs.Prelude.{◌≡◌, ◌<◌, ◌+◌, ℕ, [], true, Option, Some, IfSome}
use Rattle.std.specs.Option.{option_map}
use Rattle.nfp_outside.specs.Outside.{SlotView}
use Rattle.pcap_io.specs.Capture.{IsHeadFault}
use Rattle.pcapng_io.specs.Blocks.{is_of_first_block}
use Rattle.capture_items.specs.declared.fault.FormatFault.{FormatFault}
use Rattle.capture_items.specs.declared.fault.FormatFault.TheVariants.{Pcap, Ng}
use Rattle.capture_items.specs.Streams.{HasNumber, IsShortGiven, Stream, count_given, with_given}
use Rattle.capture_items.specs.declared.given.Given.{Given}

-- a fault by which a capture isn't opened at all
abbrev pub IsOpeningFault : FormatFault → Type 0
IsOpeningFault (Pcap fault) = IsHeadFault fault
IsOpeningFault (Ng fault) = is_of_first_block fault ≡ true

-- This was read, and what follows it is left.
pub record GivesNext {S X B : Type 0} (left : S → SlotView → Option (Stream X B)) (packets taken : S → ℕ) (x : Given X B) (before after : S) (old new : SlotView) : Type 0 where
  pub counted : packets after ≡ packets before + count_given x
  pub numbered : HasNumber x (packets before)
  pub one_more : taken after ≡ taken before + 1
  pub few : taken before < 1099511627776
  pub short : IsShortGiven x
  pub whole : left before old ≡ option_map (with_given x) (left after new)

-- The rest is refused with this fault, which doesn't keep a capture from being opened.
pub record RefusesNext {S X B : Type 0} (left : S → SlotView → Option (Stream X B)) (fault : FormatFault) (before : S) (old : SlotView) : Type 0 where
  pub kind : ¬ IsOpeningFault fault
  pub whole : IfSome (left before old) (λ s. s ≡ record { given = []; fault = Some fault })
