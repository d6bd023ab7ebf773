-- A capture that was read to its end, so that nothing is left of it.
use Rattle.std.proofs.Common.{◌≡◌, [], sym, subst}
use Rattle.std.specs.Prelude.{IfSome}
use Rattle.nfp_outside.specs.Outside.{SlotView}
use Rattle.pcap_io.specs.Reader as pcap
use Rattle.pcapng_io.specs.Reader as ng
use Rattle.pcapng_io.specs.declared.place.Place.{Place}
use Rattle.capture_items.specs.Streams.{IsDrained}

-- nothing was left, and so nothing is
pub pcap_at_end : (before after : pcap.ReaderState) (old new : SlotView) → pcap.IsAtEnd before after old new → IsDrained new
pcap_at_end before after old new end = subst (λ o. IfSome o (λ bytes. bytes ≡ [])) (sym end.left) end.empty

pub ng_at_end : (before : Place) (old new : SlotView) → ng.IsAtEnd before old new → IsDrained new
ng_at_end before old new end = subst (λ o. IfSome o (λ bytes. bytes ≡ [])) (sym end.left) end.empty
