-- The rest of a frame stays when one field is written.
use Rattle.std.proofs.Common.{◌≡◌, ◌∙◌, ℕ, List, sym, ap, refl}
use Rattle.std.specs.Prelude.{Option, Some, None, if◌then◌else◌, ◌==◌}
use Rattle.packet_fields.specs.Fields.{number_of}
use Rattle.packet_fields.specs.Writing.{put, Fits, written_in, written, AllFit, rest_of}
use Rattle.packet_fields.specs.declared.field.Field.{Field}
use Rattle.packet_fields.specs.declared.field.Field.TheVariants.{LinkDst, LinkSrc, Tag, Tos, Ttl, SrcIp, DstIp, SrcPort, DstPort, Payload}
use Rattle.packet_fields.proofs.Walk.{rest_of-written}

-- one value alone
abbrev only : Field → List ℕ → Field → Option (List ℕ)
only f new g = if number_of f == number_of g then Some new else None

only_fits : (f : Field) (new frame : List ℕ) → Fits f new frame → AllFit (only f new) frame
only_fits LinkDst new frame fits LinkDst = fits
only_fits LinkDst new frame fits LinkSrc = tt
only_fits LinkDst new frame fits Tag = tt
only_fits LinkDst new frame fits Tos = tt
only_fits LinkDst new frame fits Ttl = tt
only_fits LinkDst new frame fits SrcIp = tt
only_fits LinkDst new frame fits DstIp = tt
only_fits LinkDst new frame fits SrcPort = tt
only_fits LinkDst new frame fits DstPort = tt
only_fits LinkDst new frame fits Payload = tt
only_fits LinkSrc new frame fits LinkDst = tt
only_fits LinkSrc new frame fits LinkSrc = fits
only_fits LinkSrc new frame fits Tag = tt
only_fits LinkSrc new frame fits Tos = tt
only_fits LinkSrc new frame fits Ttl = tt
only_fits LinkSrc new frame fits SrcIp = tt
only_fits LinkSrc new frame fits DstIp = tt
only_fits LinkSrc new frame fits SrcPort = tt
only_fits LinkSrc new frame fits DstPort = tt
only_fits LinkSrc new frame fits Payload = tt
only_fits Tag new frame fits LinkDst = tt
only_fits Tag new frame fits LinkSrc = tt
only_fits Tag new frame fits Tag = fits
only_fits Tag new frame fits Tos = tt
only_fits Tag new frame fits Ttl = tt
only_fits Tag new frame fits SrcIp = tt
only_fits Tag new frame fits DstIp = tt
only_fits Tag new frame fits SrcPort = tt
only_fits Tag new frame fits DstPort = tt
only_fits Tag new frame fits Payload = tt
only_fits Tos new frame fits LinkDst = tt
only_fits Tos new frame fits LinkSrc = tt
only_fits Tos new frame fits Tag = tt
only_fits Tos new frame fits Tos = fits
only_fits Tos new frame fits Ttl = tt
only_fits Tos new frame fits SrcIp = tt
only_fits Tos new frame fits DstIp = tt
only_fits Tos new frame fits SrcPort = tt
only_fits Tos new frame fits DstPort = tt
only_fits Tos new frame fits Payload = tt
only_fits Ttl new frame fits LinkDst = tt
only_fits Ttl new frame fits LinkSrc = tt
only_fits Ttl new frame fits Tag = tt
only_fits Ttl new frame fits Tos = tt
only_fits Ttl new frame fits Ttl = fits
only_fits Ttl new frame fits SrcIp = tt
only_fits Ttl new frame fits DstIp = tt
only_fits Ttl new frame fits SrcPort = tt
only_fits Ttl new frame fits DstPort = tt
only_fits Ttl new frame fits Payload = tt
only_fits SrcIp new frame fits LinkDst = tt
only_fits SrcIp new frame fits LinkSrc = tt
only_fits SrcIp new frame fits Tag = tt
only_fits SrcIp new frame fits Tos = tt
only_fits SrcIp new frame fits Ttl = tt
only_fits SrcIp new frame fits SrcIp = fits
only_fits SrcIp new frame fits DstIp = tt
only_fits SrcIp new frame fits SrcPort = tt
only_fits SrcIp new frame fits DstPort = tt
only_fits SrcIp new frame fits Payload = tt
only_fits DstIp new frame fits LinkDst = tt
only_fits DstIp new frame fits LinkSrc = tt
only_fits DstIp new frame fits Tag = tt
only_fits DstIp new frame fits Tos = tt
only_fits DstIp new frame fits Ttl = tt
only_fits DstIp new frame fits SrcIp = tt
only_fits DstIp new frame fits DstIp = fits
only_fits DstIp new frame fits SrcPort = tt
only_fits DstIp new frame fits DstPort = tt
only_fits DstIp new frame fits Payload = tt
only_fits SrcPort new frame fits LinkDst = tt
only_fits SrcPort new frame fits LinkSrc = tt
only_fits SrcPort new frame fits Tag = tt
only_fits SrcPort new frame fits Tos = tt
only_fits SrcPort new frame fits Ttl = tt
only_fits SrcPort new frame fits SrcIp = tt
only_fits SrcPort new frame fits DstIp = tt
only_fits SrcPort new frame fits SrcPort = fits
only_fits SrcPort new frame fits DstPort = tt
only_fits SrcPort new frame fits Payload = tt
only_fits DstPort new frame fits LinkDst = tt
only_fits DstPort new frame fits LinkSrc = tt
only_fits DstPort new frame fits Tag = tt
only_fits DstPort new frame fits Tos = tt
only_fits DstPort new frame fits Ttl = tt
only_fits DstPort new frame fits SrcIp = tt
only_fits DstPort new frame fits DstIp = tt
only_fits DstPort new frame fits SrcPort = tt
only_fits DstPort new frame fits DstPort = fits
only_fits DstPort new frame fits Payload = tt
only_fits Payload new frame fits LinkDst = tt
only_fits Payload new frame fits LinkSrc = tt
only_fits Payload new frame fits Tag = tt
only_fits Payload new frame fits Tos = tt
only_fits Payload new frame fits Ttl = tt
only_fits Payload new frame fits SrcIp = tt
only_fits Payload new frame fits DstIp = tt
only_fits Payload new frame fits SrcPort = tt
only_fits Payload new frame fits DstPort = tt
only_fits Payload new frame fits Payload = fits

written_only : (f : Field) (new frame : List ℕ) → written (only f new) frame ≡ put f new frame
unfolding written_in
written_only LinkDst new frame = refl
written_only LinkSrc new frame = refl
written_only Tag new frame = refl
written_only Tos new frame = refl
written_only Ttl new frame = refl
written_only SrcIp new frame = refl
written_only DstIp new frame = refl
written_only SrcPort new frame = refl
written_only DstPort new frame = refl
written_only Payload new frame = refl

pub rest_of-put : (f : Field) (new frame : List ℕ) → Fits f new frame → rest_of (put f new frame) ≡ rest_of frame
rest_of-put f new frame fits = ap (λ (xs : List ℕ). rest_of xs) (sym (written_only f new frame)) ∙ rest_of-written (only f new) frame (only_fits f new frame fits)
