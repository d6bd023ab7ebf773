-- Parts of the shape of others fit if those fit.
use Rattle.std.proofs.Common.{◌≡◌, ◌∙◌, ℕ, List, length, true}
use Rattle.std.specs.Prelude.{Option, Some, None, IfSome, IsSomeAnd, is_some, option_map}
use Rattle.packet_fields.specs.Frames.{is_tag_list}
use Rattle.packet_fields.specs.Fields.{value}
use Rattle.packet_fields.specs.Writing.{Fits}
use Rattle.packet_fields.specs.declared.field.Field.{Field}
use Rattle.packet_fields.specs.declared.field.Field.TheVariants.{LinkDst, LinkSrc, Tag, Tos, Ttl, SrcIp, DstIp, SrcPort, DstPort, Payload}
use Rattle.packet_version.specs.Parts.{PlainPart, Parts, values_of}
use Rattle.packet_version.specs.Splitting.{IsWhole, IsShapedAs}

abbrev Fitting : List ℕ → Option (List ℕ) → Type 0
Fitting new o = IsSomeAnd o (λ old. length new ≡ length old)

same_fitting : (new old : List ℕ) (o : Option (List ℕ)) → length new ≡ length old → Fitting old o → Fitting new o
same_fitting new old None same fits = fits
same_fitting new old (Some v) same fits = same ∙ fits

-- a part as long as one that fits
by_length : (p q : Option PlainPart) (o : Option (List ℕ)) → option_map (λ r. length r.bytes) p ≡ option_map (λ r. length r.bytes) q → IfSome (option_map (λ r. r.bytes) q) (λ old. Fitting old o) → IfSome (option_map (λ r. r.bytes) p) (λ new. Fitting new o)
by_length None q o same fits = tt
by_length (Some p) None o same fits = absurd (cc)
by_length (Some p) (Some q) o same fits = same_fitting p.bytes q.bytes o (cc) fits

-- whole tags, if there are tags
by_tags : (p q : Option PlainPart) (frame : List ℕ) → is_some p ≡ is_some q → IfSome p (λ r. is_tag_list r.bytes ≡ true) → IfSome (option_map (λ r. r.bytes) q) (λ old. Fits Tag old frame) → IfSome (option_map (λ r. r.bytes) p) (λ new. Fits Tag new frame)
by_tags None q frame there tags fits = tt
by_tags (Some p) None frame there tags fits = absurd (cc)
by_tags (Some p) (Some q) frame there tags fits = (fits.0, tags)

fits_shaped : (old new : Parts) (frame : List ℕ) → IsWhole old frame → IsShapedAs old new → (f : Field) → IfSome (values_of new f) (λ bytes. Fits f bytes frame)
fits_shaped old new frame w s LinkDst = by_length (new LinkDst) (old LinkDst) (value LinkDst frame) (s.lengths LinkDst (λ e. cc)) (w.fits LinkDst)
fits_shaped old new frame w s LinkSrc = by_length (new LinkSrc) (old LinkSrc) (value LinkSrc frame) (s.lengths LinkSrc (λ e. cc)) (w.fits LinkSrc)
fits_shaped old new frame w s Tag = by_tags (new Tag) (old Tag) frame (s.there Tag) s.tags (w.fits Tag)
fits_shaped old new frame w s Tos = by_length (new Tos) (old Tos) (value Tos frame) (s.lengths Tos (λ e. cc)) (w.fits Tos)
fits_shaped old new frame w s Ttl = by_length (new Ttl) (old Ttl) (value Ttl frame) (s.lengths Ttl (λ e. cc)) (w.fits Ttl)
fits_shaped old new frame w s SrcIp = by_length (new SrcIp) (old SrcIp) (value SrcIp frame) (s.lengths SrcIp (λ e. cc)) (w.fits SrcIp)
fits_shaped old new frame w s DstIp = by_length (new DstIp) (old DstIp) (value DstIp frame) (s.lengths DstIp (λ e. cc)) (w.fits DstIp)
fits_shaped old new frame w s SrcPort = by_length (new SrcPort) (old SrcPort) (value SrcPort frame) (s.lengths SrcPort (λ e. cc)) (w.fits SrcPort)
fits_shaped old new frame w s DstPort = by_length (new DstPort) (old DstPort) (value DstPort frame) (s.lengths DstPort (λ e. cc)) (w.fits DstPort)
fits_shaped old new frame w s Payload = by_length (new Payload) (old Payload) (value Payload frame) (s.lengths Payload (λ e. cc)) (w.fits Payload)

pub shaped_whole : (old new : Parts) (frame : List ℕ) → IsWhole old frame → IsShapedAs old new → IsWhole new frame
shaped_whole old new frame w s = record { there = λ f. s.there f ∙ w.there f; fits = fits_shaped old new frame w s }
