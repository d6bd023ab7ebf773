-- The parts of a frame fit its rest if they fit the frame.
use Rattle.std.proofs.Common.{◌≡◌, ◌∙◌, ℕ, List, length, replicate, sym, ap, refl, subst}
use Rattle.std.specs.Prelude.{Option, Some, None, IfSome, IsSomeAnd, is_some, option_map}
use Rattle.std.specs.Option.{option_or}
use Rattle.std.proofs.lemmas.List.{length-replicate}
use Rattle.packet_fields.specs.Fields.{value}
use Rattle.packet_fields.specs.Writing.{Fits, blank, rest_of}
use Rattle.packet_fields.specs.declared.field.Field.{Field}
use Rattle.packet_fields.specs.declared.field.Field.TheVariants.{LinkDst, LinkSrc, Tag, Tos, Ttl, SrcIp, DstIp, SrcPort, DstPort, Payload}
use Rattle.packet_fields.proofs.Walk.{value-written, blanks, blanks_fit}
use Rattle.packet_version.specs.Parts.{Parts, values_of}
use Rattle.packet_version.specs.Splitting.{IsWhole}

or_self : (b : List ℕ → List ℕ) (o : Option (List ℕ)) → option_or (option_map b o) o ≡ option_map b o
or_self b None = refl
or_self b (Some v) = refl

-- the fields of a rest are blank
value-rest : (f : Field) (frame : List ℕ) → value f (rest_of frame) ≡ option_map (blank f) (value f frame)
value-rest f frame = value-written (blanks frame) frame (blanks_fit frame) f ∙ or_self (blank f) (value f frame)

some_blank : (b : List ℕ → List ℕ) (o : Option (List ℕ)) → is_some (option_map b o) ≡ is_some o
some_blank b None = refl
some_blank b (Some v) = refl

-- a rest has the fields of its frame
pub there-rest : (f : Field) (frame : List ℕ) → is_some (value f (rest_of frame)) ≡ is_some (value f frame)
there-rest f frame = ap (λ (o : Option (List ℕ)). is_some o) (value-rest f frame) ∙ some_blank (blank f) (value f frame)

abbrev zeros : List ℕ → List ℕ
zeros bytes = replicate (length bytes) 0

abbrev Fitting : List ℕ → Option (List ℕ) → Type 0
Fitting new o = IsSomeAnd o (λ old. length new ≡ length old)

to_zeros : (new : List ℕ) (o : Option (List ℕ)) → Fitting new o → Fitting new (option_map zeros o)
to_zeros new None fits = fits
to_zeros new (Some old) fits = fits ∙ sym (length-replicate {A = ℕ} (length old) 0)

from_zeros : (new : List ℕ) (o : Option (List ℕ)) → Fitting new (option_map zeros o) → Fitting new o
from_zeros new None fits = fits
from_zeros new (Some old) fits = fits ∙ length-replicate {A = ℕ} (length old) 0

fits_to : (f : Field) (new frame : List ℕ) → Fits f new frame → Fits f new (rest_of frame)
fits_to Tag new frame fits = (there-rest Tag frame ∙ fits.0, fits.1)
fits_to LinkDst new frame fits = subst (Fitting new) (sym (value-rest LinkDst frame)) (to_zeros new (value LinkDst frame) fits)
fits_to LinkSrc new frame fits = subst (Fitting new) (sym (value-rest LinkSrc frame)) (to_zeros new (value LinkSrc frame) fits)
fits_to Tos new frame fits = subst (Fitting new) (sym (value-rest Tos frame)) (to_zeros new (value Tos frame) fits)
fits_to Ttl new frame fits = subst (Fitting new) (sym (value-rest Ttl frame)) (to_zeros new (value Ttl frame) fits)
fits_to SrcIp new frame fits = subst (Fitting new) (sym (value-rest SrcIp frame)) (to_zeros new (value SrcIp frame) fits)
fits_to DstIp new frame fits = subst (Fitting new) (sym (value-rest DstIp frame)) (to_zeros new (value DstIp frame) fits)
fits_to SrcPort new frame fits = subst (Fitting new) (sym (value-rest SrcPort frame)) (to_zeros new (value SrcPort frame) fits)
fits_to DstPort new frame fits = subst (Fitting new) (sym (value-rest DstPort frame)) (to_zeros new (value DstPort frame) fits)
fits_to Payload new frame fits = subst (Fitting new) (sym (value-rest Payload frame)) (to_zeros new (value Payload frame) fits)

fits_from : (f : Field) (new frame : List ℕ) → Fits f new (rest_of frame) → Fits f new frame
fits_from Tag new frame fits = (sym (there-rest Tag frame) ∙ fits.0, fits.1)
fits_from LinkDst new frame fits = from_zeros new (value LinkDst frame) (subst (Fitting new) (value-rest LinkDst frame) fits)
fits_from LinkSrc new frame fits = from_zeros new (value LinkSrc frame) (subst (Fitting new) (value-rest LinkSrc frame) fits)
fits_from Tos new frame fits = from_zeros new (value Tos frame) (subst (Fitting new) (value-rest Tos frame) fits)
fits_from Ttl new frame fits = from_zeros new (value Ttl frame) (subst (Fitting new) (value-rest Ttl frame) fits)
fits_from SrcIp new frame fits = from_zeros new (value SrcIp frame) (subst (Fitting new) (value-rest SrcIp frame) fits)
fits_from DstIp new frame fits = from_zeros new (value DstIp frame) (subst (Fitting new) (value-rest DstIp frame) fits)
fits_from SrcPort new frame fits = from_zeros new (value SrcPort frame) (subst (Fitting new) (value-rest SrcPort frame) fits)
fits_from DstPort new frame fits = from_zeros new (value DstPort frame) (subst (Fitting new) (value-rest DstPort frame) fits)
fits_from Payload new frame fits = from_zeros new (value Payload frame) (subst (Fitting new) (value-rest Payload frame) fits)

some_to : (f : Field) (o : Option (List ℕ)) (frame : List ℕ) → IfSome o (λ new. Fits f new frame) → IfSome o (λ new. Fits f new (rest_of frame))
some_to f None frame fits = tt
some_to f (Some new) frame fits = fits_to f new frame fits

some_from : (f : Field) (o : Option (List ℕ)) (frame : List ℕ) → IfSome o (λ new. Fits f new (rest_of frame)) → IfSome o (λ new. Fits f new frame)
some_from f None frame fits = tt
some_from f (Some new) frame fits = fits_from f new frame fits

pub whole_to : (parts : Parts) (frame : List ℕ) → IsWhole parts frame → IsWhole parts (rest_of frame)
whole_to parts frame w = record {
  there = λ f. w.there f ∙ sym (there-rest f frame);
  fits = λ f. some_to f (values_of parts f) frame (w.fits f);
}

pub whole_from : (parts : Parts) (frame : List ℕ) → IsWhole parts (rest_of frame) → IsWhole parts frame
whole_from parts frame w = record {
  there = λ f. w.there f ∙ there-rest f frame;
  fits = λ f. some_from f (values_of parts f) frame (w.fits f);
}
