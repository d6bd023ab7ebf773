-- The form of values that the fields of a frame have.
use Rattle.std.proofs.Common.{◌≡◌, ◌≤◌, ℕ, ◌+◌, ◌*◌, ◌%◌, List, [], ◌∷◌, length, drop, length-drop, length-take-le, true, refl, sym, subst, arith}
use Rattle.std.specs.Prelude.{Option, Some, None, IfSome, IsSomeAnd, if◌then◌else◌, option_map}
use Rattle.std.specs.Option.{option_or}
use Rattle.std.proofs.lemmas.Bool.{and_parts}
use Rattle.packet_fields.specs.Frames.{is_tpid, is_tag_list}
use Rattle.packet_fields.specs.Fields.{span, bytes_at, value, IsLengthOf}
use Rattle.packet_fields.specs.declared.plan.Span.{Span}
use Rattle.packet_fields.specs.Writing.{Fits, AllFit, fields_of, over}
use Rattle.packet_fields.specs.declared.field.Field.{Field}
use Rattle.packet_fields.specs.declared.field.Field.TheVariants.{LinkDst, LinkSrc, Tag, Tos, Ttl, SrcIp, DstIp, SrcPort, DstPort, Payload}
use Rattle.packet_fields.proofs.Spans.{span-inside, span-len}
use Rattle.packet_fields.proofs.Walk.{fields_fit}
use Rattle.chain_walk.specs.Shown.{Values, AreWellFormed}
use Rattle.chain_walk.specs.Step.{Behaviour, stepped}
use Rattle.chain_walk.specs.Laws.{KeepsProfile}
use Rattle.chain_walk.specs.declared.fixed.Fixed.{Fixed}

pub old_tags : (old : Option (List ℕ)) (frame : List ℕ) → IfSome old (λ o. Fits Tag o frame) → IfSome old (λ o. is_tag_list o ≡ true)
old_tags None frame fits = tt
old_tags (Some o) frame fits = fits.1

-- a value of a frame has its field's length
value_span : (f : Field) (frame : List ℕ) (o : Option Span) → span f frame ≡ o → IfSome o (λ s. s.at + s.len ≤ length frame) → IfSome o (λ s. IsLengthOf f s.len) →
    IfSome (option_map (bytes_at frame) o) (λ bytes. IsLengthOf f (length bytes))
value_span f frame None is inside has = tt
value_span f frame (Some s) is inside has = subst (IsLengthOf f) (sym (length-take-le s.len (drop s.at frame) (omega (arith, length-drop s.at frame)))) has

value_length : (f : Field) (frame : List ℕ) → IfSome (value f frame) (λ bytes. IsLengthOf f (length bytes))
value_length f frame = value_span f frame (span f frame) refl (span-inside f frame) (span-len f frame)

-- bytes that fit a field's place have its length
by_length : (f : Field) (old own : Option (List ℕ)) → IfSome own (λ w. IsLengthOf f (length w)) → IfSome old (λ o. IsSomeAnd own (λ w. length o ≡ length w)) → IfSome old (λ o. IsLengthOf f (length o))
by_length f None own has fits = tt
by_length f (Some o) None has fits = absurd fits
by_length f (Some o) (Some w) has fits = subst (IsLengthOf f) (sym fits) has

-- the length of whole tags is a multiple of four bytes
pub whole_tags : (tags : List ℕ) → is_tag_list tags ≡ true → length tags % 4 ≡ 0
unfolding is_tag_list
whole_tags [] e = refl
whole_tags (a ∷ b ∷ c ∷ d ∷ rest) e = omega (arith, whole_tags rest (and_parts (is_tpid (a * 256 + b)) (is_tag_list rest) e).1)
whole_tags (a ∷ []) e = absurd cc
whole_tags (a ∷ b ∷ []) e = absurd cc
whole_tags (a ∷ b ∷ c ∷ []) e = absurd cc

tags_length : (old : Option (List ℕ)) → IfSome old (λ o. is_tag_list o ≡ true) → IfSome old (λ o. length o % 4 ≡ 0)
tags_length None whole = tt
tags_length (Some o) whole = whole_tags o whole

pub old_length : (f : Field) (old : Option (List ℕ)) (frame : List ℕ) → IfSome old (λ o. Fits f o frame) → IfSome old (λ o. IsLengthOf f (length o))
old_length Tag old frame fits = tags_length old (old_tags old frame fits)
old_length LinkDst old frame fits = by_length LinkDst old (value LinkDst frame) (value_length LinkDst frame) fits
old_length LinkSrc old frame fits = by_length LinkSrc old (value LinkSrc frame) (value_length LinkSrc frame) fits
old_length Tos old frame fits = by_length Tos old (value Tos frame) (value_length Tos frame) fits
old_length Ttl old frame fits = by_length Ttl old (value Ttl frame) (value_length Ttl frame) fits
old_length SrcIp old frame fits = by_length SrcIp old (value SrcIp frame) (value_length SrcIp frame) fits
old_length DstIp old frame fits = by_length DstIp old (value DstIp frame) (value_length DstIp frame) fits
old_length SrcPort old frame fits = by_length SrcPort old (value SrcPort frame) (value_length SrcPort frame) fits
old_length DstPort old frame fits = by_length DstPort old (value DstPort frame) (value_length DstPort frame) fits
old_length Payload old frame fits = by_length Payload old (value Payload frame) (value_length Payload frame) fits

-- what fits a frame has the form of a frame's fields
pub form_by_fit : (values : Values) (frame : List ℕ) → AllFit values frame → AreWellFormed values
form_by_fit values frame fits = record {
  lengths = λ f. old_length f (values f) frame (fits f);
  tags = old_tags (values Tag) frame (fits Tag);
}

-- what a step writes keeps the form of its values
kept_length : (x : Field) (new old : Option (List ℕ)) → IfSome old (λ o. IsLengthOf x (length o)) → IfSome new (λ n. IsSomeAnd old (λ o. length n ≡ length o)) →
    IfSome (option_or new old) (λ n. IsLengthOf x (length n))
kept_length x None old has same = has
kept_length x (Some n) None has same = absurd same
kept_length x (Some n) (Some o) has same = subst (IsLengthOf x) (sym same) has

kept_tags : (new old : Option (List ℕ)) (P : List ℕ → List ℕ → Type 0) → IfSome old (λ o. is_tag_list o ≡ true) → IfSome new (λ n. (is_tag_list n ≡ true) × IsSomeAnd old (P n)) →
    IfSome (option_or new old) (λ n. is_tag_list n ≡ true)
kept_tags None old P whole are = whole
kept_tags (Some n) old P whole are = are.0

step_tags : {F : Type 0} (b : Behaviour F) (fixed : Fixed) (f : F) (values : Values) → KeepsProfile b → AreWellFormed values →
    IfSome (over (stepped b fixed f values).written values Tag) (λ tags. is_tag_list tags ≡ true)
step_tags b fixed f values keeps formed =
    kept_tags ((stepped b fixed f values).written Tag) (values Tag) (λ n o. length n ≤ length o + (if (b.profile f).adds then 4 else 0)) formed.tags (keeps.tags fixed f values formed.tags)

step_lengths : {F : Type 0} (b : Behaviour F) (fixed : Fixed) (f : F) (values : Values) → KeepsProfile b → AreWellFormed values → (x : Field) →
    IfSome (over (stepped b fixed f values).written values x) (λ bytes. IsLengthOf x (length bytes))
step_lengths b fixed f values keeps formed Tag = tags_length (over (stepped b fixed f values).written values Tag) (step_tags b fixed f values keeps formed)
step_lengths b fixed f values keeps formed LinkDst = kept_length LinkDst ((stepped b fixed f values).written LinkDst) (values LinkDst) (formed.lengths LinkDst) (keeps.lengths fixed f values LinkDst (λ e. cc) (formed.lengths LinkDst))
step_lengths b fixed f values keeps formed LinkSrc = kept_length LinkSrc ((stepped b fixed f values).written LinkSrc) (values LinkSrc) (formed.lengths LinkSrc) (keeps.lengths fixed f values LinkSrc (λ e. cc) (formed.lengths LinkSrc))
step_lengths b fixed f values keeps formed Tos = kept_length Tos ((stepped b fixed f values).written Tos) (values Tos) (formed.lengths Tos) (keeps.lengths fixed f values Tos (λ e. cc) (formed.lengths Tos))
step_lengths b fixed f values keeps formed Ttl = kept_length Ttl ((stepped b fixed f values).written Ttl) (values Ttl) (formed.lengths Ttl) (keeps.lengths fixed f values Ttl (λ e. cc) (formed.lengths Ttl))
step_lengths b fixed f values keeps formed SrcIp = kept_length SrcIp ((stepped b fixed f values).written SrcIp) (values SrcIp) (formed.lengths SrcIp) (keeps.lengths fixed f values SrcIp (λ e. cc) (formed.lengths SrcIp))
step_lengths b fixed f values keeps formed DstIp = kept_length DstIp ((stepped b fixed f values).written DstIp) (values DstIp) (formed.lengths DstIp) (keeps.lengths fixed f values DstIp (λ e. cc) (formed.lengths DstIp))
step_lengths b fixed f values keeps formed SrcPort = kept_length SrcPort ((stepped b fixed f values).written SrcPort) (values SrcPort) (formed.lengths SrcPort) (keeps.lengths fixed f values SrcPort (λ e. cc) (formed.lengths SrcPort))
step_lengths b fixed f values keeps formed DstPort = kept_length DstPort ((stepped b fixed f values).written DstPort) (values DstPort) (formed.lengths DstPort) (keeps.lengths fixed f values DstPort (λ e. cc) (formed.lengths DstPort))
step_lengths b fixed f values keeps formed Payload = kept_length Payload ((stepped b fixed f values).written Payload) (values Payload) (formed.lengths Payload) (keeps.lengths fixed f values Payload (λ e. cc) (formed.lengths Payload))

pub step_formed : {F : Type 0} (b : Behaviour F) (fixed : Fixed) (f : F) (values : Values) → KeepsProfile b → AreWellFormed values →
    AreWellFormed (over (stepped b fixed f values).written values)
step_formed b fixed f values keeps formed = record {
  lengths = step_lengths b fixed f values keeps formed;
  tags = step_tags b fixed f values keeps formed;
}

pub frame_formed : (frame : List ℕ) → AreWellFormed (fields_of frame)
frame_formed frame = form_by_fit (fields_of frame) frame (fields_fit frame)
