-- What a view shows, and a field whose bytes are lent for writing.
use Rattle.std.proofs.Common.{◌≡◌, ◌≢◌, ◌∙◌, ◌<◌, ℕ, true, false, List, length, sym, ap, refl, subst, get_or, set}
use Rattle.std.specs.Prelude.{Option, Some, None, IsSome, IfSome, IsSomeAnd, is_some, option_map}
use Rattle.std.proofs.lemmas.Bool.{false≢true}
use Rattle.packet_fields.specs.Fields.{number_of}
use Rattle.packet_fields.specs.declared.field.Field.{Field}
use Rattle.packet_fields.specs.declared.field.Field.TheVariants.{Tag}
use Rattle.action_profile.specs.Modes.{has_write}
use Rattle.action_profile.specs.Profiles.{writes_of}
use Rattle.action_profile.specs.declared.parts.Touch.{Touch}
use Rattle.action_profile.specs.declared.rights.Profile.{Profile}
use Rattle.chain_walk.specs.declared.fixed.Fixed.{Fixed}
use Rattle.packet_version.specs.declared.loan.Loan.{Loan}
use Rattle.packet_version.specs.Parts.{PlainPart, PlainHeld, Parts, as_map, rewritten, IsPartOf}
use Rattle.packet_version.specs.Versions.{names, lent_parts, had_in, IsHad}
use Rattle.packet_version.specs.Views.{IsView, PlainView, seen_parts, seen_values, wrote}
use Rattle.packet_version.specs.Lending.{edited, left_there}
use Rattle.packet_version.specs.ViewLending.{left}
use Rattle.packet_version.proofs.Forming.{edited_formed}
use Rattle.packet_version.proofs.Maps.{as_map-listed}
use Rattle.packet_version.proofs.PartsOfBranch.{IsChanged, view_of, with_seen, had_as, had_lent, own_read, own_inside, within_read, within_lent, put_seen, put_seen_within, changed_to, within_on, within_formed}

-- if a branch has the packet, or doesn't
pub view_as : (within now : Option PlainHeld) (own : List (Option PlainPart)) (lent : Option (Loan PlainHeld)) (touch : Touch) (fixed : Fixed) (profile : Profile) (position : ℕ) (old : PlainView) → within ≡ now → view_of within own lent touch fixed profile position ≡ old → view_of now own lent touch fixed profile position ≡ old
view_as within now own lent touch fixed profile position old is old_is = subst (λ (w : Option PlainHeld). view_of w own lent touch fixed profile position ≡ old) is old_is

pub is_view_as : (profile : Profile) (touch : Touch) (within now : Option PlainHeld) (own : List (Option PlainPart)) (lent : Option (Loan PlainHeld)) → within ≡ now → IsView profile touch within own lent → IsView profile touch now own lent
is_view_as profile touch within now own lent is v = subst (λ (w : Option PlainHeld). IsView profile touch w own lent) is v

-- a field that the function writes is one that its branch writes
pub view_writes : (within : Option PlainHeld) (own : List (Option PlainPart)) (lent : Option (Loan PlainHeld)) (f : Field) (touch : Touch) (fixed : Fixed) (profile : Profile) (position : ℕ) (old : PlainView) → writes_of old.profile f ≡ true → IsView profile touch within own lent → view_of within own lent touch fixed profile position ≡ old → has_write f touch ≡ true
view_writes within own lent f touch fixed profile position old written v old_is = v.holds.written f (ap (λ (w : PlainView). writes_of w.profile f) old_is ∙ written)

seen_had : (within : Option PlainHeld) (own : List (Option PlainPart)) (lent : Option (Loan PlainHeld)) (f : Field) (touch : Touch) (fixed : Fixed) (profile : Profile) (position : ℕ) (old : PlainView) → view_of within own lent touch fixed profile position ≡ old → seen_parts old f ≡ had_in touch within own lent f
seen_had within own lent f touch fixed profile position old old_is =
    sym (ap (λ (x : PlainView). seen_parts x f) old_is) ∙ ap (λ (m : Parts). m f) (as_map-listed (had_in touch within own lent))

-- the part that was read in the place of a field that the branch writes
pub seen_own : (own : List (Option PlainPart)) (lent : Option (Loan PlainHeld)) (n : ℕ) (f : Field) (o : Option PlainPart) (touch : Touch) (fixed : Fixed) (profile : Profile) (position : ℕ) (old : PlainView) → o ≡ get_or own n o → n ≡ number_of f → n < 10 → has_write f touch ≡ true → IsView profile touch None own lent → view_of None own lent touch fixed profile position ≡ old → seen_parts old f ≡ o
seen_own own lent n f o touch fixed profile position old read is below w v old_is =
    seen_had None own lent f touch fixed profile position old old_is ∙ own_read touch own lent n f o read is below w v.had

-- or in the packet
pub seen_within : (held : PlainHeld) (own : List (Option PlainPart)) (lent : Option (Loan PlainHeld)) (f : Field) (touch : Touch) (fixed : Fixed) (profile : Profile) (position : ℕ) (old : PlainView) → has_write f touch ≡ true → view_of (Some held) own lent touch fixed profile position ≡ old → seen_parts old f ≡ as_map held.parts f
seen_within held own lent f touch fixed profile position old w old_is =
    seen_had (Some held) own lent f touch fixed profile position old old_is ∙ within_read touch held own lent f w

-- the lent part of another that the function names
pub seen_lent : (own : List (Option PlainPart)) (lent : Option (Loan PlainHeld)) (f : Field) (touch : Touch) (fixed : Fixed) (profile : Profile) (position : ℕ) (old : PlainView) → names old.profile f ≡ true → has_write f touch ≡ false → IsView profile touch None own lent → view_of None own lent touch fixed profile position ≡ old → seen_parts old f ≡ lent_parts lent f
seen_lent own lent f touch fixed profile position old named w v old_is =
    seen_had None own lent f touch fixed profile position old old_is
    ∙ had_lent touch (as_map own) (lent_parts lent) f (v.holds.touched f (ap (λ (x : PlainView). names x.profile f) old_is ∙ named)) w

-- the packet's part of a field that the function names, if its branch writes in the packet
pub seen_named : (held : PlainHeld) (own : List (Option PlainPart)) (lent : Option (Loan PlainHeld)) (f : Field) (touch : Touch) (fixed : Fixed) (profile : Profile) (position : ℕ) (old : PlainView) → names old.profile f ≡ true → IsView profile touch (Some held) own lent → view_of (Some held) own lent touch fixed profile position ≡ old → seen_parts old f ≡ as_map held.parts f
seen_named held own lent f touch fixed profile position old named v old_is =
    seen_had (Some held) own lent f touch fixed profile position old old_is
    ∙ within_lent touch held own lent f (v.holds.touched f (ap (λ (x : PlainView). names x.profile f) old_is ∙ named))

-- each part that a view shows is its field's
pub seen_formed : (within : Option PlainHeld) (own : List (Option PlainPart)) (lent : Option (Loan PlainHeld)) (touch : Touch) (fixed : Fixed) (profile : Profile) (position : ℕ) (old : PlainView) → IsView profile touch within own lent → view_of within own lent touch fixed profile position ≡ old → (f : Field) → IsPartOf f (seen_parts old f)
seen_formed within own lent touch fixed profile position old v old_is f = subst (IsPartOf f) (sym (seen_had within own lent f touch fixed profile position old old_is)) (v.had.formed f)

left_as : (f : Field) (o : Option PlainPart) (bytes : List ℕ) (position : ℕ) (old : PlainView) → position ≡ old.position → seen_parts old f ≡ o → with_seen f (option_map (edited bytes position) o) old ≡ left f bytes old
left_as f o bytes position old at is =
    ap (λ (p : Option PlainPart). with_seen f p old)
    (ap (λ (k : ℕ). option_map (edited bytes k) o) at ∙ ap (λ (p : Option PlainPart). option_map (edited bytes old.position) p) (sym is))

-- the view after these bytes were left
pub left_seen : (own : List (Option PlainPart)) (lent : Option (Loan PlainHeld)) (n : ℕ) (f : Field) (o : Option PlainPart) (bytes : List ℕ) (touch : Touch) (fixed : Fixed) (profile : Profile) (position : ℕ) (old : PlainView) → o ≡ get_or own n o → n ≡ number_of f → n < 10 → has_write f touch ≡ true → IsView profile touch None own lent → view_of None own lent touch fixed profile position ≡ old → view_of None (set own n (option_map (edited bytes position) o)) lent touch fixed profile position ≡ left f bytes old
left_seen own lent n f o bytes touch fixed profile position old read is below w v old_is =
    put_seen own lent n f (option_map (edited bytes position) o) touch fixed profile position old is (own_inside touch own lent n f below w v.had) w old_is
    ∙ left_as f o bytes position old (ap (λ (x : PlainView). x.position) old_is) (seen_own own lent n f o touch fixed profile position old read is below w v old_is)

-- and the view in whose packet they were left
pub left_seen_within : (held : PlainHeld) (own : List (Option PlainPart)) (lent : Option (Loan PlainHeld)) (f : Field) (bytes : List ℕ) (touch : Touch) (fixed : Fixed) (profile : Profile) (position : ℕ) (old : PlainView) → has_write f touch ≡ true → view_of (Some held) own lent touch fixed profile position ≡ old → view_of (Some (left_there f bytes position held)) own lent touch fixed profile position ≡ left f bytes old
left_seen_within held own lent f bytes touch fixed profile position old w old_is =
    put_seen_within own lent held (left_there f bytes position held) f (option_map (edited bytes position) (as_map held.parts f)) touch fixed profile position old (changed_to f (option_map (edited bytes position) (as_map held.parts f)) held (left_there f bytes position held) refl) w old_is
    ∙ left_as f (as_map held.parts f) bytes position old (ap (λ (x : PlainView). x.position) old_is) (seen_within held own lent f touch fixed profile position old w old_is)

-- an own part, or none, was put into its place, beside the packet
pub put_seen_beside : (within : Option PlainHeld) (own : List (Option PlainPart)) (lent : Option (Loan PlainHeld)) (n : ℕ) (f : Field) (o : Option PlainPart) (touch : Touch) (fixed : Fixed) (profile : Profile) (position : ℕ) (old : PlainView) → within ≡ None → n ≡ number_of f → n < 10 → has_write f touch ≡ true → IsView profile touch within own lent → view_of within own lent touch fixed profile position ≡ old → view_of within (set own n o) lent touch fixed profile position ≡ with_seen f o old
put_seen_beside within own lent n f o touch fixed profile position old none is below w v old_is =
    view_as None within (set own n o) lent touch fixed profile position (with_seen f o old) (sym none)
    (put_seen own lent n f o touch fixed profile position old is (own_inside touch own lent n f below w (had_as touch within None own lent none v.had)) w (view_as within None own lent touch fixed profile position old none old_is))

-- the part that was read there
pub seen_beside : (within : Option PlainHeld) (own : List (Option PlainPart)) (lent : Option (Loan PlainHeld)) (n : ℕ) (f : Field) (o : Option PlainPart) (touch : Touch) (fixed : Fixed) (profile : Profile) (position : ℕ) (old : PlainView) → within ≡ None → o ≡ get_or own n o → n ≡ number_of f → n < 10 → has_write f touch ≡ true → IsView profile touch within own lent → view_of within own lent touch fixed profile position ≡ old → seen_parts old f ≡ o
seen_beside within own lent n f o touch fixed profile position old none read is below w v old_is =
    seen_own own lent n f o touch fixed profile position old read is below w (is_view_as profile touch within None own lent none v) (view_as within None own lent touch fixed profile position old none old_is)

-- and in the packet
pub seen_in_packet : (within : Option PlainHeld) (held : PlainHeld) (own : List (Option PlainPart)) (lent : Option (Loan PlainHeld)) (f : Field) (touch : Touch) (fixed : Fixed) (profile : Profile) (position : ℕ) (old : PlainView) → within ≡ Some held → has_write f touch ≡ true → view_of within own lent touch fixed profile position ≡ old → seen_parts old f ≡ as_map held.parts f
seen_in_packet within held own lent f touch fixed profile position old is w old_is = seen_within held own lent f touch fixed profile position old w (view_as within (Some held) own lent touch fixed profile position old is old_is)

wrote_as : (f : Field) (o : Option PlainPart) (bytes : List ℕ) (position : ℕ) (old : PlainView) → position ≡ old.position → seen_parts old f ≡ o → with_seen f (option_map (rewritten bytes position) o) old ≡ wrote f bytes old
wrote_as f o bytes position old at is =
    ap (λ (p : Option PlainPart). with_seen f p old)
    (ap (λ (k : ℕ). option_map (rewritten bytes k) o) at ∙ ap (λ (p : Option PlainPart). option_map (rewritten bytes old.position) p) (sym is))

-- a field was written beside the packet
pub wrote_beside : (within : Option PlainHeld) (own : List (Option PlainPart)) (lent : Option (Loan PlainHeld)) (n : ℕ) (f : Field) (o new : Option PlainPart) (bytes : List ℕ) (touch : Touch) (fixed : Fixed) (profile : Profile) (position : ℕ) (old : PlainView) → within ≡ None → o ≡ get_or own n o → new ≡ option_map (rewritten bytes position) o → n ≡ number_of f → n < 10 → has_write f touch ≡ true → IsView profile touch within own lent → view_of within own lent touch fixed profile position ≡ old → view_of within (set own n new) lent touch fixed profile position ≡ wrote f bytes old
wrote_beside within own lent n f o new bytes touch fixed profile position old none read made is below w v old_is =
    put_seen_beside within own lent n f new touch fixed profile position old none is below w v old_is
    ∙ (ap (λ (p : Option PlainPart). with_seen f p old) made
    ∙ wrote_as f o bytes position old (ap (λ (x : PlainView). x.position) old_is) (seen_beside within own lent n f o touch fixed profile position old none read is below w v old_is))

-- and in the packet
pub wrote_in_packet : (within : Option PlainHeld) (own : List (Option PlainPart)) (lent : Option (Loan PlainHeld)) (held new : PlainHeld) (f : Field) (bytes : List ℕ) (touch : Touch) (fixed : Fixed) (profile : Profile) (position : ℕ) (old : PlainView) → within ≡ Some held → IsChanged f (option_map (rewritten bytes position) (as_map held.parts f)) held new → has_write f touch ≡ true → view_of within own lent touch fixed profile position ≡ old → view_of (Some new) own lent touch fixed profile position ≡ wrote f bytes old
wrote_in_packet within own lent held new f bytes touch fixed profile position old some made w old_is =
    put_seen_within own lent held new f (option_map (rewritten bytes position) (as_map held.parts f)) touch fixed profile position old made w (view_as within (Some held) own lent touch fixed profile position old some old_is)
    ∙ wrote_as f (as_map held.parts f) bytes position old (ap (λ (x : PlainView). x.position) old_is) (seen_in_packet within held own lent f touch fixed profile position old some w old_is)

-- new bytes that fit the field fit the part that was read
pub fits_seen : (o p : Option PlainPart) (new : List ℕ) → p ≡ o → IsSomeAnd (option_map (λ q. q.bytes) p) (λ old. length new ≡ length old) → IsSomeAnd o (λ q. length new ≡ length q.bytes)
fits_seen None p new is fits = subst (λ (r : Option PlainPart). IsSomeAnd (option_map (λ q. q.bytes) r) (λ old. length new ≡ length old)) is fits
fits_seen (Some q) p new is fits = subst (λ (r : Option PlainPart). IsSomeAnd (option_map (λ q. q.bytes) r) (λ old. length new ≡ length old)) is fits

pub values_fit : (o p : Option PlainPart) (new : List ℕ) → p ≡ o → IsSomeAnd (option_map (λ q. q.bytes) p) (λ old. length new ≡ length old) → IsSomeAnd (option_map (λ q. q.bytes) o) (λ old. length new ≡ length old)
values_fit o p new is fits = subst (λ (r : Option PlainPart). IsSomeAnd (option_map (λ q. q.bytes) r) (λ old. length new ≡ length old)) is fits

bytes_there : (o : Option PlainPart) (r : List ℕ) → IsSome o → IfSome o (λ p. r ≡ p.bytes) → option_map (λ p. p.bytes) o ≡ Some r
bytes_there None r there same = absurd (cc)
bytes_there (Some p) r there same = ap (λ (b : List ℕ). Some b) (sym same)

-- the bytes that are lent are the field's
pub lent_seen : (f : Field) (o : Option PlainPart) (r : List ℕ) (old : PlainView) → seen_parts old f ≡ o → IsSome (seen_parts old f) → IfSome o (λ p. r ≡ p.bytes) → seen_values old f ≡ Some r
lent_seen f o r old is there same = bytes_there (seen_parts old f) r there (subst (λ (p : Option PlainPart). IfSome p (λ q. r ≡ q.bytes)) (sym is) same)

pub not_some : (within : Option PlainHeld) → is_some within ≡ false → within ≡ None
not_some None e = refl
not_some (Some held) e = absurd (false≢true (sym e))

-- bytes that were left in the packet
pub had_left : (touch : Touch) (within : Option PlainHeld) (own : List (Option PlainPart)) (lent : Option (Loan PlainHeld)) (f : Field) (new : List ℕ) (position : ℕ) → is_some within ≡ true → f ≢ Tag → has_write f touch ≡ true → IsHad touch within own lent → IsHad touch (option_map (left_there f new position) within) own lent
had_left touch None own lent f new position some not_tag w h = absurd (false≢true some)
had_left touch (Some held) own lent f new position some not_tag w h =
    let part = option_map (edited new position) (as_map held.parts f) in
    within_on touch own lent held (left_there f new position held) f part (changed_to f part held (left_there f new position held) refl) w (edited_formed f (as_map held.parts f) new position not_tag (within_formed touch (Some held) held own lent f refl w h)) h

pub left_in_packet : (within : Option PlainHeld) (own : List (Option PlainPart)) (lent : Option (Loan PlainHeld)) (f : Field) (bytes : List ℕ) (touch : Touch) (fixed : Fixed) (profile : Profile) (position : ℕ) (old : PlainView) → is_some within ≡ true → has_write f touch ≡ true → view_of within own lent touch fixed profile position ≡ old → view_of (option_map (left_there f bytes position) within) own lent touch fixed profile position ≡ left f bytes old
left_in_packet None own lent f bytes touch fixed profile position old some w old_is = absurd (false≢true some)
left_in_packet (Some held) own lent f bytes touch fixed profile position old some w old_is = left_seen_within held own lent f bytes touch fixed profile position old w old_is

pub lent_in_packet : (within : Option PlainHeld) (own : List (Option PlainPart)) (lent : Option (Loan PlainHeld)) (f : Field) (r : List ℕ) (touch : Touch) (fixed : Fixed) (profile : Profile) (position : ℕ) (old : PlainView) → is_some within ≡ true → has_write f touch ≡ true → IfSome within (λ held. option_map (λ p. p.bytes) (as_map held.parts f) ≡ Some r) → view_of within own lent touch fixed profile position ≡ old → seen_values old f ≡ Some r
lent_in_packet None own lent f r touch fixed profile position old some w same old_is = absurd (false≢true some)
lent_in_packet (Some held) own lent f r touch fixed profile position old some w same old_is =
    ap (λ (o : Option PlainPart). option_map (λ p. p.bytes) o) (seen_within held own lent f touch fixed profile position old w old_is) ∙ same

-- bytes that were left beside it
pub left_beside : (within : Option PlainHeld) (own : List (Option PlainPart)) (lent : Option (Loan PlainHeld)) (n : ℕ) (f : Field) (o : Option PlainPart) (bytes : List ℕ) (touch : Touch) (fixed : Fixed) (profile : Profile) (position : ℕ) (old : PlainView) → within ≡ None → o ≡ get_or own n o → n ≡ number_of f → n < 10 → has_write f touch ≡ true → IsView profile touch within own lent → view_of within own lent touch fixed profile position ≡ old → view_of within (set own n (option_map (edited bytes position) o)) lent touch fixed profile position ≡ left f bytes old
left_beside within own lent n f o bytes touch fixed profile position old none read is below w v old_is =
    view_as None within (set own n (option_map (edited bytes position) o)) lent touch fixed profile position (left f bytes old) (sym none)
    (left_seen own lent n f o bytes touch fixed profile position old read is below w (is_view_as profile touch within None own lent none v) (view_as within None own lent touch fixed profile position old none old_is))
