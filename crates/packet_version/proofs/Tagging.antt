-- Whole tags stay whole if one is put before them or taken away.
use Rattle.std.proofs.Common.{◌≡◌, ◌<◌, ◌≤◌, ◌+◌, ◌*◌, ℕ, true, List, [], ◌∷◌, ◌++◌, length, drop, arith, length-append, ap, subst, ◌∙◌}
use Rattle.std.specs.Prelude.{Option, Some, IsSomeAnd}
use Rattle.std.proofs.lemmas.Bool.{and_from, and_parts, false≢true}
use Rattle.packet_fields.specs.Frames.{is_tpid, is_tag_list, word}
use Rattle.packet_version.specs.Parts.{PlainPart, rewritten, AreTags}

pub tags_pushed : (tag bytes : List ℕ) → length tag ≡ 4 → is_tpid (word tag 0) ≡ true → is_tag_list bytes ≡ true → is_tag_list (tag ++ bytes) ≡ true
unfolding is_tag_list
tags_pushed (a ∷ b ∷ c ∷ d ∷ []) bytes len identified whole = and_from (is_tpid (a * 256 + b)) (is_tag_list bytes) identified whole
tags_pushed tag bytes len identified whole = absurd (omega arith)

pub first_tag : (bytes : List ℕ) → is_tag_list bytes ≡ true → 0 < length bytes → 4 ≤ length bytes
unfolding is_tag_list
first_tag [] whole some = absurd (omega arith)
first_tag (a ∷ b ∷ c ∷ d ∷ rest) whole some = omega arith
first_tag bytes whole some = absurd (false≢true whole)

pub tags_popped : (bytes : List ℕ) → is_tag_list bytes ≡ true → is_tag_list (drop 4 bytes) ≡ true
unfolding is_tag_list
tags_popped [] whole = whole
tags_popped (a ∷ b ∷ c ∷ d ∷ rest) whole = (and_parts (is_tpid (a * 256 + b)) (is_tag_list rest) whole).1
tags_popped bytes whole = absurd (false≢true whole)

-- a part after a tag was put before its others
pub part_pushed : (held : Option PlainPart) (p new : PlainPart) (tag : List ℕ) (writer : ℕ) → held ≡ Some p → new ≡ rewritten (tag ++ p.bytes) writer p → length new.bytes ≡ length p.bytes + 4 → is_tpid (word tag 0) ≡ true → AreTags held → is_tag_list new.bytes ≡ true
part_pushed held p new tag writer is made len identified tags =
    let whole : is_tag_list p.bytes ≡ true = subst AreTags is tags in
    let four : length tag ≡ 4 = omega (arith, length-append tag p.bytes, ap (λ (q : PlainPart). length q.bytes) made) in
    ap (λ (q : PlainPart). is_tag_list q.bytes) made ∙ tags_pushed tag p.bytes four identified whole

-- a part of tags that isn't empty has one
pub part_tagged : (held : Option PlainPart) (p : PlainPart) → held ≡ Some p → IsSomeAnd held (λ q. 0 < length q.bytes) → AreTags held → 4 ≤ length p.bytes
part_tagged held p is some tags =
    let whole : is_tag_list p.bytes ≡ true = subst AreTags is tags in
    let bytes : 0 < length p.bytes = subst (λ (o : Option PlainPart). IsSomeAnd o (λ q. 0 < length q.bytes)) is some in
    first_tag p.bytes whole bytes

-- a part after its first tag was taken away
pub part_popped : (held : Option PlainPart) (p new : PlainPart) (writer : ℕ) → held ≡ Some p → new ≡ rewritten (drop 4 p.bytes) writer p → AreTags held → is_tag_list new.bytes ≡ true
part_popped held p new writer is made tags =
    let whole : is_tag_list p.bytes ≡ true = subst AreTags is tags in
    ap (λ (q : PlainPart). is_tag_list q.bytes) made ∙ tags_popped p.bytes whole
