-- A frame split into its addresses, its tags and its packet, and joined from such parts.
use Rattle.std.proofs.Common.{◌≡◌, ◌≤◌, ◌+◌, ◌-◌, ◌*◌, ◌∙◌, ℕ, suc, List, [], ◌∷◌, ◌++◌, length, take, drop, length-drop, length-append, length-take-le, true, false, sym, ap, subst, refl, arith, ⊎_elim}
use Rattle.std.specs.Prelude.{Some, None, nat_le}
use Rattle.std.proofs.lemmas.Bool.{and_cases, and_parts, and_from, leb-false, le-leb, cond-true, cases_Bool, false≢true, and_right}
use Rattle.std.proofs.lemmas.List.{take-append-drop, drop-drop, take_at, drop_at}
use Rattle.packet_fields.specs.Frames.{word, is_tpid, is_tag_list, begins_tag, tags_len, type_at, packet_at, packet, tags_of, IsFramed}
use Rattle.packet_fields.proofs.TagWalk.{tags_len-tag, tags_len-other, tags_len-short, packet_at-long, tags_len-inside}

tags_len-none : (p : List ℕ) → begins_tag p ≡ false → tags_len p ≡ 0
tags_len-none p none =
    ⊎_elim (λ (short : nat_le 6 (length p) ≡ false). tags_len-short p (leb-false 6 (length p) short)) (λ (other : is_tpid (word p 0) ≡ false). tags_len-other p other) (and_cases (nat_le 6 (length p)) (is_tpid (word p 0)) none)

pub tags_len-append : (tags p : List ℕ) → is_tag_list tags ≡ true → 2 ≤ length p → begins_tag p ≡ false → tags_len (tags ++ p) ≡ length tags
unfolding is_tag_list
tags_len-append [] p whole room none = tags_len-none p none
tags_len-append (a ∷ b ∷ c ∷ d ∷ rest) p whole room none =
    let parts = and_parts (is_tpid (a * 256 + b)) (is_tag_list rest) whole in
    let more = tags_len-append rest p parts.1 room none in
    let long : 6 ≤ length (a ∷ b ∷ c ∷ d ∷ (rest ++ p)) = omega (arith, length-append rest p) in
    let step = tags_len-tag (a ∷ b ∷ c ∷ d ∷ (rest ++ p)) long parts.0 in
    omega arith
tags_len-append tags p whole room none = absurd (false≢true whole)

take_four : (a b c d : ℕ) (n m : ℕ) (xs : List ℕ) → m ≡ n + 4 → take m (a ∷ b ∷ c ∷ d ∷ xs) ≡ a ∷ b ∷ c ∷ d ∷ take n xs
take_four a b c d n m xs is = let e : m ≡ suc (suc (suc (suc n))) = omega arith in rw e refl

drop_four : (a b c d : ℕ) (n m : ℕ) (xs : List ℕ) → m ≡ n + 4 → drop m (a ∷ b ∷ c ∷ d ∷ xs) ≡ drop n xs
drop_four a b c d n m xs is = let e : m ≡ suc (suc (suc (suc n))) = omega arith in rw e refl

-- what the walk has passed and what is still ahead
pub record Splits (xs : List ℕ) : Type 0 where
  pub whole : is_tag_list (take (tags_len xs) xs) ≡ true
  pub ends : begins_tag (drop (tags_len xs) xs) ≡ false

splits_none : (xs : List ℕ) → tags_len xs ≡ 0 → begins_tag xs ≡ false → Splits xs
unfolding is_tag_list
splits_none xs none ends = record { whole = rw none refl; ends = rw none ends }

pub splits : (xs : List ℕ) → Splits xs
unfolding is_tag_list
splits (a ∷ b ∷ c ∷ d ∷ e ∷ f ∷ rest) =
    ⊎_elim
    (λ (tag : is_tpid (a * 256 + b) ≡ true).
    let xs = a ∷ b ∷ c ∷ d ∷ e ∷ f ∷ rest in
    let more = splits (e ∷ f ∷ rest) in
    let step : tags_len xs ≡ tags_len (e ∷ f ∷ rest) + 4 = tags_len-tag xs (omega arith) tag in
    record {
      whole = rw (take_four a b c d (tags_len (e ∷ f ∷ rest)) (tags_len xs) (e ∷ f ∷ rest) step) (and_from (is_tpid (a * 256 + b)) (is_tag_list (take (tags_len (e ∷ f ∷ rest)) (e ∷ f ∷ rest))) tag more.whole);
      ends = rw (drop_four a b c d (tags_len (e ∷ f ∷ rest)) (tags_len xs) (e ∷ f ∷ rest) step) more.ends;
    })
    (λ (other : is_tpid (a * 256 + b) ≡ false).
    let xs = a ∷ b ∷ c ∷ d ∷ e ∷ f ∷ rest in
    splits_none xs (tags_len-other xs other) (and_right (nat_le 6 (length xs)) (is_tpid (word xs 0)) other))
    (cases_Bool (is_tpid (a * 256 + b)))
splits xs = splits_none xs (tags_len-short xs (omega arith)) refl

pub packet-long : (frame : List ℕ) → 14 ≤ length frame → packet frame ≡ drop (tags_len (drop 12 frame)) (drop 12 frame)
packet-long frame long = ap (λ (n : ℕ). drop n frame) (packet_at-long frame long ∙ omega arith) ∙ sym (drop-drop (tags_len (drop 12 frame)) 12 frame)

pub framed : (frame : List ℕ) → 14 ≤ length frame → IsFramed (take 12 frame) (tags_of frame) (packet frame) frame
framed frame long =
    let s = splits (drop 12 frame) in
    let inside = tags_len-inside (drop 12 frame) (omega (arith, length-drop 12 frame)) in
    record {
      joined = sym (ap (λ (p : List ℕ). take 12 frame ++ (tags_of frame ++ p)) (packet-long frame long) ∙ (ap (λ (xs : List ℕ). take 12 frame ++ xs) (take-append-drop (tags_len (drop 12 frame)) (drop 12 frame)) ∙ take-append-drop 12 frame));
      addresses_len = length-take-le 12 frame (omega arith);
      whole_tags = s.whole;
      has_type = rw (packet-long frame long) (omega (arith, length-drop (tags_len (drop 12 frame)) (drop 12 frame)));
      ends = rw (packet-long frame long) s.ends;
    }

-- what holds for a frame that was joined from parts
pub record HasParts (addresses tags p frame : List ℕ) : Type 0 where
  pub long : 14 ≤ length frame
  pub place : packet_at frame ≡ length tags + 12
  pub type_place : type_at frame ≡ Some (length tags + 12)
  pub packet_is : packet frame ≡ p
  pub tags_are : tags_of frame ≡ tags
  pub addresses_are : take 12 frame ≡ addresses

pub parts : (addresses tags p frame : List ℕ) → IsFramed addresses tags p frame → HasParts addresses tags p frame
parts addresses tags p frame f =
    let long : 14 ≤ length frame = omega (arith, ap (λ (xs : List ℕ). length xs) f.joined, length-append addresses (tags ++ p), length-append tags p, f.addresses_len, f.has_type) in
    let behind : drop 12 frame ≡ tags ++ p = ap (λ (xs : List ℕ). drop 12 xs) f.joined ∙ drop_at addresses (tags ++ p) 12 f.addresses_len in
    let count : tags_len (drop 12 frame) ≡ length tags = ap (λ (xs : List ℕ). tags_len xs) behind ∙ tags_len-append tags p f.whole_tags f.has_type f.ends in
    record {
      long = long;
      place = packet_at-long frame long ∙ ap (λ (n : ℕ). n + 12) count;
      type_place = cond-true (nat_le 14 (length frame)) (Some (tags_len (drop 12 frame) + 12)) None (le-leb 14 (length frame) long) ∙ ap (λ (n : ℕ). Some (n + 12)) count;
      packet_is = packet-long frame long ∙ (ap (λ (n : ℕ). drop n (drop 12 frame)) count ∙ (ap (λ (xs : List ℕ). drop (length tags) xs) behind ∙ drop_at tags p (length tags) refl));
      tags_are = ap (λ (n : ℕ). take n (drop 12 frame)) count ∙ (ap (λ (xs : List ℕ). take (length tags) xs) behind ∙ take_at tags p (length tags) refl);
      addresses_are = ap (λ (xs : List ℕ). take 12 xs) f.joined ∙ take_at addresses (tags ++ p) 12 f.addresses_len;
    }

-- the bytes between the addresses and the packet are whole tags
pub tags_whole : (frame : List ℕ) (n : ℕ) → 14 ≤ length frame → n ≡ packet_at frame → is_tag_list (take (n - 12) (drop 12 frame)) ≡ true
tags_whole frame n long is =
    let count : n - 12 ≡ tags_len (drop 12 frame) = omega (arith, packet_at-long frame long) in
    rw count (framed frame long).whole_tags

-- the bytes between the addresses and the packet are the frame's tags
pub framed_between : (frame : List ℕ) (n : ℕ) → 14 ≤ length frame → n ≡ packet_at frame → IsFramed (take 12 frame) (take (n - 12) (drop 12 frame)) (packet frame) frame
framed_between frame n long is =
    let count : n - 12 ≡ tags_len (drop 12 frame) = omega (arith, packet_at-long frame long) in
    subst (λ (k : ℕ). IsFramed (take 12 frame) (take k (drop 12 frame)) (packet frame) frame) (sym count) (framed frame long)
