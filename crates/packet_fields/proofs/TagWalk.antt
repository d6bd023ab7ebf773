-- The steps of the walk over the tags.
use Rattle.std.proofs.Common.{◌≡◌, ◌≤◌, ◌<◌, ◌+◌, ◌*◌, ◌-◌, ℕ, List, ◌∷◌, length, drop, get_or, length-drop, refl, arith, true, false, ⊎_elim, ◌%◌}
use Rattle.std.proofs.lemmas.Bool.{cond-true, cond-false, le-leb, lt-leb, cond_both, cases_lt}
use Rattle.packet_fields.specs.Frames.{is_tpid, tags_len, packet_at}

-- what the walk over a frame keeps
pub record IsAtTags (frame rest : List ℕ) : Type 0 where
  pub behind : length rest + 12 ≤ length frame
  pub room : 2 ≤ length rest
  pub same : tags_len rest + (length frame - length rest) ≡ tags_len (drop 12 frame) + 12

pub tags_len-tag : (xs : List ℕ) → 6 ≤ length xs → is_tpid (get_or xs 0 0 * 256 + get_or xs 1 0) ≡ true → tags_len xs ≡ tags_len (drop 4 xs) + 4
unfolding tags_len
tags_len-tag (a ∷ b ∷ c ∷ d ∷ e ∷ f ∷ rest) long tag = rw tag refl
tags_len-tag xs long tag = absurd (omega arith)

pub tags_len-other : (xs : List ℕ) → is_tpid (get_or xs 0 0 * 256 + get_or xs 1 0) ≡ false → tags_len xs ≡ 0
unfolding tags_len
tags_len-other (a ∷ b ∷ c ∷ d ∷ e ∷ f ∷ rest) other = rw other refl
tags_len-other xs other = refl

pub tags_len-short : (xs : List ℕ) → length xs < 6 → tags_len xs ≡ 0
unfolding tags_len
tags_len-short (a ∷ b ∷ c ∷ d ∷ e ∷ f ∷ rest) short = absurd (omega arith)
tags_len-short xs short = refl

pub at_tags_more : (frame rest : List ℕ) → IsAtTags frame rest → 6 ≤ length rest → is_tpid (get_or rest 0 0 * 256 + get_or rest 1 0) ≡ true → IsAtTags frame (drop 4 rest)
at_tags_more frame rest at long tag = record {
  behind = omega (arith, length-drop 4 rest, at.behind);
  room = omega (arith, length-drop 4 rest);
  same = omega (arith, length-drop 4 rest, tags_len-tag rest long tag, at.same, at.behind);
}

pub packet_at-long : (frame : List ℕ) → 14 ≤ length frame → packet_at frame ≡ tags_len (drop 12 frame) + 12
packet_at-long frame long = cond-true _ _ _ (le-leb 14 (length frame) long)

pub packet_at-short : (frame : List ℕ) → length frame < 14 → packet_at frame ≡ length frame
packet_at-short frame short = cond-false _ _ _ (lt-leb 14 (length frame) short)

-- if a frame has an EtherType, it follows the addresses, and its two bytes are captured
pub record HasType (frame : List ℕ) : Type 0 where
  pub long : 14 ≤ length frame
  pub same : packet_at frame ≡ tags_len (drop 12 frame) + 12
  pub room : packet_at frame + 2 ≤ length frame

pub tags_len-inside : (xs : List ℕ) → 2 ≤ length xs → tags_len xs + 2 ≤ length xs
unfolding tags_len
tags_len-inside (a ∷ b ∷ c ∷ d ∷ e ∷ f ∷ rest) long =
    cond_both (is_tpid (a * 256 + b)) _ 0 (λ n. n + 2 ≤ length (a ∷ b ∷ c ∷ d ∷ e ∷ f ∷ rest)) (λ _. omega (arith, tags_len-inside (e ∷ f ∷ rest) (omega arith))) (λ _. omega arith)
tags_len-inside xs long = omega arith

pub tags_len-whole : (xs : List ℕ) → tags_len xs % 4 ≡ 0
unfolding tags_len
tags_len-whole (a ∷ b ∷ c ∷ d ∷ e ∷ f ∷ rest) =
    cond_both (is_tpid (a * 256 + b)) _ 0 (λ n. n % 4 ≡ 0) (λ _. omega (arith, tags_len-whole (e ∷ f ∷ rest))) (λ _. refl)
tags_len-whole xs = refl

pub has_type : (frame : List ℕ) → 14 ≤ length frame → HasType frame
has_type frame long = record {
  long = long;
  same = packet_at-long frame long;
  room = omega (arith, packet_at-long frame long, tags_len-inside (drop 12 frame) (omega (arith, length-drop 12 frame)), length-drop 12 frame);
}

pub packet_at-inside : (frame : List ℕ) → packet_at frame ≤ length frame
packet_at-inside frame =
    ⊎_elim (λ (short : length frame < 14). omega (arith, packet_at-short frame short)) (λ long. omega (arith, (has_type frame long).room)) (cases_lt (length frame) 14)
