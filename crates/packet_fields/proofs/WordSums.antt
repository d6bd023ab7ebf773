-- The steps of a checksum over words.
use Rattle.std.proofs.Common.{◌≡◌, ◌≤◌, ◌+◌, ◌*◌, ◌-◌, ◌∙◌, sym, ap, ℕ, List, [], ◌∷◌, ◌++◌, ◌%◌, zero-add, length, drop, get_or, length-drop, refl, arith, true, false, Bool, ◌||◌, not}
use Rattle.std.specs.Prelude.{◌==◌, if◌then◌else◌}
use Rattle.std.proofs.lemmas.Bool.{eq-eqb}
use Rattle.packet_fields.specs.Frames.{word}
use Rattle.packet_fields.specs.Checksums.{words, change_sum, is_changed}
use Rattle.packet_fields.proofs.Overwriting.{cong2}
use Rattle.packet_fields.specs.declared.sums.Change.{Change}

-- what the loop over words keeps
pub record IsAtWords (first now : Change) (old new old_rest new_rest : List ℕ) : Type 0 where
  pub same : length old_rest ≡ length new_rest
  pub short : length old_rest ≤ length old
  pub sum_is : now.sum + change_sum (words old_rest) (words new_rest) ≡ first.sum + change_sum (words old) (words new)
  pub changed : (now.is_some || is_changed (words old_rest) (words new_rest)) ≡ (first.is_some || is_changed (words old) (words new))
  pub bound : now.sum + 65536 * length old_rest ≤ first.sum + 65536 * length old

pub words-two : (xs : List ℕ) → 2 ≤ length xs → words xs ≡ word xs 0 ∷ words (drop 2 xs)
unfolding words
words-two (a ∷ b ∷ rest) long = refl
words-two xs long = absurd (omega arith)

pub words-one : (xs : List ℕ) → length xs ≡ 1 → words xs ≡ (get_or xs 0 0 * 256) ∷ []
unfolding words
words-one (a ∷ []) one = refl
words-one xs one = absurd (omega arith)

pub words-none : (xs : List ℕ) → length xs ≡ 0 → words xs ≡ []
unfolding words
words-none [] none = refl
words-none (x ∷ xs) none = absurd (omega arith)

-- words that stay change nothing
eqb_refl : (m : ℕ) → (m == m) ≡ true
eqb_refl m = eq-eqb m m refl

pub is_changed_own : (ms : List ℕ) → is_changed ms ms ≡ false
unfolding is_changed
is_changed_own [] = refl
is_changed_own (m ∷ ms) = rw (eqb_refl m) (is_changed_own ms)

change_sum_own : (ms : List ℕ) → change_sum ms ms ≡ 0
unfolding change_sum
change_sum_own [] = refl
change_sum_own (m ∷ ms) = rw (eqb_refl m) (ap (λ (n : ℕ). 0 + n) (change_sum_own ms))

-- what one word adds
abbrev pub word_change : ℕ → ℕ → ℕ
word_change m n = if m == n then 0 else (0xffff - m) + n

pub change_sum-word : (m n : ℕ) (ms ns : List ℕ) → change_sum (m ∷ ms) (n ∷ ns) ≡ word_change m n + change_sum ms ns
unfolding change_sum
change_sum-word m n ms ns = refl

pub change_sum-none : (ns : List ℕ) → change_sum [] ns ≡ 0
unfolding change_sum
change_sum-none ns = refl

pub is_changed-word : (m n : ℕ) (ms ns : List ℕ) → is_changed (m ∷ ms) (n ∷ ns) ≡ (not (m == n) || is_changed ms ns)
unfolding is_changed
is_changed-word m n ms ns = refl

pub is_changed-none : (ns : List ℕ) → is_changed [] ns ≡ false
unfolding is_changed
is_changed-none ns = refl

pub or_assoc : (a b c : Bool) → ((a || b) || c) ≡ (a || (b || c))
or_assoc true b c = refl
or_assoc false b c = refl

pub or-false : (a : Bool) → (a || false) ≡ a
or-false true = refl
or-false false = refl

pub at_words_more : (first now next : Change) (old new r s : List ℕ) → IsAtWords first now old new r s → 2 ≤ length r → 2 ≤ length s
    → next.sum ≡ now.sum + word_change (word r 0) (word s 0) → next.is_some ≡ (now.is_some || not (word r 0 == word s 0)) → next.sum ≤ now.sum + 131070
    → IsAtWords first next old new (drop 2 r) (drop 2 s)
at_words_more first now next old new r s at long_r long_s sum_is changed bound =
    let here : change_sum (words r) (words s) ≡ word_change (word r 0) (word s 0) + change_sum (words (drop 2 r)) (words (drop 2 s)) =
    cong2 (λ (ms ns : List ℕ). change_sum ms ns) (words-two r long_r) (words-two s long_s) ∙ change_sum-word (word r 0) (word s 0) (words (drop 2 r)) (words (drop 2 s)) in
    let is_here : is_changed (words r) (words s) ≡ (not (word r 0 == word s 0) || is_changed (words (drop 2 r)) (words (drop 2 s))) =
    cong2 (λ (ms ns : List ℕ). is_changed ms ns) (words-two r long_r) (words-two s long_s) ∙ is_changed-word (word r 0) (word s 0) (words (drop 2 r)) (words (drop 2 s)) in
    record {
      same = omega (arith, length-drop 2 r, length-drop 2 s, at.same);
      short = omega (arith, length-drop 2 r, at.short);
      sum_is = omega (arith, sum_is, here, at.sum_is);
      changed = ap (λ (b : Bool). b || is_changed (words (drop 2 r)) (words (drop 2 s))) changed
          ∙ (or_assoc now.is_some (not (word r 0 == word s 0)) (is_changed (words (drop 2 r)) (words (drop 2 s))) ∙ (ap (λ (b : Bool). now.is_some || b) (sym is_here) ∙ at.changed));
      bound = omega (arith, length-drop 2 r, bound, at.bound);
    }

-- the result of the loop at its end, if a last odd byte remains
pub record IsChange (first last : Change) (old new : List ℕ) : Type 0 where
  pub sum_is : last.sum ≡ first.sum + change_sum (words old) (words new)
  pub changed : last.is_some ≡ (first.is_some || is_changed (words old) (words new))

pub at_words_one : (first now last : Change) (old new r s : List ℕ) → IsAtWords first now old new r s → length r ≡ 1 → length s ≡ 1
    → last.sum ≡ now.sum + word_change (get_or r 0 0 * 256) (get_or s 0 0 * 256) → last.is_some ≡ (now.is_some || not (get_or r 0 0 * 256 == get_or s 0 0 * 256))
    → IsChange first last old new
at_words_one first now last old new r s at one_r one_s sum_is changed =
    let m = get_or r 0 0 * 256 in
    let n = get_or s 0 0 * 256 in
    let here : change_sum (words r) (words s) ≡ word_change m n + 0 =
    cong2 (λ (ms ns : List ℕ). change_sum ms ns) (words-one r one_r) (words-one s one_s) ∙ (change_sum-word m n [] [] ∙ ap (λ (k : ℕ). word_change m n + k) (change_sum-none [])) in
    let is_here : is_changed (words r) (words s) ≡ not (m == n) =
    cong2 (λ (ms ns : List ℕ). is_changed ms ns) (words-one r one_r) (words-one s one_s) ∙ (is_changed-word m n [] [] ∙ (ap (λ (b : Bool). not (m == n) || b) (is_changed-none []) ∙ or-false (not (m == n)))) in
    record {
      sum_is = omega (arith, sum_is, here, at.sum_is);
      changed = changed ∙ (ap (λ (b : Bool). now.is_some || b) (sym is_here) ∙ at.changed);
    }

pub at_words_none : (first now : Change) (old new r s : List ℕ) → IsAtWords first now old new r s → length r ≡ 0 → IsChange first now old new
at_words_none first now old new r s at none =
    let here : change_sum (words r) (words s) ≡ 0 = ap (λ (ms : List ℕ). change_sum ms (words s)) (words-none r none) ∙ change_sum-none (words s) in
    let is_here : is_changed (words r) (words s) ≡ false = ap (λ (ms : List ℕ). is_changed ms (words s)) (words-none r none) ∙ is_changed-none (words s) in
    record {
      sum_is = omega (arith, here, at.sum_is);
      changed = sym (or-false now.is_some) ∙ (ap (λ (b : Bool). now.is_some || b) (sym is_here) ∙ at.changed);
    }

-- equal bytes
pub same_words : (first : Change) (old new : List ℕ) → old ≡ new → IsChange first first old new
same_words first old new same =
    let sums : change_sum (words old) (words new) ≡ 0 = ap (λ (xs : List ℕ). change_sum (words old) (words xs)) (sym same) ∙ change_sum_own (words old) in
    let some : is_changed (words old) (words new) ≡ false = ap (λ (xs : List ℕ). is_changed (words old) (words xs)) (sym same) ∙ is_changed_own (words old) in
    record {
      sum_is = omega (arith, sums);
      changed = sym (ap (λ (b : Bool). first.is_some || b) some ∙ or-false first.is_some);
    }

pub words-append : (xs ys : List ℕ) → length xs % 2 ≡ 0 → words (xs ++ ys) ≡ words xs ++ words ys
unfolding words
words-append [] ys even = refl
words-append (a ∷ []) ys even = absurd (omega arith)
words-append (a ∷ b ∷ xs) ys even = ap (λ (ws : List ℕ). (a * 256 + b) ∷ ws) (words-append xs ys (omega arith))

pub length-words : (xs : List ℕ) → 2 * length (words xs) ≡ length xs + length xs % 2
unfolding words
length-words [] = refl
length-words (a ∷ []) = refl
length-words (a ∷ b ∷ xs) = omega (arith, length-words xs)

pub same_words_len : (xs ys : List ℕ) → length xs ≡ length ys → length (words xs) ≡ length (words ys)
same_words_len xs ys same = omega (arith, length-words xs, length-words ys)

pub change_sum-append : (ms ns ps qs : List ℕ) → length ms ≡ length ns → change_sum (ms ++ ps) (ns ++ qs) ≡ change_sum ms ns + change_sum ps qs
unfolding change_sum
change_sum-append [] [] ps qs same = sym (zero-add (change_sum ps qs))
change_sum-append [] (n ∷ ns) ps qs same = absurd (omega arith)
change_sum-append (m ∷ ms) [] ps qs same = absurd (omega arith)
change_sum-append (m ∷ ms) (n ∷ ns) ps qs same = let more = change_sum-append ms ns ps qs (omega arith) in omega arith

pub is_changed-append : (ms ns ps qs : List ℕ) → length ms ≡ length ns → is_changed (ms ++ ps) (ns ++ qs) ≡ (is_changed ms ns || is_changed ps qs)
unfolding is_changed
is_changed-append [] [] ps qs same = refl
is_changed-append [] (n ∷ ns) ps qs same = absurd (omega arith)
is_changed-append (m ∷ ms) [] ps qs same = absurd (omega arith)
is_changed-append (m ∷ ms) (n ∷ ns) ps qs same = ap (λ (b : Bool). not (m == n) || b) (is_changed-append ms ns ps qs (omega arith)) ∙ sym (or_assoc (not (m == n)) (is_changed ms ns) (is_changed ps qs))

-- bytes of one length, of which the first have an even number
pub record Joins (a b c d : List ℕ) : Type 0 where
  pub sums : change_sum (words (a ++ b)) (words (c ++ d)) ≡ change_sum (words a) (words c) + change_sum (words b) (words d)
  pub some : is_changed (words (a ++ b)) (words (c ++ d)) ≡ (is_changed (words a) (words c) || is_changed (words b) (words d))

pub joins : (a b c d : List ℕ) → length a ≡ length c → length a % 2 ≡ 0 → Joins a b c d
joins a b c d same even =
    let ws = same_words_len a c same in
    let left = words-append a b even in
    let right = words-append c d (omega (arith, even)) in
    record {
      sums = cong2 (λ (ms ns : List ℕ). change_sum ms ns) left right ∙ change_sum-append (words a) (words c) (words b) (words d) ws;
      some = cong2 (λ (ms ns : List ℕ). is_changed ms ns) left right ∙ is_changed-append (words a) (words c) (words b) (words d) ws;
    }
