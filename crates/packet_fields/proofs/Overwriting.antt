-- What a list holds after some of its bytes were overwritten.
use Rattle.std.proofs.Common.{◌≡◌, ◌≤◌, ◌<◌, ◌+◌, ◌-◌, ◌∙◌, ℕ, List, ◌++◌, length, take, drop, get_or, length-take, length-drop, length-append, length-take-le, sym, ap, refl, arith, ⊎_elim}
use Rattle.std.proofs.lemmas.List.{take-append-drop, drop-drop, drop-take, take_at, drop_at, get_or-take, get_or-drop, same_lists, get_or_append_left, get_or-append_right}
use Rattle.std.proofs.lemmas.Bool.{cases_lt}
use Rattle.std.proofs.lemmas.Slice.{take-put_mid_below, drop-put_mid}
use Rattle.packet_fields.specs.Writing.{overwritten}

pub cong2 : {A B C : Type 0} (f : A → B → C) {a a' : A} {b b' : B} → a ≡ a' → b ≡ b' → f a b ≡ f a' b'
cong2 f p q = cc

pub cong3 : {A B C D : Type 0} (f : A → B → C → D) {a a' : A} {b b' : B} {c c' : C} → a ≡ a' → b ≡ b' → c ≡ c' → f a b c ≡ f a' b' c'
cong3 f p q r = cc

pub length-overwritten : (at : ℕ) (new xs : List ℕ) → at + length new ≤ length xs → length (overwritten at new xs) ≡ length xs
length-overwritten at new xs inside = simp (length-append, length-take, length-drop) (omega arith)

pub take-overwritten : (at : ℕ) (new xs : List ℕ) (n : ℕ) → at + length new ≤ length xs → n ≤ at → take n (overwritten at new xs) ≡ take n xs
take-overwritten at new xs n inside below = take-put_mid_below at (length new) xs new n below (omega arith)

pub drop-overwritten : (at : ℕ) (new xs : List ℕ) (n : ℕ) → at + length new ≤ length xs → at + length new ≤ n → drop n (overwritten at new xs) ≡ drop n xs
drop-overwritten at new xs n inside behind = drop-put_mid at (length new) xs new n behind (omega arith) refl

pub bytes_before : (at : ℕ) (new xs : List ℕ) (a n : ℕ) → at + length new ≤ length xs → a + n ≤ at → take n (drop a (overwritten at new xs)) ≡ take n (drop a xs)
bytes_before at new xs a n inside before =
    sym (drop-take a n (overwritten at new xs)) ∙ (ap (λ (ys : List ℕ). drop a ys) (take-overwritten at new xs (a + n) inside before) ∙ drop-take a n xs)

pub bytes_behind : (at : ℕ) (new xs : List ℕ) (a n : ℕ) → at + length new ≤ length xs → at + length new ≤ a → take n (drop a (overwritten at new xs)) ≡ take n (drop a xs)
bytes_behind at new xs a n inside behind = ap (λ (ys : List ℕ). take n ys) (drop-overwritten at new xs a inside behind)

pub bytes_same : (at : ℕ) (new xs : List ℕ) → at + length new ≤ length xs → take (length new) (drop at (overwritten at new xs)) ≡ new
bytes_same at new xs inside =
    let head_len : length (take at xs) ≡ at = length-take-le at xs (omega arith) in
    ap (λ (ys : List ℕ). take (length new) ys) (drop_at (take at xs) (new ++ drop (length new) (drop at xs)) at head_len) ∙ take_at new (drop (length new) (drop at xs)) (length new) refl

pub get_or-before : (at : ℕ) (new xs : List ℕ) (k d : ℕ) → at + length new ≤ length xs → k < at → get_or (overwritten at new xs) k d ≡ get_or xs k d
get_or-before at new xs k d inside before =
    sym (get_or-take at (overwritten at new xs) k d before) ∙ (ap (λ (ys : List ℕ). get_or ys k d) (take-overwritten at new xs at inside (omega arith)) ∙ get_or-take at xs k d before)

get_or-from : (xs : List ℕ) (k d : ℕ) → get_or (drop k xs) 0 d ≡ get_or xs k d
get_or-from xs k d = get_or-drop k xs 0 d ∙ ap (λ (n : ℕ). get_or xs n d) (omega arith)

pub get_or-behind : (at : ℕ) (new xs : List ℕ) (k d : ℕ) → at + length new ≤ length xs → at + length new ≤ k → get_or (overwritten at new xs) k d ≡ get_or xs k d
get_or-behind at new xs k d inside behind =
    sym (get_or-from (overwritten at new xs) k d) ∙ (ap (λ (ys : List ℕ). get_or ys 0 d) (drop-overwritten at new xs k inside behind) ∙ get_or-from xs k d)

pub get_or-within : (at : ℕ) (new xs : List ℕ) (k d : ℕ) → at + length new ≤ length xs → at ≤ k → k < at + length new → get_or (overwritten at new xs) k d ≡ get_or new (k - at) d
get_or-within at new xs k d inside from below =
    let head_len : length (take at xs) ≡ at = length-take-le at xs (omega arith) in
    get_or-append_right (take at xs) (new ++ drop (length new) (drop at xs)) at k d head_len from ∙ get_or_append_left new (drop (length new) (drop at xs)) d (k - at) (omega arith)

pub overwritten_twice : (at : ℕ) (old new xs : List ℕ) → at + length new ≤ length xs → length old ≡ length new → overwritten at new (overwritten at old xs) ≡ overwritten at new xs
overwritten_twice at old new xs inside same =
    let inside_old : at + length old ≤ length xs = omega arith in
    let front = take-overwritten at old xs at inside_old (omega arith) in
    let back : drop (length new) (drop at (overwritten at old xs)) ≡ drop (length new) (drop at xs) =
    drop-drop (length new) at (overwritten at old xs) ∙ (drop-overwritten at old xs (at + length new) inside_old (omega arith) ∙ sym (drop-drop (length new) at xs)) in
    cong2 (λ (xs ys : List ℕ). xs ++ (new ++ ys)) front back

pub overwritten_own : (at n : ℕ) (xs : List ℕ) → at + n ≤ length xs → overwritten at (take n (drop at xs)) xs ≡ xs
overwritten_own at n xs inside =
    let len : length (take n (drop at xs)) ≡ n = length-take-le n (drop at xs) (omega (arith, length-drop at xs)) in
    ap (λ (k : ℕ). take at xs ++ (take n (drop at xs) ++ drop k (drop at xs))) len ∙ (ap (λ (ys : List ℕ). take at xs ++ ys) (take-append-drop n (drop at xs)) ∙ take-append-drop at xs)

-- two overwritten places that lie apart may be overwritten in either order
pub overwritten_comm : (a b : ℕ) (new other xs : List ℕ) → a + length new ≤ b → b + length other ≤ length xs → overwritten a new (overwritten b other xs) ≡ overwritten b other (overwritten a new xs)
overwritten_comm a b new other xs apart inside =
    let ia : a + length new ≤ length xs = omega arith in
    let len_b = length-overwritten b other xs inside in
    let len_a = length-overwritten a new xs ia in
    let iab : a + length new ≤ length (overwritten b other xs) = omega arith in
    let iba : b + length other ≤ length (overwritten a new xs) = omega arith in
    let len_ab = length-overwritten a new (overwritten b other xs) iab in
    let len_ba = length-overwritten b other (overwritten a new xs) iba in
    same_lists _ _ (len_ab ∙ (len_b ∙ (sym len_a ∙ sym len_ba))) (λ k d _.
    ⊎_elim
    (λ (before : k < a). get_or-before a new (overwritten b other xs) k d iab before ∙ (get_or-before b other xs k d inside (omega arith) ∙ (sym (get_or-before a new xs k d ia before) ∙ sym (get_or-before b other (overwritten a new xs) k d iba (omega arith)))))
    (λ (from_a : a ≤ k). ⊎_elim
    (λ (in_a : k < a + length new). get_or-within a new (overwritten b other xs) k d iab from_a in_a ∙ (sym (get_or-within a new xs k d ia from_a in_a) ∙ sym (get_or-before b other (overwritten a new xs) k d iba (omega arith))))
    (λ (past_a : a + length new ≤ k). get_or-behind a new (overwritten b other xs) k d iab past_a ∙ ⊎_elim
    (λ (before_b : k < b). get_or-before b other xs k d inside before_b ∙ (sym (get_or-behind a new xs k d ia past_a) ∙ sym (get_or-before b other (overwritten a new xs) k d iba before_b)))
    (λ (from_b : b ≤ k). ⊎_elim
    (λ (in_b : k < b + length other). get_or-within b other xs k d inside from_b in_b ∙ sym (get_or-within b other (overwritten a new xs) k d iba from_b in_b))
    (λ (past_b : b + length other ≤ k). get_or-behind b other xs k d inside past_b ∙ (sym (get_or-behind a new xs k d ia past_a) ∙ sym (get_or-behind b other (overwritten a new xs) k d iba past_b)))
    (cases_lt k (b + length other)))
    (cases_lt k b))
    (cases_lt k (a + length new)))
    (cases_lt k a))
