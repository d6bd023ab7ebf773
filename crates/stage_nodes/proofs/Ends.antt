-- Messages that fit what is due, and the links at which the next is due.
use Rattle.std.proofs.Common.{◌≡◌, ◌≢◌, ◌<◌, ◌≤◌, ◌-◌, ◌∙◌, ℕ, suc, List, [], ◌∷◌, length, refl, arith, ap, sym, subst, Bool, true, false, inl, inr}
use Rattle.std.specs.Prelude.{◌⊎◌}
use Rattle.packet_messages.specs.Messages.{PlainMessage, PlainMessage.Live, PlainMessage.Nil, PlainMessage.Short, Fits, Owing, first, front, is_short}
use Rattle.packet_messages.specs.Turns.{shares}
use Rattle.stage_nodes.proofs.Shares.{first_share, shares_length}

is_or_not : (b : Bool) → (b ≡ true) ⊎ (b ≡ false)
is_or_not true = inl refl
is_or_not false = inr refl

short_is : {P : Type 0} (m : PlainMessage P) → is_short m ≡ true → m ≡ Short
short_is (Live p) e = absurd (cc)
short_is (Nil q) e = absurd (cc)
short_is Short e = refl

-- a message that is the due one unless it is short fits
pub fits_by : {P : Type 0} (d m : PlainMessage P) → (is_short m ≡ false → m ≡ d) → Fits d m
fits_by {P} d m h = elim (is_or_not (is_short m)) [ inl e ↦ inr (short_is m e) | inr e ↦ inl (h e) ]

pub due_is : {P : Type 0} (d m : PlainMessage P) → Fits d m → is_short m ≡ false → m ≡ d
due_is d m (inl e) w = e
due_is d m (inr e) w = absurd (let x = sym w ∙ ap is_short e in cc)

-- a list with a known length begins with an element
pub record Begins {A : Type 0} (xs : List A) (n : ℕ) : Type 0 where
  pub head : A
  pub tail : List A
  pub is : xs ≡ head ∷ tail
  pub many : length tail ≡ n

pub begins : {A : Type 0} (xs : List A) (n : ℕ) → length xs ≡ suc n → Begins xs n
begins [] n e = absurd (omega arith)
begins (x ∷ xs) n e = record { head = x; tail = xs; is = refl; many = omega arith }

-- the first of the links among which a stream is shared
pub record Front {P : Type 0} (ls : List (List (PlainMessage P))) (x : PlainMessage P) : Type 0 where
  pub some : 0 < length ls
  pub owing : Owing (front ls)
  pub is : first (front ls) ≡ x

pub front_of : {P : Type 0} (m : ℕ) (x : PlainMessage P) (xs : List (PlainMessage P)) (ls : List (List (PlainMessage P))) → 0 < m → ls ≡ shares m (x ∷ xs) → Front ls x
front_of {P} m x xs ls lt e = subst (λ l. Front l x) (sym e) (record {
  some = omega (arith, lt, shares_length m 0 m (x ∷ xs));
  owing = subst Owing (sym (first_share m x xs lt)) (omega arith);
  is = ap first (first_share m x xs lt);
})

-- over a count of packets
pub some_more : (count : ℕ) → count ≢ 0 → count ≡ suc (count - 1)
some_more count ne = omega arith

pub none_more : (count i : ℕ) → count ≤ i → count - i ≡ 0
none_more count i le = omega arith
