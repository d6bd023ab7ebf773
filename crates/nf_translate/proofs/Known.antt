-- Keys that are known, and their places.
use Rattle.std.proofs.Common.{◌≡◌, ◌∙◌, ◌<◌, ◌≤◌, ◌+◌, ℕ, suc, List, [], ◌∷◌, ◌++◌, length, Bool, true, false, not, cond, ◌&&◌, ◌||◌, Some, slice_get, refl, sym, ap, subst, true≢false, length-append, arith}
use Rattle.std.specs.Prelude.{if◌then◌else◌}
use Rattle.std.proofs.lemmas.Bool.{eqb-true}
use Rattle.std.proofs.lemmas.List.{append-nil}
use Rattle.first_sight.specs.FirstSight.{is_seen, place_of, seen_with}
use Rattle.nf_translate.specs.declared.endpoint.Endpoint.{Endpoint}
use Rattle.nf_translate.specs.Endpoints.{is_same}

both : (a b : Bool) → (a && b) ≡ true → (a ≡ true) × (b ≡ true)
both true b h = (refl, h)
both false b h = absurd (true≢false (sym h))

-- endpoints that are the same are equal
pub same_is : (a b : Endpoint) → is_same a b ≡ true → a ≡ b
same_is a b h =
    let first = both _ _ h in
    let later = both _ _ first.1 in
    let proto = eqb-true a.proto b.proto first.0 in
    let address = eqb-true a.address b.address later.0 in
    let port = eqb-true a.port b.port later.1 in
    λ i. record { proto = proto i; address = address i; port = port i }

one_more : (place : ℕ) → suc place ≡ 1 + place
one_more place = omega arith

-- what was known is in front of what is known later
pub record IsLater {K : Type 0} (known later : List K) : Type 0 where
  pub more : List K
  pub is : later ≡ known ++ more

module _ {K : Type 0} where
  pub same_later : (known : List K) → IsLater known known
  same_later known = record { more = []; is = sym (append-nil known) }

  -- a key is at its place after it was seen
  found : (b c : Bool) (x e : K) (known more : List K) (place : ℕ) → (b ≡ true → x ≡ e) → slice_get (if c then known else more) place ≡ Some e → slice_get (if b || c then x ∷ known else x ∷ more) (cond (not b) (1 + place) 0) ≡ Some e
  found true c x e known more place same h = ap Some (same refl)
  found false true x e known more place same h = subst (λ k. slice_get (x ∷ known) k ≡ Some e) (one_more place) h
  found false false x e known more place same h = subst (λ k. slice_get (x ∷ more) k ≡ Some e) (one_more place) h

kept : (b c : Bool) (p q : ℕ) → (b || c) ≡ true → (c ≡ true → p ≡ q) → cond (not b) (1 + p) 0 ≡ cond (not b) (1 + q) 0
kept true c p q h same = refl
kept false c p q h same = ap (λ k. 1 + k) (same h)

module _ {K : Type 0} (eq : K → K → Bool) where
  pub keeps_place : (known more : List K) (e : K) → is_seen eq known e ≡ true → place_of eq (known ++ more) e ≡ place_of eq known e
  keeps_place [] more e h = absurd (true≢false (sym h))
  keeps_place (x ∷ known) more e h = kept (eq e x) (is_seen eq known e) _ _ h (keeps_place known more e)

  pub stays_known : (known more : List K) (e : K) → is_seen eq known e ≡ true → is_seen eq (known ++ more) e ≡ true
  stays_known [] more e h = absurd (true≢false (sym h))
  stays_known (x ∷ known) more e h = by (eq e x) h (stays_known known more e)
    where
      by : (b : Bool) → (b || is_seen eq known e) ≡ true → (is_seen eq known e ≡ true → is_seen eq (known ++ more) e ≡ true) → (b || is_seen eq (known ++ more) e) ≡ true
      by true h rest = refl
      by false h rest = rest h

  -- one that isn't known comes after the others, and one that is known is among them
  pub new_place : (known : List K) (e : K) → is_seen eq known e ≡ false → place_of eq known e ≡ length known
  new_place [] e h = refl
  new_place (x ∷ known) e h = by (eq e x) h (new_place known e)
    where
      by : (b : Bool) → (b || is_seen eq known e) ≡ false → (is_seen eq known e ≡ false → place_of eq known e ≡ length known) → cond (not b) (1 + place_of eq known e) 0 ≡ length (x ∷ known)
      by true h rest = absurd (true≢false h)
      by false h rest = let place = rest h in omega (arith, place)

  pub known_place : (known : List K) (e : K) → is_seen eq known e ≡ true → place_of eq known e < length known
  known_place [] e h = absurd (true≢false (sym h))
  known_place (x ∷ known) e h = by (eq e x) h (known_place known e)
    where
      by : (b : Bool) → (b || is_seen eq known e) ≡ true → (is_seen eq known e ≡ true → place_of eq known e < length known) → cond (not b) (1 + place_of eq known e) 0 < length (x ∷ known)
      by true h rest = omega arith
      by false h rest = let place = rest h in omega (arith, place)

  pub seen_later : (known : List K) (e : K) → IsLater known (seen_with eq known e)
  seen_later known e = by (is_seen eq known e)
    where
      by : (b : Bool) → IsLater known (if b then known else known ++ e ∷ [])
      by true = same_later known
      by false = record { more = e ∷ []; is = refl }

  -- the number of known keys after one was seen
  pub seen_length : (known : List K) (e : K) (most : ℕ) → length known ≤ most → place_of eq known e < most → length (seen_with eq known e) ≤ most
  seen_length known e most before inside = by (is_seen eq known e) refl
    where
      by : (b : Bool) → is_seen eq known e ≡ b → length (if b then known else known ++ e ∷ []) ≤ most
      by true h = before
      by false h = let place = new_place known e h in let more = length-append known (e ∷ []) in omega (arith, place, more, inside)

  pub grows_by_one : (known : List K) (e : K) → is_seen eq known e ≡ false → length (seen_with eq known e) ≡ length known + 1
  grows_by_one known e h = subst (λ (b : Bool). length (if b then known else known ++ e ∷ []) ≡ length known + 1) (sym h) (length-append known (e ∷ []))

  pub seen_stays : (known : List K) (e : K) → is_seen eq known e ≡ true → seen_with eq known e ≡ known
  seen_stays known e h = subst (λ (b : Bool). (if b then known else known ++ e ∷ []) ≡ known) (sym h) refl

  -- one that was seen is known, if each is the same as itself
  module _ (itself : (e : K) → eq e e ≡ true) where
    last_known : (known : List K) (e : K) → is_seen eq (known ++ e ∷ []) e ≡ true
    last_known [] e = rw (itself e) refl
    last_known (x ∷ known) e = or_true (eq e x) (last_known known e)
      where
        or_true : (a : Bool) {b : Bool} → b ≡ true → (a || b) ≡ true
        or_true true h = refl
        or_true false h = h

    pub seen_known : (known : List K) (e : K) → is_seen eq (seen_with eq known e) e ≡ true
    seen_known known e = by (is_seen eq known e) refl
      where
        by : (b : Bool) → is_seen eq known e ≡ b → is_seen eq (if b then known else known ++ e ∷ []) e ≡ true
        by true h = h
        by false h = last_known known e

  -- and is at its place, if keys that are the same are equal
  module _ (same : (a b : K) → eq a b ≡ true → a ≡ b) where
    pub at_place : (known : List K) (e : K) → slice_get (seen_with eq known e) (place_of eq known e) ≡ Some e
    at_place [] e = refl
    at_place (x ∷ known) e = found (eq e x) (is_seen eq known e) x e known (known ++ e ∷ []) (place_of eq known e) (λ h. sym (same e x h)) (at_place known e)

    known_at : (known : List K) (e : K) → is_seen eq known e ≡ true → slice_get known (place_of eq known e) ≡ Some e
    known_at known e h = subst (λ (b : Bool). slice_get (if b then known else known ++ e ∷ []) (place_of eq known e) ≡ Some e) h (at_place known e)

    -- keys that are known and have one place are equal
    pub one_place : (known : List K) (a b : K) → is_seen eq known a ≡ true → is_seen eq known b ≡ true → place_of eq known a ≡ place_of eq known b → a ≡ b
    one_place known a b ha hb alike = some_is (sym (known_at known a ha) ∙ ap (slice_get known) alike ∙ known_at known b hb)
      where
        some_is : Some a ≡ Some b → a ≡ b
        some_is e = cc
