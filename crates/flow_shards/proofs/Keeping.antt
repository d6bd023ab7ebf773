-- The count of all packets, in the shard of a worker, is the count of the packets of that worker alone.
use Rattle.std.proofs.Common.{◌≡◌, ◌∙◌, List, [], ◌∷◌, ◌++◌, map, filter, Bool, true, false, refl, sym, ap}
use Rattle.std.specs.Prelude.{◌||◌, if◌then◌else◌}
use Rattle.std.specs.Map.{keys_of}
use Rattle.std.proofs.lemmas.Bool.{true≢false}
use Rattle.std.proofs.lemmas.List.{append-nil}
use Rattle.std.proofs.lemmas.List.Elements.{filter-append}
use Rattle.std.proofs.lemmas.Map.Entries.{lookup-filter-keys}
use Rattle.first_sight.specs.FirstSight.{is_seen, belonging, with_value, noted}

-- entries whose keys pass a test that equal keys pass alike
module _ {K V : Type 0} (eq : K → K → Bool) (p : K → Bool) (alike : (a b : K) → eq a b ≡ true → p a ≡ p b) where
  abbrev kept : List (K × V) → List (K × V)
  kept seen = filter (λ e. p e.0) seen

  -- an entry keeps its key
  same_key : (key : K) (value : V) (e : K × V) (b : Bool) → (if b then (e.0, value) else e).0 ≡ e.0
  same_key key value e true = refl
  same_key key value e false = refl

  kept-renewed : (key : K) (value : V) (seen : List (K × V)) → kept (map (with_value eq key value) seen) ≡ map (with_value eq key value) (kept seen)
  kept-renewed key value [] = refl
  kept-renewed key value (e ∷ seen) =
      ap (λ k. if p k then with_value eq key value e ∷ kept (map (with_value eq key value) seen) else kept (map (with_value eq key value) seen)) (same_key key value e (eq key e.0))
      ∙ by (p e.0) (kept-renewed key value seen)
    where
      by : (b : Bool) → kept (map (with_value eq key value) seen) ≡ map (with_value eq key value) (kept seen) →
          (if b then with_value eq key value e ∷ kept (map (with_value eq key value) seen) else kept (map (with_value eq key value) seen)) ≡ map (with_value eq key value) (if b then e ∷ kept seen else kept seen)
      by true rest = ap (λ l. with_value eq key value e ∷ l) rest
      by false rest = rest

  -- an entry of another key stays
  untouched : (key : K) (value : V) → p key ≡ false → (seen : List (K × V)) → map (with_value eq key value) (kept seen) ≡ kept seen
  untouched key value left [] = refl
  untouched key value left (e ∷ seen) = by (p e.0) refl (untouched key value left seen)
    where
      stays : (b : Bool) → eq key e.0 ≡ b → p e.0 ≡ true → (if b then (e.0, value) else e) ≡ e
      stays true same passes = absurd (true≢false (sym passes ∙ sym (alike key e.0 same) ∙ left))
      stays false other passes = refl

      by : (b : Bool) → p e.0 ≡ b → map (with_value eq key value) (kept seen) ≡ kept seen → map (with_value eq key value) (if b then e ∷ kept seen else kept seen) ≡ (if b then e ∷ kept seen else kept seen)
      by true passes rest = λ i. stays (eq key e.0) refl passes i ∷ rest i
      by false fails rest = rest

  kept-seen : (key : K) → p key ≡ true → (seen : List (K × V)) → is_seen eq (keys_of (kept seen)) key ≡ is_seen eq (keys_of seen) key
  kept-seen key passes [] = refl
  kept-seen key passes (e ∷ seen) = by (p e.0) (eq key e.0) refl refl (kept-seen key passes seen)
    where
      by : (b c : Bool) → p e.0 ≡ b → eq key e.0 ≡ c → is_seen eq (keys_of (kept seen)) key ≡ is_seen eq (keys_of seen) key →
          is_seen eq (keys_of (if b then e ∷ kept seen else kept seen)) key ≡ (c || is_seen eq (keys_of seen) key)
      by true c here same rest = λ i. same i || rest i
      by false true gone same rest = absurd (true≢false (sym passes ∙ alike key e.0 same ∙ gone))
      by false false gone same rest = rest

  kept-last : (key : K) (value : V) (b : Bool) → p key ≡ b → (seen : List (K × V)) → kept (seen ++ (key, value) ∷ []) ≡ (if b then kept seen ++ (key, value) ∷ [] else kept seen)
  kept-last key value true passes seen =
      filter-append (λ e. p e.0) seen ((key, value) ∷ []) ∙ ap (λ b. kept seen ++ (if b then (key, value) ∷ [] else [])) passes
  kept-last key value false fails seen =
      filter-append (λ e. p e.0) seen ((key, value) ∷ []) ∙ ap (λ b. kept seen ++ (if b then (key, value) ∷ [] else [])) fails ∙ append-nil (kept seen)

  -- a key that passes is noted among those that do
  pub kept-noted : (key : K) (value : V) → p key ≡ true → (seen : List (K × V)) → kept (noted eq seen key value) ≡ noted eq (kept seen) key value
  kept-noted key value passes seen =
      by (is_seen eq (keys_of seen) key) ∙ ap (λ b. if b then map (with_value eq key value) (kept seen) else kept seen ++ (key, value) ∷ []) (sym (kept-seen key passes seen))
    where
      by : (b : Bool) → kept (if b then map (with_value eq key value) seen else seen ++ (key, value) ∷ []) ≡ (if b then map (with_value eq key value) (kept seen) else kept seen ++ (key, value) ∷ [])
      by true = kept-renewed key value seen
      by false = kept-last key value true passes seen

  -- and another leaves them unchanged
  pub kept-left : (key : K) (value : V) → p key ≡ false → (seen : List (K × V)) → kept (noted eq seen key value) ≡ kept seen
  kept-left key value fails seen = by (is_seen eq (keys_of seen) key)
    where
      by : (b : Bool) → kept (if b then map (with_value eq key value) seen else seen ++ (key, value) ∷ []) ≡ kept seen
      by true = kept-renewed key value seen ∙ untouched key value fails seen
      by false = kept-last key value false fails seen

  pub kept-belonging : (key : K) → p key ≡ true → (seen : List (K × V)) → belonging eq (kept seen) key ≡ belonging eq seen key
  kept-belonging key passes seen = lookup-filter-keys (eq key) p true (λ k same. sym (alike key k same) ∙ passes) seen
