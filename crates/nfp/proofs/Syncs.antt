-- The option `--sync` among words that are looked at one after another.
use Rattle.std.proofs.Common.{◌≡◌, ◌<◌, ◌+◌, ◌∙◌, ◌++◌, ℕ, suc, List, map, take, drop, sym, length, get_or, true, false, Some, None, if◌then◌else◌, codes, ap}
use Rattle.std.specs.Str.{bytes_eq}
use Rattle.std.proofs.lemmas.List.{drop_more, map-append, take-map, drop-map}
use Rattle.std.specs.List.{remove}
use Rattle.nfp.specs.Sync.{sync_from, takes_value}

-- the option is at this place
pub sync_here : {X : Type 0} (f : X → List ℕ) (xs : List X) (i : ℕ) (x : X) → i < length xs → get_or xs i x ≡ x →
    bytes_eq (f x) (codes "--sync") ≡ true → sync_from i false (map f (drop i xs)) ≡ Some i
unfolding sync_from
sync_here f xs i x lt at is =
    ap (λ l. sync_from i false (map f l)) (drop_more xs i x lt)
    ∙ ap (λ y. if bytes_eq (f y) (codes "--sync") then Some i else
    if bytes_eq (f y) (codes "--") then None else sync_from (i + 1) (takes_value (f y)) (map f (drop (i + 1) xs))) at
    ∙ ap (λ b. if b then Some i else if bytes_eq (f x) (codes "--") then None else sync_from (i + 1) (takes_value (f x)) (map f (drop (i + 1) xs))) is

-- behind this word each word is a name
pub sync_ends : {X : Type 0} (f : X → List ℕ) (xs : List X) (i : ℕ) (x : X) → i < length xs → get_or xs i x ≡ x →
    bytes_eq (f x) (codes "--sync") ≡ false → bytes_eq (f x) (codes "--") ≡ true → sync_from i false (map f (drop i xs)) ≡ None
unfolding sync_from
sync_ends f xs i x lt at other is =
    ap (λ l. sync_from i false (map f l)) (drop_more xs i x lt)
    ∙ ap (λ y. if bytes_eq (f y) (codes "--sync") then Some i else
    if bytes_eq (f y) (codes "--") then None else sync_from (i + 1) (takes_value (f y)) (map f (drop (i + 1) xs))) at
    ∙ ap (λ b. if b then Some i else if bytes_eq (f x) (codes "--") then None else sync_from (i + 1) (takes_value (f x)) (map f (drop (i + 1) xs))) other
    ∙ ap (λ b. if b then None else sync_from (i + 1) (takes_value (f x)) (map f (drop (i + 1) xs))) is

-- this word is neither
pub sync_later : {X : Type 0} (f : X → List ℕ) (xs : List X) (i : ℕ) (x : X) → i < length xs → get_or xs i x ≡ x →
    bytes_eq (f x) (codes "--sync") ≡ false → bytes_eq (f x) (codes "--") ≡ false →
    sync_from i false (map f (drop i xs)) ≡ sync_from (i + 1) (takes_value (f x)) (map f (drop (i + 1) xs))
unfolding sync_from
sync_later f xs i x lt at other neither =
    ap (λ l. sync_from i false (map f l)) (drop_more xs i x lt)
    ∙ ap (λ y. if bytes_eq (f y) (codes "--sync") then Some i else
    if bytes_eq (f y) (codes "--") then None else sync_from (i + 1) (takes_value (f y)) (map f (drop (i + 1) xs))) at
    ∙ ap (λ b. if b then Some i else if bytes_eq (f x) (codes "--") then None else sync_from (i + 1) (takes_value (f x)) (map f (drop (i + 1) xs))) other
    ∙ ap (λ b. if b then None else sync_from (i + 1) (takes_value (f x)) (map f (drop (i + 1) xs))) neither

-- this word is the value of an option
pub sync_past : {X : Type 0} (f : X → List ℕ) (xs : List X) (i : ℕ) (x : X) → i < length xs → get_or xs i x ≡ x →
    sync_from i true (map f (drop i xs)) ≡ sync_from (i + 1) false (map f (drop (i + 1) xs))
unfolding sync_from
sync_past f xs i x lt at = ap (λ l. sync_from i true (map f l)) (drop_more xs i x lt)

-- taking a word out comes to the same before and after
pub removed : {X : Type 0} (f : X → List ℕ) (xs : List X) (i : ℕ) → map f (remove xs i) ≡ remove (map f xs) i
removed f xs i = map-append f (take i xs) (drop (suc i) xs)
    ∙ (λ k. sym (take-map f i xs) k ++ sym (drop-map f (suc i) xs) k)
