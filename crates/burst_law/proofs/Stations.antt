-- Values through stations: in either order, each station meets the same values in the same states.
use Rattle.std.proofs.Common.{◌≡◌, ◌∙◌, ℕ, suc, List, ◌∷◌, [], ap, refl}
use Rattle.std.specs.Prelude.{slice_get}
use Rattle.std.specs.List.{cons_option}
use Rattle.burst_law.specs.Stations.{Turn, then_gives, then_state, one_by_one, along, beside, across}

-- one value through stations in a row, each of which takes what the one before it gives
unfoldable pub through : {P S X : Type 0} → (P → S → X → Turn S X) → List P → List S → X → Turn (List S) X
through step [] ss x = record { state = ss; gives = x }
through step (p ∷ ps) [] x = record { state = []; gives = x }
through step (p ∷ ps) (s ∷ ss) x = then_state (step p s x).state (through step ps ss (step p s x).gives)

-- the first station takes all values before the others take any
first_station : {P S X : Type 0} (step : P → S → X → Turn S X) (p : P) (ps : List P) (s : S) (ss : List S) (xs : List X) →
    one_by_one (through step (p ∷ ps)) (s ∷ ss) xs ≡ then_state (one_by_one (step p) s xs).state (one_by_one (through step ps) ss (one_by_one (step p) s xs).gives)
unfolding one_by_one through
first_station step p ps s ss [] = refl
first_station step p ps s ss (x ∷ xs) =
    ap (then_gives (through step ps ss (step p s x).gives).gives) (first_station step p ps (step p s x).state (through step ps ss (step p s x).gives).state xs)

no_station : {P S X : Type 0} (step : P → S → X → Turn S X) (ss : List S) (xs : List X) → one_by_one (through step []) ss xs ≡ record { state = ss; gives = xs }
unfolding one_by_one through
no_station step ss [] = refl
no_station step ss (x ∷ xs) = ap (then_gives x) (no_station step ss xs)

no_state : {P S X : Type 0} (step : P → S → X → Turn S X) (p : P) (ps : List P) (xs : List X) → one_by_one (through step (p ∷ ps)) [] xs ≡ record { state = []; gives = xs }
unfolding one_by_one through
no_state step p ps [] = refl
no_state step p ps (x ∷ xs) = ap (then_gives x) (no_state step p ps xs)

-- value by value is station by station
pub by_stations : {P S X : Type 0} (step : P → S → X → Turn S X) (ps : List P) (ss : List S) (xs : List X) →
    one_by_one (through step ps) ss xs ≡ along (λ p. one_by_one (step p)) ps ss xs
unfolding along
by_stations step [] ss xs = no_station step ss xs
by_stations step (p ∷ ps) [] xs = no_state step p ps xs
by_stations step (p ∷ ps) (s ∷ ss) xs =
    first_station step p ps s ss xs ∙ ap (then_state (one_by_one (step p) s xs).state) (by_stations step ps ss (one_by_one (step p) s xs).gives)

-- stations that do the same
pub along_same : {P S X : Type 0} (f g : P → S → List X → Turn S (List X)) (ps : List P) (ss : List S) (xs : List X) → ((p : P) (s : S) (xs : List X) → f p s xs ≡ g p s xs) → along f ps ss xs ≡ along g ps ss xs
unfolding along
along_same f g [] ss xs same = refl
along_same f g (p ∷ ps) [] xs same = refl
along_same f g (p ∷ ps) (s ∷ ss) xs same =
    ap (λ t. then_state t.state (along f ps ss t.gives)) (same p s xs) ∙ ap (then_state (g p s xs).state) (along_same f g ps ss (g p s xs).gives same)

-- stations side by side, each with all values
abbrev pub streams : {P S X Y : Type 0} → (P → S → X → Turn S Y) → List P → List S → List X → Turn (List S) (List (List Y))
streams step ps ss xs = beside (λ p. one_by_one (step p)) ps ss xs

pub streams_begin : {P S X Y : Type 0} (step : P → S → X → Turn S Y) (ps : List P) (ss : List S) → (streams step ps ss []).state ≡ ss
unfolding one_by_one beside
streams_begin step [] ss = refl
streams_begin step (p ∷ ps) [] = refl
streams_begin step (p ∷ ps) (s ∷ ss) = ap (λ l. s ∷ l) (streams_begin step ps ss)

pub streams_state : {P S X Y : Type 0} (step : P → S → X → Turn S Y) (ps : List P) (ss : List S) (x : X) (xs : List X) →
    (streams step ps ss (x ∷ xs)).state ≡ (streams step ps (beside step ps ss x).state xs).state
unfolding one_by_one beside
streams_state step [] ss x xs = refl
streams_state step (p ∷ ps) [] x xs = refl
streams_state step (p ∷ ps) (s ∷ ss) x xs = ap (λ l. (one_by_one (step p) (step p s x).state xs).state ∷ l) (streams_state step ps ss x xs)

-- what they give for the first value
pub streams_first : {P S X Y : Type 0} (step : P → S → X → Turn S Y) (ps : List P) (ss : List S) (x : X) (xs : List X) →
    across 0 (streams step ps ss (x ∷ xs)).gives ≡ (beside step ps ss x).gives
unfolding one_by_one beside
streams_first step [] ss x xs = refl
streams_first step (p ∷ ps) [] x xs = refl
streams_first step (p ∷ ps) (s ∷ ss) x xs = ap (λ l. (step p s x).gives ∷ l) (streams_first step ps ss x xs)

-- and for those that follow
pub streams_later : {P S X Y : Type 0} (step : P → S → X → Turn S Y) (ps : List P) (ss : List S) (x : X) (xs : List X) (k : ℕ) →
    across (suc k) (streams step ps ss (x ∷ xs)).gives ≡ across k (streams step ps (beside step ps ss x).state xs).gives
unfolding one_by_one beside
streams_later step [] ss x xs k = refl
streams_later step (p ∷ ps) [] x xs k = refl
streams_later step (p ∷ ps) (s ∷ ss) x xs k = ap (cons_option (slice_get (one_by_one (step p) (step p s x).state xs).gives k)) (streams_later step ps ss x xs k)

-- a step that is another one under a view, as long as something holds for the state
pub seen_otherwise : {S T X Y : Type 0} (Holds : S → Type 0) (see : S → T) (step : S → X → Turn S Y) (other : T → X → Turn T Y) (s : S) (xs : List X) → Holds s →
    ((s : S) (x : X) → Holds s → Holds (step s x).state) →
    ((s : S) (x : X) → Holds s → ◌≡◌ {A = Turn T Y} (other (see s) x) (record { state = see (step s x).state; gives = (step s x).gives })) →
    ◌≡◌ {A = Turn T (List Y)} (one_by_one other (see s) xs) (record { state = see (one_by_one step s xs).state; gives = (one_by_one step s xs).gives })
unfolding one_by_one
seen_otherwise Holds see step other s [] h keeps same = refl
seen_otherwise Holds see step other s (x ∷ xs) h keeps same =
    ap (λ t. then_gives t.gives (one_by_one other t.state xs)) (same s x h) ∙ ap (then_gives (step s x).gives) (seen_otherwise Holds see step other (step s x).state xs (keeps s x h) keeps same)
