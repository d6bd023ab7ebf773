-- The shares of a stream, message by message.
use Rattle.std.proofs.Common.{◌≡◌, ◌<◌, ◌≤◌, ◌+◌, ◌-◌, ◌/◌, ◌∙◌, ℕ, zero, suc, pred, List, [], ◌∷◌, ◌++◌, length, map, refl, arith, ap, sym, inl, inr}
use Rattle.std.specs.Prelude.{◌⊎◌}
use Rattle.std.proofs.Math.Nat.{div-eq_of_lt, div-eq-sub-div}
use Rattle.packet_version.specs.Splitting.{PlainApart}
use Rattle.packet_messages.specs.Messages.{PlainMessage, first, front, rest, turned}
use Rattle.packet_messages.specs.Turns.{share, share_len, shares_from, shares, columns_from}
use Rattle.packet_messages.proofs.Turning.{last_share, first_share, turned_shares, one_share, share_long}
use Rattle.stage_nodes.specs.Dues.{ComesFrom}
use Rattle.stage_nodes.specs.Turns.{places}
use Rattle.node_run.specs.Edges.{numbers}
use Rattle.node_run.specs.Nodes.{in_turn}

-- links that share a stream give it back when they are asked in turn
taken_in_turn : {P : Type 0} (m : ℕ) (xs : List (PlainMessage P)) → 0 < m → in_turn (length xs) (shares m xs) ≡ xs
unfolding in_turn
taken_in_turn m [] lt = refl
taken_in_turn m (x ∷ xs) lt =
    ap (λ ls. first ls ∷ in_turn (length xs) (turned (shares m (x ∷ xs)))) (first_share m x xs lt)
    ∙ ap (λ ls. x ∷ in_turn (length xs) ls) (turned_shares m x xs lt)
    ∙ ap (λ ys. x ∷ ys) (taken_in_turn m xs lt)

pub came_all : (inlets : List (List (PlainMessage PlainApart))) (n : ℕ) (xs : List (PlainMessage PlainApart)) → ComesFrom inlets xs → length xs ≡ n → xs ≡ in_turn n inlets
came_all inlets n xs c l = sym (ap (λ ls. in_turn n ls) c.2 ∙ ap (λ i. in_turn i (shares c.0 xs)) (sym l) ∙ taken_in_turn c.0 xs c.1)

-- what each merger takes of some streams, merger by merger

pub no_columns : {A : Type 0} (m : ℕ) (rows : List (List A)) → columns_from m 0 0 rows ≡ []
unfolding columns_from
no_columns m rows = refl

last_columns : {A : Type 0} (m i c : ℕ) (rows : List (List A)) → columns_from m i c rows ++ map (share m (i + c)) rows ∷ [] ≡ columns_from m i (suc c) rows
unfolding columns_from
last_columns m i zero rows = ap (λ n. map (share m n) rows ∷ []) (omega arith)
last_columns m i (suc c) rows =
    ap (λ y. map (share m i) rows ∷ y) (ap (λ n. columns_from m (suc i) c rows ++ map (share m n) rows ∷ []) (omega arith) ∙ last_columns m (suc i) c rows)

pub columns_more : {A : Type 0} (m i : ℕ) (rows x : List (List A)) (ls more : List (List (List A))) → ls ≡ columns_from m 0 i rows → x ≡ map (share m i) rows → more ≡ ls ++ x ∷ [] → more ≡ columns_from m 0 (i + 1) rows
columns_more m i rows x ls more e is add =
    add ∙ ap (λ y. y ++ x ∷ []) e ∙ ap (λ y. columns_from m 0 i rows ++ y ∷ []) (is ∙ ap (λ n. map (share m n) rows) (omega arith)) ∙ last_columns m 0 i rows ∙ ap (λ n. columns_from m 0 n rows) (omega arith)

-- the first of each merger's are the first stream's shares, and the rest those of the others
pub columns_front : {A : Type 0} (m i c : ℕ) (row : List A) (rows : List (List A)) → map front (columns_from m i c (row ∷ rows)) ≡ shares_from m i c row
unfolding columns_from shares_from
columns_front m i zero row rows = refl
columns_front m i (suc c) row rows = ap (λ y. share m i row ∷ y) (columns_front m (suc i) c row rows)

pub columns_rest : {A : Type 0} (m i c : ℕ) (row : List A) (rows : List (List A)) → map rest (columns_from m i c (row ∷ rows)) ≡ columns_from m i c rows
unfolding columns_from
columns_rest m i zero row rows = refl
columns_rest m i (suc c) row rows = ap (λ y. map (share m i) rows ∷ y) (columns_rest m (suc i) c row rows)

pub some_share : {A : Type 0} (xs : List A) (ls : List (List A)) → ls ≡ shares 1 xs → 0 < length ls
some_share xs ls e = omega (arith, ap length (e ∙ one_share xs))

-- lengths

pub share_room : {A : Type 0} (m i count room : ℕ) (xs ys : List A) → ys ≡ share m i xs → length xs ≡ count → room ≡ share_len m i count → length ys ≤ room
share_room m i count room xs ys e many r = omega (arith, ap length e, share_long m i xs, ap (share_len m i) many, r)

-- a fan of links

pub fan_none : {A : Type 0} (m : ℕ) (xs : List A) (ls : List (List A)) → ls ≡ [] → ls ≡ shares_from m 0 0 xs
unfolding shares_from
fan_none m xs ls e = e

pub fan_more : {A : Type 0} (m i : ℕ) (xs x : List A) (ls more : List (List A)) → ls ≡ shares_from m 0 i xs → x ≡ share m i xs → more ≡ ls ++ x ∷ [] → more ≡ shares_from m 0 (i + 1) xs
fan_more m i xs x ls more e is add =
    add ∙ ap (λ y. y ++ x ∷ []) e ∙ ap (λ y. shares_from m 0 i xs ++ y ∷ []) (is ∙ ap (λ n. share m n xs) (omega arith)) ∙ last_share m 0 i xs ∙ ap (λ n. shares_from m 0 n xs) (omega arith)

-- counting

pub none_shared : (m i n : ℕ) → n ≤ i → share_len m i n ≡ 0
unfolding share_len
none_shared m i zero le = refl
none_shared m zero (suc n) le = absurd (omega arith)
none_shared m (suc i) (suc n) le = none_shared m i n (omega arith)

at_first : (m n : ℕ) → 0 < m → (pred m < n → share_len m (pred m) n ≡ (n - pred m - 1) / m + 1) → (n ≤ pred m) ⊎ (pred m < n) → suc (share_len m (pred m) n) ≡ n / m + 1
at_first m n lt later (inl le) =
    let z : n / m ≡ 0 = div-eq_of_lt (omega (arith, lt, le)) in
    ap suc (none_shared m (pred m) n le) ∙ omega (arith, z)
at_first m n lt later (inr less) =
    let d : n / m ≡ (n - m) / m + 1 = div-eq-sub-div lt (omega (arith, lt, less)) in
    let a : n - pred m - 1 ≡ n - m = omega (arith, lt) in
    ap suc (later less ∙ ap (λ y. y / m + 1) a) ∙ omega (arith, d)

most_or_more : (a b : ℕ) → (a ≤ b) ⊎ (b < a)
most_or_more a b = grind arith

pub shared_by : (m i n : ℕ) → 0 < m → i < n → share_len m i n ≡ (n - i - 1) / m + 1
unfolding share_len
shared_by m i zero lt less = absurd (omega (arith, less))
shared_by m zero (suc n) lt less =
    let e : n ≡ suc n - 0 - 1 = omega arith in
    at_first m n lt (shared_by m (pred m) n lt) (most_or_more n (pred m)) ∙ ap (λ y. y / m + 1) e
shared_by m (suc i) (suc n) lt less =
    let e : n - i - 1 ≡ suc n - suc i - 1 = omega arith in
    shared_by m i n lt (omega (arith, less)) ∙ ap (λ y. y / m + 1) e

-- a share of the numbers of packets: each is as far from the one before as there are links
share_places : (m i p n : ℕ) → 0 < m → share m i (places p 1 n) ≡ places (p + i) m (share_len m i n)
unfolding share share_len places
share_places m i p zero lt = refl
share_places m zero p (suc n) lt =
    let here : p ≡ p + 0 = omega arith in
    let next : p + 1 + pred m ≡ p + 0 + m = omega (arith, lt) in
    (λ j. here j ∷ share_places m (pred m) (p + 1) n lt j) ∙ ap (λ y. (p + 0) ∷ places y m (share_len m (pred m) n)) next
share_places m (suc i) p (suc n) lt =
    let next : p + 1 + i ≡ p + suc i = omega arith in
    share_places m i (p + 1) n lt ∙ ap (λ y. places y m (share_len m i n)) next

pub own_share : (m i count : ℕ) (xs : List (PlainMessage PlainApart)) → 0 < m → length xs ≡ count → places i m (share_len m i count) ≡ share m i (numbers xs)
own_share m i count xs lt many =
    let here : i ≡ 0 + i = omega arith in
    (λ j. places (here j) m (share_len m i (sym many j))) ∙ sym (share_places m i 0 (length xs) lt)
