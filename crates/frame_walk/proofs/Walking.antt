-- How a walk continues from the function that it has reached.
use Rattle.std.proofs.Common.{◌≡◌, ◌<◌, ◌≤◌, ◌+◌, ◌∙◌, ℕ, ◌⊎◌, inl, inr, drop-drop, Bool, List, [], ◌∷◌, ◌++◌, length, take, drop, set, get_or, get_or-drop, refl, sym, ap, subst, add-one, append_assoc, arith}
use Rattle.std.specs.Prelude.{true, false, if◌then◌else◌, Option, Some, None}
use Rattle.std.proofs.lemmas.List.{append-nil, drop_more, drop-set-lt, drop_all, set_split, take_all, take_more, take_more_set, set-get_or}
use Rattle.std.proofs.Math.ListN.{length-set}
use Rattle.chain_walk.specs.Step.{Behaviour, is_drop}
use Rattle.chain_walk.specs.Walk.{Walked, walk, applied, frame_after, then_walked, dropped_at}
use Rattle.chain_walk.specs.declared.walk.Fate.TheVariants.{Out, Gone}
use Rattle.chain_walk.proofs.Walking.{walk_passes, walk_drops}
use Rattle.frame_walk.specs.Stopping.{handed_on, MayHaveSeen, goes_out, StopsAt}

-- a walk with the functions that were passed before it
abbrev led : {F : Type 0} → List F → Walked F → Walked F
led front w = record { functions = front ++ w.functions; fate = w.fate }

same_frame : (a c : List ℕ) → Out a ≡ Out c → a ≡ c
same_frame a c e = cc

-- functions that pass a packet on, and one more that does
front_more : {F : Type 0} (b : Behaviour F) (time : ℕ) (xs : List F) (position : ℕ) (frame current : List ℕ) (y : F) → (walk b time position xs frame).fate ≡ Out current → is_drop (applied b time y current).verdict ≡ false →
    walk b time position (xs ++ y ∷ []) frame ≡ record { functions = (walk b time position xs frame).functions ++ (applied b time y current).after ∷ []; fate = Out (frame_after b time y current) }
unfolding walk
front_more b time [] position frame current y is passes =
    let same : frame ≡ current = same_frame frame current is in
    walk_passes b time position y [] frame (subst (λ c. is_drop (applied b time y c).verdict ≡ false) (sym same) passes)
    ∙ ap (λ c. record { functions = (applied b time y c).after ∷ []; fate = Out (frame_after b time y c) }) same
front_more {F} b time (x ∷ xs) position frame current y is passes = by_test (is_drop (applied b time x frame).verdict) refl (λ rest_is. front_more b time xs (position + 1) (frame_after b time x frame) current y rest_is passes)
  where
    after : F
    after = (applied b time x frame).after

    by_test : (t : Bool) → is_drop (applied b time x frame).verdict ≡ t →
        ((walk b time (position + 1) xs (frame_after b time x frame)).fate ≡ Out current →
        walk b time (position + 1) (xs ++ y ∷ []) (frame_after b time x frame) ≡ record { functions = (walk b time (position + 1) xs (frame_after b time x frame)).functions ++ (applied b time y current).after ∷ []; fate = Out (frame_after b time y current) }) →
        walk b time position (x ∷ (xs ++ y ∷ [])) frame ≡ record { functions = (walk b time position (x ∷ xs) frame).functions ++ (applied b time y current).after ∷ []; fate = Out (frame_after b time y current) }
    by_test true e rest = let gone : Gone position ≡ Out current = sym (ap (λ w. w.fate) (walk_drops b time position x xs frame e)) ∙ is in absurd cc
    by_test false e rest =
        let here = walk_passes b time position x xs frame e in
        walk_passes b time position x (xs ++ y ∷ []) frame e
        ∙ ap (then_walked after) (rest (sym (ap (λ w. w.fate) here) ∙ is))
        ∙ sym (ap (λ w. record { functions = w.functions ++ (applied b time y current).after ∷ []; fate = Out (frame_after b time y current) }) here)

-- the functions before this place passed the packet on, those from it on are unchanged, and the walk continues there
-- with this frame
pub record IsUnderWay {F : Type 0} (b : Behaviour F) (time : ℕ) (first : List F) (frame : List ℕ) (i : ℕ) (now : List F) (current : List ℕ) : Type 0 where
  pub same : led (take i now) (walk b time (i + 1) (drop i now) current) ≡ walk b time 1 first frame
  pub passed : (walk b time 1 (take i first) frame).fate ≡ Out current
  pub front : take i now ≡ (walk b time 1 (take i first) frame).functions
  pub later : drop i now ≡ drop i first
  pub size : length now ≡ length first

pub walk_begins : {F : Type 0} (b : Behaviour F) (time : ℕ) (first : List F) (frame : List ℕ) → IsUnderWay b time first frame 0 first frame
unfolding walk
walk_begins b time first frame = record { same = refl; passed = refl; front = refl; later = refl; size = refl }

-- the list with the function at this place in the state in which its step left it
parted : {F : Type 0} (now : List F) (i : ℕ) (y : F) (w : Walked F) → i < length now → led (take (i + 1) (set now i y)) w ≡ led (take i now) (then_walked y w)
parted now i y w inside = ap (λ front. led front w) (take_more_set now i y inside) ∙ ap (λ l. record { functions = l; fate = w.fate }) (append_assoc (take i now) (y ∷ []) w.functions)

-- the function at a place that no turn has reached
not_yet : {F : Type 0} (first now : List F) (i : ℕ) (d : F) → drop i now ≡ drop i first → get_or now i d ≡ get_or first i d
not_yet first now i d later =
    let here : i + 0 ≡ i = omega arith in
    ap (λ k. get_or now k d) (sym here) ∙ sym (get_or-drop i now 0 d) ∙ ap (λ l. get_or l 0 d) later ∙ get_or-drop i first 0 d ∙ ap (λ k. get_or first k d) here

behind_later : {F : Type 0} (first now : List F) (i : ℕ) → drop i now ≡ drop i first → drop (i + 1) now ≡ drop (i + 1) first
behind_later first now i later = sym (drop-drop 1 i now) ∙ ap (drop 1) later ∙ drop-drop 1 i first

turned : {F : Type 0} (b : Behaviour F) (time : ℕ) (first : List F) (frame : List ℕ) (i : ℕ) (now : List F) (current : List ℕ) (d : F) → IsUnderWay b time first frame i now current → i < length now →
    is_drop (applied b time (get_or now i d) current).verdict ≡ false →
    walk b time 1 (take (i + 1) first) frame ≡ record { functions = (walk b time 1 (take i first) frame).functions ++ (applied b time (get_or now i d) current).after ∷ []; fate = Out (frame_after b time (get_or now i d) current) }
turned b time first frame i now current d way inside passes =
    ap (λ l. walk b time 1 l frame) (take_more first i d (let size = way.size in omega arith) ∙ ap (λ z. take i first ++ z ∷ []) (sym (not_yet first now i d way.later)))
    ∙ front_more b time (take i first) 1 frame current (get_or now i d) way.passed passes

pub walk_goes_on : {F : Type 0} (b : Behaviour F) (time : ℕ) (first : List F) (frame : List ℕ) (i : ℕ) (now : List F) (current next : List ℕ) (d y : F) →
    IsUnderWay b time first frame i now current → i < length now → y ≡ (applied b time (get_or now i d) current).after → next ≡ frame_after b time (get_or now i d) current →
    is_drop (applied b time (get_or now i d) current).verdict ≡ false → IsUnderWay b time first frame (i + 1) (set now i y) next
walk_goes_on b time first frame i now current next d y way inside after left passes = record {
  same = ap (λ l. led (take (i + 1) (set now i y)) (walk b time (i + 1 + 1) l next)) (drop-set-lt (i + 1) now i y (omega arith))
      ∙ parted now i y (walk b time (i + 1 + 1) (drop (i + 1) now) next) inside
      ∙ ap (λ z. led (take i now) (then_walked z (walk b time (i + 1 + 1) (drop (i + 1) now) next))) after
      ∙ ap (λ n. led (take i now) (then_walked (applied b time (get_or now i d) current).after (walk b time (i + 1 + 1) (drop (i + 1) now) n))) left
      ∙ ap (led (take i now)) (sym (walk_passes b time (i + 1) (get_or now i d) (drop (i + 1) now) current passes))
      ∙ ap (λ l. led (take i now) (walk b time (i + 1) l current)) (sym (drop_more now i d inside))
      ∙ way.same;
  passed = ap (λ w. w.fate) (turned b time first frame i now current d way inside passes) ∙ ap (λ x. Out x) (sym left);
  front = take_more_set now i y inside ∙ ap (λ z. take i now ++ z ∷ []) after ∙ ap (λ l. l ++ (applied b time (get_or now i d) current).after ∷ []) way.front
      ∙ sym (ap (λ w. w.functions) (turned b time first frame i now current d way inside passes));
  later = drop-set-lt (i + 1) now i y (omega arith) ∙ behind_later first now i way.later;
  size = length-set now i y ∙ way.size;
}

-- the list around the function that drops the packet
around : {F : Type 0} (now : List F) (i : ℕ) (y : F) → i < length now → set now i y ≡ take i now ++ y ∷ drop (i + 1) now
around now i y inside = set_split now i y inside ∙ ap (λ n. take i now ++ y ∷ drop n now) (sym (add-one i))

pub walk_stops : {F : Type 0} (b : Behaviour F) (time : ℕ) (first : List F) (frame : List ℕ) (i : ℕ) (now : List F) (current : List ℕ) (d y : F) →
    IsUnderWay b time first frame i now current → i < length now → y ≡ (applied b time (get_or now i d) current).after → is_drop (applied b time (get_or now i d) current).verdict ≡ true →
    record { functions = set now i y; fate = Gone (i + 1) } ≡ walk b time 1 first frame
walk_stops b time first frame i now current d y way inside after drops =
    ap (λ l. record { functions = l; fate = Gone (i + 1) }) (around now i y inside)
    ∙ ap (λ z. led (take i now) (dropped_at (i + 1) z (drop (i + 1) now))) after
    ∙ ap (led (take i now)) (sym (walk_drops b time (i + 1) (get_or now i d) (drop (i + 1) now) current drops))
    ∙ ap (λ l. led (take i now) (walk b time (i + 1) l current)) (sym (drop_more now i d inside))
    ∙ way.same

pub walk_over : {F : Type 0} (b : Behaviour F) (time : ℕ) (first : List F) (frame : List ℕ) (i : ℕ) (now : List F) (current : List ℕ) →
    IsUnderWay b time first frame i now current → length first ≤ i → record { functions = now; fate = Out current } ≡ walk b time 1 first frame
unfolding walk
walk_over b time first frame i now current way past =
    let over : length now ≤ i = rw way.size past in
    ap (λ l. record { functions = l; fate = Out current }) (sym (append-nil now) ∙ ap (λ l. l ++ []) (sym (take_all i now over)))
    ∙ ap (λ l. led (take i now) (walk b time (i + 1) l current)) (sym (drop_all i now over))
    ∙ way.same

-- a walk that stops here
pub stops_here : {F : Type 0} (b : Behaviour F) (time : ℕ) (first : List F) (frame : List ℕ) (i : ℕ) (now : List F) (current : List ℕ) → IsUnderWay b time first frame i now current → i ≤ length first → StopsAt b time frame i first now
stops_here b time first frame i now current way within = record { within = within; first = way.front; passed = ap goes_out way.passed; others = way.later }

-- a walk that stops in the turn of a function
pub stops_in_turn : {F : Type 0} (b : Behaviour F) (time : ℕ) (first : List F) (frame : List ℕ) (i : ℕ) (now : List F) (current : List ℕ) (d y : F) → IsUnderWay b time first frame i now current → i < length now →
    MayHaveSeen b time (get_or now i d) current y → (seen : ℕ) × StopsAt b time frame seen first (set now i y)
stops_in_turn b time first frame i now current d y way inside (inl same) =
    (i, subst (λ l. StopsAt b time frame i first l) (sym (ap (set now i) same ∙ set-get_or now i d)) (stops_here b time first frame i now current way (let size = way.size in omega arith)))
stops_in_turn b time first frame i now current d y way inside (inr seen) =
    (i + 1, stops_here b time first frame (i + 1) (set now i y) (frame_after b time (get_or now i d) current) (walk_goes_on b time first frame i now current (frame_after b time (get_or now i d) current) d y way inside seen.1 refl seen.0) (let size = way.size in omega arith))

-- a function passed this frame on
pub handed_next : {F : Type 0} (b : Behaviour F) (time : ℕ) (f : F) (frame next : List ℕ) → Some next ≡ handed_on b time f frame → (is_drop (applied b time f frame).verdict ≡ false) × (next ≡ frame_after b time f frame)
handed_next b time f frame next is = by_test (is_drop (applied b time f frame).verdict) refl is
  where
    by_test : (t : Bool) → is_drop (applied b time f frame).verdict ≡ t → Some next ≡ (if t then None else Some (frame_after b time f frame)) → (is_drop (applied b time f frame).verdict ≡ false) × (next ≡ frame_after b time f frame)
    by_test true e same = absurd cc
    by_test false e same = (e, cc)

-- a function passed none on
pub handed_none : {F : Type 0} (b : Behaviour F) (time : ℕ) (f : F) (frame : List ℕ) → None ≡ handed_on b time f frame → is_drop (applied b time f frame).verdict ≡ true
handed_none b time f frame is = by_test (is_drop (applied b time f frame).verdict) refl is
  where
    by_test : (t : Bool) → is_drop (applied b time f frame).verdict ≡ t → ◌≡◌ {A = Option (List ℕ)} None (if t then None else Some (frame_after b time f frame)) → is_drop (applied b time f frame).verdict ≡ true
    by_test true e same = e
    by_test false e same = absurd cc
