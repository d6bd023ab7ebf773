-- How the walk through the parts of a chain continues from the part that it has reached.
use Rattle.std.proofs.Common.{◌≡◌, ◌<◌, ◌≤◌, ◌+◌, ◌∙◌, ℕ, List, [], ◌∷◌, ◌++◌, length, map, take, drop, set, get_or, refl, sym, ap, subst, sum_by, add-one, append_assoc, arith}
use Rattle.std.proofs.lemmas.List.{append-nil, drop_more, drop-set-lt, drop_all, get_or_default, map-append, set-set, set_split, take_all, take_more_set}
use Rattle.std.proofs.lemmas.List.Sums.{sum_by-cons}
use Rattle.std.proofs.Math.ListN.{length-set}
use Rattle.chain_walk.specs.Step.{Behaviour}
use Rattle.chain_walk.specs.declared.walk.Fate.{Fate}
use Rattle.chain_walk.specs.declared.walk.Fate.TheVariants.{Out, Gone}
use Rattle.packet_function.specs.Deciding.{Deciding}
use Rattle.piece_walk.specs.Pieces.{Piece, count_of}
use Rattle.traced_walk.specs.Traced.{Act, LongTraced, long_traced}
use Rattle.traced_run.specs.declared.acts.Trace.{Trace}
use Rattle.traced_run.specs.Telling.{told, with_acts}
use Rattle.plain_chains.specs.Leading.{IsLed, alone}
use Rattle.plain_chains.proofs.OnePart.{behind, before, goes_out, stops}

-- the pieces, the fate and the trace of a walk
pub record Told (F : Type 0) : Type 0 where
  pub pieces : List (Piece F)
  pub fate : Fate
  pub trace : Trace

-- a walk with the pieces that were passed before it, and what is in the trace already
abbrev pub led : {F : Type 0} → List (Piece F) → Trace → LongTraced F → Told F
led front trace t = record { pieces = front ++ t.pieces; fate = t.fate; trace = with_acts trace t.acts }

-- The parts before this place had their turns, and the walk continues there with this frame.
pub record IsUnderWay {P F : Type 0} (part_of : P → Piece F) (b : Behaviour F) (d : Deciding F) (time : ℕ) (first : List P) (entered : List ℕ) (begun : Trace) (i : ℕ)
    (now : List P) (position : ℕ) (frame : List ℕ) (trace : Trace) : Type 0 where
  pub same : led (map part_of (take i now)) trace (long_traced b d time position (map part_of (drop i now)) frame) ≡ led [] begun (long_traced b d time 1 (map part_of first) entered)
  pub from_one : 1 ≤ position
  pub few : position + sum_by count_of (map part_of (drop i now)) ≤ 65
  pub size : length now ≡ length first

-- one more part, and its acts told
one_more : {F : Type 0} (front : List (Piece F)) (trace : Trace) (one rest : LongTraced F) → led (front ++ one.pieces) (with_acts trace one.acts) rest ≡ led front trace (behind one rest)
one_more {F} front trace one rest =
    ap (λ (l : List (Piece F)). let x : Told F = record { pieces = l; fate = rest.fate; trace = with_acts (with_acts trace one.acts) rest.acts } in x) (append_assoc front one.pieces rest.pieces)
    ∙ ap (λ acts. let x : Told F = record { pieces = front ++ (one.pieces ++ rest.pieces); fate = rest.fate; trace = record trace { acts = acts } } in x)
    (append_assoc trace.acts (map (told trace.keeps_frames) one.acts) (map (told trace.keeps_frames) rest.acts)
    ∙ ap (λ acts. trace.acts ++ acts) (sym (map-append (told trace.keeps_frames) one.acts rest.acts)))

nothing_told : {F : Type 0} (pieces : List (Piece F)) (fate : Fate) (trace : Trace)
    → ◌≡◌ {A = Told F} (record { pieces = pieces; fate = fate; trace = trace }) (record { pieces = pieces ++ []; fate = fate; trace = with_acts trace [] })
nothing_told {F} pieces fate trace =
    ap (λ (l : List (Piece F)). let w : Told F = record { pieces = l; fate = fate; trace = trace } in w) (sym (append-nil pieces))
    ∙ ap (λ acts. let w : Told F = record { pieces = pieces ++ []; fate = fate; trace = record trace { acts = acts } } in w) (sym (append-nil trace.acts))

-- the list around the part that drops the packet
around : {P : Type 0} (now : List P) (i : ℕ) (y : P) → i < length now → set now i y ≡ take i now ++ y ∷ drop (i + 1) now
around now i y inside = set_split now i y inside ∙ ap (λ n. take i now ++ y ∷ drop n now) (sym (add-one i))

module _ {P F : Type 0} (part_of : P → Piece F) (b : Behaviour F) (d : Deciding F) (time : ℕ) (first : List P) (entered : List ℕ) (begun : Trace) where
  pub walk_begins : sum_by count_of (map part_of first) ≤ 64 → IsUnderWay part_of b d time first entered begun 0 first 1 entered begun
  walk_begins few = record { same = refl; from_one = omega arith; few = omega (arith, few); size = refl }

  -- the rest begins with the part that is reached
  reached : (i : ℕ) (now : List P) (e : P) → i < length now → map part_of (drop i now) ≡ part_of (get_or now i e) ∷ map part_of (drop (i + 1) now)
  reached i now e inside = ap (map part_of) (drop_more now i e inside)

  pub part_is_small : (i : ℕ) (now : List P) (position : ℕ) (frame : List ℕ) (trace : Trace) (e : P) → IsUnderWay part_of b d time first entered begun i now position frame trace → i < length now →
      position + count_of (part_of (get_or now i e)) ≤ 65
  part_is_small i now position frame trace e way inside =
      omega (arith, way.few, ap (sum_by count_of) (reached i now e inside), sum_by-cons count_of (part_of (get_or now i e)) (map part_of (drop (i + 1) now)))

  pub count_is_small : (i : ℕ) (now : List P) (position : ℕ) (frame : List ℕ) (trace : Trace) (e : P) → IsUnderWay part_of b d time first entered begun i now position frame trace → i < length now →
      count_of (part_of (get_or now i e)) ≤ 64
  count_is_small i now position frame trace e way inside = omega (arith, part_is_small i now position frame trace e way inside, way.from_one)

  walk_goes_on : (i : ℕ) (now : List P) (position : ℕ) (frame next : List ℕ) (trace after : Trace) (e y : P) → IsUnderWay part_of b d time first entered begun i now position frame trace → i < length now →
      IsLed b d time position frame (part_of (get_or now i e)) (part_of y) (Out next) trace after →
      IsUnderWay part_of b d time first entered begun (i + 1) (set now i y) (position + count_of (part_of (get_or now i e))) next after
  walk_goes_on i now position frame next trace after e y way inside turn =
      let x : P = get_or now i e in
      let one : LongTraced F = alone b d time position (part_of x) frame in
      let rest : LongTraced F = long_traced b d time (position + count_of (part_of x)) (map part_of (drop (i + 1) now)) next in
      let later : drop (i + 1) (set now i y) ≡ drop (i + 1) now = drop-set-lt (i + 1) now i y (omega arith) in
      record {
        same =
            ap (λ (l : List P). led (map part_of (take (i + 1) (set now i y))) after (long_traced b d time (position + count_of (part_of x)) (map part_of l) next)) later
            ∙ ap (λ (l : List P). led (map part_of l) after rest) (take_more_set now i y inside)
            ∙ ap (λ (l : List (Piece F)). led l after rest) (map-append part_of (take i now) (y ∷ []))
            ∙ ap (λ (l : List (Piece F)). led (map part_of (take i now) ++ l) after rest) turn.piece
            ∙ ap (λ (t : Trace). led (map part_of (take i now) ++ one.pieces) t rest) turn.told
            ∙ one_more (map part_of (take i now)) trace one rest
            ∙ ap (led (map part_of (take i now)) trace) (sym (goes_out b d time position (part_of x) (map part_of (drop (i + 1) now)) frame next (sym turn.ends)))
            ∙ ap (λ (l : List (Piece F)). led (map part_of (take i now)) trace (long_traced b d time position l frame)) (sym (reached i now e inside))
            ∙ way.same;
        from_one = omega (arith, way.from_one);
        few = omega (arith, way.few, ap (sum_by count_of) (reached i now e inside), sum_by-cons count_of (part_of x) (map part_of (drop (i + 1) now)), ap (λ l. sum_by count_of (map part_of l)) later);
        size = length-set now i y ∙ way.size;
      }

  walk_stops : (i : ℕ) (now : List P) (position : ℕ) (frame : List ℕ) (place : ℕ) (trace after : Trace) (e y : P) → IsUnderWay part_of b d time first entered begun i now position frame trace → i < length now →
      IsLed b d time position frame (part_of (get_or now i e)) (part_of y) (Gone place) trace after →
      record { pieces = map part_of (set now i y); fate = Gone place; trace = after } ≡ led [] begun (long_traced b d time 1 (map part_of first) entered)
  walk_stops i now position frame place trace after e y way inside turn =
      let x : P = get_or now i e in
      let one : LongTraced F = alone b d time position (part_of x) frame in
      let later : List (Piece F) = map part_of (drop (i + 1) now) in
      let front : List (Piece F) = map part_of (take i now) in
      ap (λ (l : List P). let w : Told F = record { pieces = map part_of l; fate = Gone place; trace = after } in w) (around now i y inside)
      ∙ ap (λ (l : List (Piece F)). let w : Told F = record { pieces = l; fate = Gone place; trace = after } in w) (map-append part_of (take i now) (y ∷ drop (i + 1) now))
      ∙ ap (λ (l : List (Piece F)). let w : Told F = record { pieces = front ++ (l ++ later); fate = Gone place; trace = after } in w) turn.piece
      ∙ ap (λ (fate : Fate). let w : Told F = record { pieces = front ++ (one.pieces ++ later); fate = fate; trace = after } in w) turn.ends
      ∙ ap (λ (t : Trace). let w : Told F = record { pieces = front ++ (one.pieces ++ later); fate = one.fate; trace = t } in w) turn.told
      ∙ ap (led front trace) (sym (stops b d time position (part_of x) later frame place (sym turn.ends)))
      ∙ ap (λ (l : List (Piece F)). led front trace (long_traced b d time position l frame)) (sym (reached i now e inside))
      ∙ way.same

  pub walk_over : (i : ℕ) (now : List P) (position : ℕ) (frame : List ℕ) (trace : Trace) → IsUnderWay part_of b d time first entered begun i now position frame trace → length now ≤ i →
      record { pieces = map part_of now; fate = Out frame; trace = trace } ≡ led [] begun (long_traced b d time 1 (map part_of first) entered)
  unfolding long_traced
  walk_over i now position frame trace way past =
      nothing_told (map part_of now) (Out frame) trace
      ∙ ap (λ (l : List P). let w : Told F = record { pieces = map part_of l ++ []; fate = Out frame; trace = with_acts trace [] } in w) (sym (take_all i now past))
      ∙ ap (λ (l : List P). led (map part_of (take i now)) trace (long_traced b d time position (map part_of l) frame)) (sym (drop_all i now past))
      ∙ way.same

  -- the part that was taken out of its place
  taken_out : (i : ℕ) (now : List P) (position : ℕ) (frame : List ℕ) (trace after : Trace) (e out x y : P) (fate other : Fate) → i < length now → x ≡ get_or now i out → fate ≡ other →
      IsLed b d time position frame (part_of x) (part_of y) fate trace after → IsLed b d time position frame (part_of (get_or now i e)) (part_of y) other trace after
  taken_out i now position frame trace after e out x y fate other inside taken is turn =
      subst (λ (f : Fate). IsLed b d time position frame (part_of (get_or now i e)) (part_of y) f trace after) is
      (subst (λ (z : P). IsLed b d time position frame (part_of z) (part_of y) fate trace after) (taken ∙ get_or_default now i out e inside) turn)

  pub part_goes_on : (i : ℕ) (now : List P) (position : ℕ) (frame next : List ℕ) (trace after : Trace) (e out x y left : P) (fate : Fate) (count : ℕ) →
      IsUnderWay part_of b d time first entered begun i now position frame trace → i < length now → x ≡ get_or now i out → count ≡ count_of (part_of (get_or now i e)) → fate ≡ Out next →
      IsLed b d time position frame (part_of x) (part_of y) fate trace after → IsUnderWay part_of b d time first entered begun (i + 1) (set (set now i left) i y) (position + count) next after
  part_goes_on i now position frame next trace after e out x y left fate count way inside taken counted is turn =
      subst (λ (l : List P). IsUnderWay part_of b d time first entered begun (i + 1) l (position + count) next after) (sym (set-set now i left y))
      (subst (λ (n : ℕ). IsUnderWay part_of b d time first entered begun (i + 1) (set now i y) (position + n) next after) (sym counted)
      (walk_goes_on i now position frame next trace after e y way inside (taken_out i now position frame trace after e out x y fate (Out next) inside taken is turn)))

  pub part_stops : (i : ℕ) (now : List P) (position : ℕ) (frame : List ℕ) (place : ℕ) (trace after : Trace) (out x y left : P) (fate : Fate) →
      IsUnderWay part_of b d time first entered begun i now position frame trace → i < length now → x ≡ get_or now i out → fate ≡ Gone place →
      IsLed b d time position frame (part_of x) (part_of y) fate trace after →
      record { pieces = map part_of (set (set now i left) i y); fate = Gone place; trace = after } ≡ led [] begun (long_traced b d time 1 (map part_of first) entered)
  part_stops i now position frame place trace after out x y left fate way inside taken is turn =
      ap (λ (l : List P). let w : Told F = record { pieces = map part_of l; fate = Gone place; trace = after } in w) (set-set now i left y)
      ∙ walk_stops i now position frame place trace after out y way inside (taken_out i now position frame trace after out out x y fate (Gone place) inside taken is turn)
