-- How a walk continues from the function that it has reached, with what was told on the way.
use Rattle.std.proofs.Common.{◌≡◌, ◌<◌, ◌≤◌, ◌+◌, ◌∙◌, ℕ, Bool, List, [], ◌∷◌, ◌++◌, length, map, take, drop, set, get_or, refl, sym, ap, subst, add-one, append_assoc, arith}
use Rattle.std.specs.Prelude.{true, false, if◌then◌else◌, Option, Some, None}
use Rattle.std.proofs.lemmas.List.{append-nil, drop_more, drop-set-lt, drop_all, set_split, take_all, take_more_set}
use Rattle.std.proofs.Math.ListN.{length-set}
use Rattle.packet_fields.specs.Writing.{fields_of}
use Rattle.chain_walk.specs.Shown.{fixed_of}
use Rattle.chain_walk.specs.Step.{Behaviour, is_drop}
use Rattle.chain_walk.specs.Walk.{applied, frame_after}
use Rattle.chain_walk.specs.declared.walk.Fate.{Fate}
use Rattle.chain_walk.specs.declared.walk.Fate.TheVariants.{Out, Gone}
use Rattle.packet_function.specs.Deciding.{Deciding, decided}
use Rattle.traced_walk.specs.Traced.{Act, Traced, traced, drop_of, pass_of, drop_traced, then_traced}
use Rattle.traced_run.specs.declared.acts.Trace.{Trace}
use Rattle.traced_run.specs.declared.turn.Parted.{Parted}
use Rattle.traced_run.specs.Telling.{told, with_act, with_acts}
use Rattle.traced_run.specs.Turning.{IsParted, IsTurned, act_by}

-- the functions, the fate and the trace of a walk
pub record Told (F : Type 0) : Type 0 where
  pub functions : List F
  pub fate : Fate
  pub trace : Trace

-- a walk with the functions that were passed before it, and what is in the trace already
abbrev pub led : {F : Type 0} → List F → Trace → Traced F → Told F
led front trace t = record { functions = front ++ t.functions; fate = t.fate; trace = with_acts trace t.acts }

-- the functions before this place had their turns, and the walk continues there with this packet
pub record IsUnderWay {F : Type 0} (b : Behaviour F) (d : Deciding F) (time position : ℕ) (first : List F) (frame : List ℕ) (begun : Trace) (i : ℕ)
    (now : List F) (packet : Parted) (trace : Trace) : Type 0 where
  pub parted : IsParted packet
  pub clock : packet.time ≡ time
  pub same : led (take i now) trace (traced b d time (position + i) (drop i now) packet.frame) ≡ led [] begun (traced b d time position first frame)
  pub size : length now ≡ length first

-- what a function had its turn with
abbrev pub Turned : {F : Type 0} → Behaviour F → Deciding F → ℕ → List ℕ → F → F → Option Parted → Trace → Trace → Type 0
Turned b d time frame old new left before after = IsTurned b (decided b d (fixed_of time frame) old (fields_of frame)) time frame old new left before after

traced_passes : {F : Type 0} (b : Behaviour F) (d : Deciding F) (time position : ℕ) (f : F) (later : List F) (frame : List ℕ) → is_drop (applied b time f frame).verdict ≡ false
    → traced b d time position (f ∷ later) frame ≡ then_traced (pass_of b d time f frame) (applied b time f frame).after (traced b d time (position + 1) later (frame_after b time f frame))
unfolding traced
traced_passes b d time position f later frame h =
    ap (λ drops. if drops then drop_traced (drop_of b d time f frame) position (applied b time f frame).after later else then_traced
    (pass_of b d time f frame) (applied b time f frame).after (traced b d time (position + 1) later (frame_after b time f frame))) h

traced_drops : {F : Type 0} (b : Behaviour F) (d : Deciding F) (time position : ℕ) (f : F) (later : List F) (frame : List ℕ) → is_drop (applied b time f frame).verdict ≡ true
    → traced b d time position (f ∷ later) frame ≡ drop_traced (drop_of b d time f frame) position (applied b time f frame).after later
unfolding traced
traced_drops b d time position f later frame h =
    ap (λ drops. if drops then drop_traced (drop_of b d time f frame) position (applied b time f frame).after later else then_traced
    (pass_of b d time f frame) (applied b time f frame).after (traced b d time (position + 1) later (frame_after b time f frame))) h

-- one more function passed, and one more act told
one_more : {F : Type 0} (front : List F) (y : F) (trace : Trace) (act : Act) (t : Traced F) → led (front ++ y ∷ []) (with_act trace act) t ≡ led front trace (then_traced act y t)
one_more {F} front y trace act t =
    ap (λ (l : List F). let x : Told F = record { functions = l; fate = t.fate; trace = with_acts (with_act trace act) t.acts } in x) (append_assoc front (y ∷ []) t.functions)
    ∙ ap (λ acts. let x : Told F = record { functions = front ++ y ∷ t.functions; fate = t.fate; trace = record trace { acts = acts } } in x)
    (append_assoc trace.acts (told trace.keeps_frames act ∷ []) (map (told trace.keeps_frames) t.acts))

-- the act by the verdict
act_passes : {F : Type 0} (b : Behaviour F) (d : Deciding F) (time : ℕ) (f : F) (frame : List ℕ) → is_drop (applied b time f frame).verdict ≡ false
    → act_by b (decided b d (fixed_of time frame) f (fields_of frame)) time frame f ≡ pass_of b d time f frame
act_passes b d time f frame h = ap (λ drops. if drops then drop_of b d time f frame else pass_of b d time f frame) h

act_drops : {F : Type 0} (b : Behaviour F) (d : Deciding F) (time : ℕ) (f : F) (frame : List ℕ) → is_drop (applied b time f frame).verdict ≡ true
    → act_by b (decided b d (fixed_of time frame) f (fields_of frame)) time frame f ≡ drop_of b d time f frame
act_drops b d time f frame h = ap (λ drops. if drops then drop_of b d time f frame else pass_of b d time f frame) h

passed_on : (t : Bool) (next after : List ℕ) → Some next ≡ (if t then None else Some after) → (t ≡ false) × (next ≡ after)
passed_on true next after same = absurd cc
passed_on false next after same = (refl, cc)

passed_none : (t : Bool) (after : List ℕ) → ◌≡◌ {A = Option (List ℕ)} None (if t then None else Some after) → t ≡ true
passed_none true after same = refl
passed_none false after same = absurd cc

pub walk_begins : {F : Type 0} (b : Behaviour F) (d : Deciding F) (time position : ℕ) (first : List F) (frame : List ℕ) (begun : Trace) (packet : Parted)
    → IsParted packet → packet.time ≡ time → packet.frame ≡ frame
    → IsUnderWay b d time position first frame begun 0 first packet begun
walk_begins b d time position first frame begun packet parted clock at = record {
  parted = parted;
  clock = clock;
  same = ap (λ (n : ℕ). led [] begun (traced b d time n first packet.frame)) (let same : position + 0 ≡ position = omega arith in same)
      ∙ ap (λ (l : List ℕ). led [] begun (traced b d time position first l)) at;
  size = refl;
}

pub walk_goes_on : {F : Type 0} (b : Behaviour F) (d : Deciding F) (time position : ℕ) (first : List F) (frame : List ℕ) (begun : Trace) (i : ℕ)
    (now : List F) (packet next : Parted) (trace after : Trace) (e y : F)
    → IsUnderWay b d time position first frame begun i now packet trace → i < length now → Turned b d packet.time packet.frame (get_or now i e) y (Some next) trace after
    → IsUnderWay b d time position first frame begun (i + 1) (set now i y) next after
walk_goes_on {F} b d time position first frame begun i now packet next trace after e y way inside turn_at =
    let x : F = get_or now i e in
    let turned = subst (λ (t : ℕ). Turned b d t packet.frame x y (Some next) trace after) way.clock turn_at in
    let handed = passed_on (is_drop (applied b time x packet.frame).verdict) next.frame (frame_after b time x packet.frame) turned.passed in
    let act = pass_of b d time x packet.frame in
    let rest : List ℕ → Traced F = λ l. traced b d time (position + (i + 1)) (drop (i + 1) now) l in
    let there : position + (i + 1) ≡ position + i + 1 = omega arith in
    record {
      parted = turned.parted.0;
      clock = turned.parted.1;
      same =
          ap (λ (l : List F). led (take (i + 1) (set now i y)) after (traced b d time (position + (i + 1)) l next.frame)) (drop-set-lt (i + 1) now i y (omega arith))
          ∙ ap (λ (l : List F). led l after (rest next.frame)) (take_more_set now i y inside)
          ∙ ap (λ (z : F). led (take i now ++ z ∷ []) after (rest next.frame)) turned.function
          ∙ ap (λ (t : Trace). led (take i now ++ (applied b time x packet.frame).after ∷ []) t (rest next.frame)) (turned.told ∙ ap (with_act trace) (act_passes b d time x packet.frame handed.0))
          ∙ ap (λ (l : List ℕ). led (take i now ++ (applied b time x packet.frame).after ∷ []) (with_act trace act) (rest l)) handed.1
          ∙ one_more (take i now) (applied b time x packet.frame).after trace act (rest (frame_after b time x packet.frame))
          ∙ ap (λ (n : ℕ). led (take i now) trace (then_traced act (applied b time x packet.frame).after (traced b d time n (drop (i + 1) now) (frame_after b time x packet.frame)))) there
          ∙ ap (led (take i now) trace) (sym (traced_passes b d time (position + i) x (drop (i + 1) now) packet.frame handed.0))
          ∙ ap (λ (l : List F). led (take i now) trace (traced b d time (position + i) l packet.frame)) (sym (drop_more now i e inside))
          ∙ way.same;
      size = length-set now i y ∙ way.size;
    }

-- the list around the function that drops the packet
around : {F : Type 0} (now : List F) (i : ℕ) (y : F) → i < length now → set now i y ≡ take i now ++ y ∷ drop (i + 1) now
around now i y inside = set_split now i y inside ∙ ap (λ n. take i now ++ y ∷ drop n now) (sym (add-one i))

pub walk_stops : {F : Type 0} (b : Behaviour F) (d : Deciding F) (time position : ℕ) (first : List F) (frame : List ℕ) (begun : Trace) (i : ℕ)
    (now : List F) (packet : Parted) (trace after : Trace) (e y : F)
    → IsUnderWay b d time position first frame begun i now packet trace → i < length now → Turned b d packet.time packet.frame (get_or now i e) y None trace after
    → record { functions = set now i y; fate = Gone (position + i); trace = after } ≡ led [] begun (traced b d time position first frame)
walk_stops {F} b d time position first frame begun i now packet trace after e y way inside turn_at =
    let x : F = get_or now i e in
    let turned = subst (λ (t : ℕ). Turned b d t packet.frame x y None trace after) way.clock turn_at in
    let drops = passed_none (is_drop (applied b time x packet.frame).verdict) (frame_after b time x packet.frame) turned.passed in
    ap (λ (l : List F). let w : Told F = record { functions = l; fate = Gone (position + i); trace = after } in w) (around now i y inside)
    ∙ ap (λ (z : F). let w : Told F = record { functions = take i now ++ z ∷ drop (i + 1) now; fate = Gone (position + i); trace = after } in w) turned.function
    ∙ ap (λ (t : Trace). let w : Told F = record { functions = take i now ++ (applied b time x packet.frame).after ∷ drop (i + 1) now; fate = Gone (position + i); trace = t } in w) (turned.told
    ∙ ap (with_act trace) (act_drops b d time x packet.frame drops))
    ∙ ap (led (take i now) trace) (sym (traced_drops b d time (position + i) x (drop (i + 1) now) packet.frame drops))
    ∙ ap (λ (l : List F). led (take i now) trace (traced b d time (position + i) l packet.frame)) (sym (drop_more now i e inside))
    ∙ way.same

nothing_told : {F : Type 0} (functions : List F) (fate : Fate) (trace : Trace)
    → ◌≡◌ {A = Told F} (record { functions = functions; fate = fate; trace = trace }) (record { functions = functions ++ []; fate = fate; trace = with_acts trace [] })
nothing_told {F} functions fate trace =
    ap (λ (l : List F). let w : Told F = record { functions = l; fate = fate; trace = trace } in w) (sym (append-nil functions))
    ∙ ap (λ acts. let w : Told F = record { functions = functions ++ []; fate = fate; trace = record trace { acts = acts } } in w) (sym (append-nil trace.acts))

pub walk_over : {F : Type 0} (b : Behaviour F) (d : Deciding F) (time position : ℕ) (first : List F) (frame : List ℕ) (begun : Trace) (i : ℕ) (now : List F) (packet : Parted) (trace : Trace)
    → IsUnderWay b d time position first frame begun i now packet trace → length now ≤ i
    → record { functions = now; fate = Out packet.frame; trace = trace } ≡ led [] begun (traced b d time position first frame)
unfolding traced
walk_over {F} b d time position first frame begun i now packet trace way past =
    nothing_told now (Out packet.frame) trace
    ∙ ap (λ (l : List F). let w : Told F = record { functions = l ++ []; fate = Out packet.frame; trace = with_acts trace [] } in w) (sym (take_all i now past))
    ∙ ap (λ (l : List F). led (take i now) trace (traced b d time (position + i) l packet.frame)) (sym (drop_all i now past))
    ∙ way.same
