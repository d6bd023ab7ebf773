-- The fates of packets after all stages, and the copies that were made of them.
use Rattle.std.proofs.Common.{◌≡◌, ◌∙◌, ◌+◌, ℕ, suc, List, [], ◌∷◌, map, sym, ap, refl, arith}
use Rattle.std.specs.Prelude.{zip, is_some, if◌then◌else◌}
use Rattle.std.specs.List.{sum_by}
use Rattle.std.proofs.lemmas.List.Sums.{sum_by-cons}
use Rattle.packet_fields.specs.Fields.{value}
use Rattle.packet_fields.specs.Writing.{fields_of, rest_of, written}
use Rattle.packet_fields.specs.declared.field.Field.{Field}
use Rattle.chain_walk.specs.FieldWalk.{End, End.Out, End.Gone, walk_fields}
use Rattle.chain_walk.specs.Laws.{KeepsProfile}
use Rattle.chain_walk.specs.Packets.{Packet, fates}
use Rattle.chain_walk.specs.Shown.{Values, fixed_of}
use Rattle.chain_walk.specs.Step.{Behaviour}
use Rattle.chain_walk.specs.declared.walk.Fate.TheVariants as fated
use Rattle.graph_compile.specs.Positions.{stands}
use Rattle.graph_compile.specs.declared.graph.Stage.{Stage}
use Rattle.packet_version.specs.Splitting.{PlainApart, taken_apart}
use Rattle.merge_ops.specs.declared.merging.Merged.{Merged}
use Rattle.merge_ops.specs.declared.merging.Merged.TheVariants as ends
use Rattle.burst_law.specs.Stations.{one_by_one}
use Rattle.burst_law.specs.Bursts.{Message, Message.Here, Message.Lost, ended, chain_turn, chain_burst}
use Rattle.burst_law.specs.Copies.{reached_by, copies_for, chain_copies}
use Rattle.burst_law.specs.Frames.{message_of, fate_of, fates_of}
use Rattle.graph_run.specs.Carrying.{values_in}
use Rattle.graph_run.specs.Counting.{reached, copies_in, copies_of, copies_made}
use Rattle.stream_law.specs.Rests.{KeepsRest, KeepsRests}
use Rattle.stream_law.specs.Messages.{as_message}
use Rattle.merge_ops.specs.Fates.{fate_behind}
use Rattle.stream_law.specs.Apart.{apart_of, all_apart}

-- the laws of whole frames on which a run rests
abbrev pub BuiltAgain : Type 0 → Type 0
BuiltAgain F = (b : Behaviour F) (time position : ℕ) (functions : List F) (frame : List ℕ) (after : Values) → KeepsProfile b → (walk_fields b (fixed_of time frame) position functions (fields_of frame)).end ≡ Out after → written after (rest_of frame) ≡ written after frame

abbrev pub FatesInBursts : Type 0 → Type 0
FatesInBursts F = (b : Behaviour F) (functions : List F) (packets : List Packet) → KeepsProfile b → fates b functions packets ≡ fates_of packets (chain_burst b functions (map message_of packets)).gives

-- one packet with this end
fate_one : {F : Type 0} (b : Behaviour F) (functions : List F) (p : Packet) (whole : PlainApart) (m : Merged) (end : End) → BuiltAgain F → KeepsProfile b → whole.rest ≡ rest_of p.frame → KeepsRest (ends.Whole whole) m →
    (walk_fields b (fixed_of p.time p.frame) 1 functions (fields_of p.frame)).end ≡ end → as_message m ≡ ended (fixed_of p.time p.frame) end → fate_behind m ≡ fate_of p.frame (ended (fixed_of p.time p.frame) end)
fate_one {F} b functions p whole (ends.Whole after) (Out values) again keeps first rest walks is =
    let same : values_in after ≡ values = ap values_of is in
    ap (λ (l : List ℕ). fated.Out (written (values_in after) l)) (rest ∙ first)
    ∙ ap (λ (v : Values). fated.Out (written v (rest_of p.frame))) same
    ∙ ap (λ (l : List ℕ). fated.Out l) (again b p.time 1 functions p.frame values keeps walks)
  where
    values_of : Message → Values
    values_of (Here fixed v) = v
    values_of (Lost q) = values_in after
fate_one b functions p whole (ends.Whole after) (Gone q) again keeps first rest walks is = absurd cc
fate_one b functions p whole (ends.Gone q) (Out values) again keeps first rest walks is = absurd cc
fate_one b functions p whole (ends.Gone q) (Gone r) again keeps first rest walks is = ap (fate_of p.frame) is
fate_one b functions p whole ends.Short end again keeps first rest walks is = absurd rest

-- one for one
rests_head : (m n : Merged) (packets after : List Merged) → KeepsRests (m ∷ packets) (n ∷ after) → KeepsRest m n × KeepsRests packets after
rests_head m n packets after keeps = (keeps.each 0 m n refl refl, record { count = let c = keeps.count in omega arith; each = λ k x y a e. keeps.each (suc k) x y a e })

-- the fates of all
pub fates_behind : {F : Type 0} (b : Behaviour F) (taggers : ℕ) (functions : List F) (packets : List Packet) (after : List Merged) → BuiltAgain F → KeepsProfile b → KeepsRests (all_apart taggers packets) after →
    map as_message after ≡ (chain_burst b functions (map message_of packets)).gives → map fate_behind after ≡ fates_of packets (chain_burst b functions (map message_of packets)).gives
unfolding one_by_one
fates_behind b taggers functions [] [] again keeps rests is = refl
fates_behind b taggers functions [] (m ∷ after) again keeps rests is = absurd (let c = rests.count in omega arith)
fates_behind b taggers functions (p ∷ packets) [] again keeps rests is = absurd (let c = rests.count in omega arith)
fates_behind b taggers functions (p ∷ packets) (m ∷ after) again keeps rests is =
    let head = rests_head (apart_of taggers p) m (all_apart taggers packets) after rests in
    let step = chain_turn b 1 functions (message_of p) in
    let both = heads (as_message m) step.gives (map as_message after) (chain_burst b step.state (map message_of packets)).gives is in
    λ i. fate_one b functions p (taken_apart taggers p.time p.frame) m (walk_fields b (fixed_of p.time p.frame) 1 functions (fields_of p.frame)).end again keeps refl head.0 refl both.0 i
    ∷ fates_behind b taggers step.state packets after again keeps head.1 both.1 i
  where
    heads : (x y : Message) (xs ys : List Message) → ◌≡◌ {A = List Message} (x ∷ xs) (y ∷ ys) → (x ≡ y) × (xs ≡ ys)
    heads x y xs ys e = (cc, cc)

-- the stages that a packet reaches
reached_same : (stages : List Stage) (frame : List ℕ) (m : Message) → reached_by stages m ≡ reached stages (fate_of frame m)
reached_same [] frame m = refl
reached_same (s ∷ stages) frame (Here fixed values) = ap (λ l. s ∷ l) (reached_same stages frame (Here fixed values))
reached_same (s ∷ stages) frame (Lost p) = ap (λ l. s ∷ (if stands p s then [] else l)) (reached_same stages frame (Lost p))

copies_one : (stages : List Stage) (f : Field) (p : Packet) (m : Message) → copies_for stages f (message_of p) m ≡ copies_of stages p.frame (fate_of p.frame m) f
copies_one stages f p m = ap (λ l. if is_some (value f p.frame) then copies_in l f else 0) (reached_same stages p.frame m)

copies_zip : (stages : List Stage) (f : Field) (packets : List Packet) (ms : List Message) → sum_by (λ x. copies_for stages f x.0 x.1) (zip (map message_of packets) ms) ≡ sum_by (λ x. copies_of stages x.0.frame x.1 f) (zip packets (fates_of packets ms))
copies_zip stages f [] ms = refl
copies_zip stages f (p ∷ packets) [] = refl
copies_zip stages f (p ∷ packets) (m ∷ ms) =
    sum_by-cons (λ x. copies_for stages f x.0 x.1) (message_of p, m) (zip (map message_of packets) ms)
    ∙ ((λ i. copies_one stages f p m i + copies_zip stages f packets ms i)
    ∙ sym (sum_by-cons (λ x. copies_of stages x.0.frame x.1 f) (p, fate_of p.frame m) (zip packets (fates_of packets ms))))

-- the copies of packets that walk
pub copies_walked : {F : Type 0} (b : Behaviour F) (stages : List Stage) (functions : List F) (packets : List Packet) (f : Field) → FatesInBursts F → KeepsProfile b → chain_copies b stages f functions (map message_of packets) ≡ copies_made stages packets (fates b functions packets) f
unfolding copies_made
copies_walked b stages functions packets f law keeps =
    copies_zip stages f packets (chain_burst b functions (map message_of packets)).gives
    ∙ ap (λ l. sum_by (λ x. copies_of stages x.0.frame x.1 f) (zip packets l)) (sym (law b functions packets keeps))
