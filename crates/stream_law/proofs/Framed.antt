-- A burst of whole frames, split into parts, and passed through a graph.
use Rattle.std.proofs.Common.{◌≡◌, ◌∙◌, ◌≤◌, ◌+◌, ◌*◌, ℕ, zero, suc, Bool, true, false, List, [], ◌∷◌, map, length, sym, ap, refl, subst, arith}
use mathlib.Core.Path.{fun_ext}
use Rattle.std.specs.Prelude.{All, Option, Some, None, option_map, IfSome, if◌then◌else◌}
use Rattle.std.proofs.lemmas.List.Elements.{All-nil, All-cons}
use Rattle.packet_fields.specs.Fields.{value}
use Rattle.packet_fields.specs.Writing.{fields_of, rest_of}
use Rattle.packet_fields.specs.declared.field.Field.TheVariants.{Tag}
use Rattle.action_profile.specs.declared.rights.Profile.{Profile}
use Rattle.packet_fields.specs.declared.field.Field.{Field}
use Rattle.chain_walk.specs.Laws.{KeepsProfile}
use Rattle.chain_walk.specs.Packets.{Packet, fates, functions_after}
use Rattle.chain_walk.specs.Shown.{AreWellFormed, fixed_of}
use Rattle.chain_walk.specs.Step.{Behaviour, is_drop}
use Rattle.chain_walk.specs.Walk.{walk, applied, frame_after, then_walked, dropped_at, EndsWithin}
use Rattle.chain_walk.specs.declared.walk.Fate.{Fate}
use Rattle.graph_compile.specs.declared.graph.Graph.{Graph}
use Rattle.packet_version.specs.Parts.{PlainPart, values_of}
use Rattle.packet_version.specs.Splitting.{IsWhole, fresh, packet_parts, spare_room, split_parts, taken_apart}
use Rattle.packet_version.specs.Tallies.{count_of, raised}
use Rattle.merge_ops.specs.Fates.{fate_behind}
use Rattle.merge_ops.specs.declared.merging.Merged.{Merged}
use Rattle.burst_law.specs.Bursts.{Message, Message.Here, chain_burst}
use Rattle.burst_law.specs.Copies.{chain_copies}
use Rattle.burst_law.specs.Frames.{message_of}
use Rattle.graph_run.specs.Carrying.{values_in}
use Rattle.graph_run.specs.Counting.{RaisesUpTo, copies_made}
use Rattle.graph_run.specs.Leading.{Leads}
use Rattle.graph_run.specs.Rooms.{adders_from}
use Rattle.graph_run.specs.Running.{PlainRunning}
use Rattle.graph_run.specs.Stages.{GoesFrom}
use Rattle.stream_law.specs.Apart.{apart_of, all_apart}
use Rattle.stream_law.specs.Ended.{HasEnded}
use Rattle.stream_law.specs.Messages.{as_message}
use Rattle.stream_law.specs.Ready.{AllEnter, Fits, MayEnter}
use Rattle.stream_law.proofs.Fated.{BuiltAgain, FatesInBursts, fates_behind, copies_walked}

-- the laws of splitting frames, as they are cited
abbrev pub PartsComeApart : Type 0
PartsComeApart = (taggers time : ℕ) (frame : List ℕ) → packet_parts (taken_apart taggers time frame) ≡ split_parts taggers frame

abbrev pub PartsAreWhole : Type 0
PartsAreWhole = (taggers time : ℕ) (frame : List ℕ) → IsWhole (packet_parts (taken_apart taggers time frame)) (rest_of frame)

abbrev pub FramesAreFormed : Type 0
FramesAreFormed = (frame : List ℕ) → AreWellFormed (fields_of frame)

value_split : (spare : ℕ) (o : Option (List ℕ)) → option_map (λ (p : PlainPart). p.bytes) (option_map (fresh spare) o) ≡ o
value_split spare None = refl
value_split spare (Some bytes) = refl

room_split : (spare adders : ℕ) (o : Option (List ℕ)) → spare ≡ 4 * adders → IfSome (option_map (fresh spare) o) (λ tags. length tags.bytes + 4 * adders ≤ tags.room)
room_split spare adders None is = tt
room_split spare adders (Some bytes) is = omega arith

-- the values of a packet that was split are the fields of its frame
values_apart : (taggers : ℕ) (p : Packet) → PartsComeApart → values_in (taken_apart taggers p.time p.frame) ≡ fields_of p.frame
values_apart taggers p law = ap values_of (law taggers p.time p.frame) ∙ fun_ext (λ f. value_split (spare_room taggers f) (value f p.frame))

-- so the packets are those of the law of bursts
messages_apart : (taggers : ℕ) (packets : List Packet) → PartsComeApart → map as_message (all_apart taggers packets) ≡ map message_of packets
messages_apart taggers [] law = refl
messages_apart taggers (p ∷ packets) law = λ i. Here (fixed_of p.time p.frame) (values_apart taggers p law i) ∷ messages_apart taggers packets law i

-- each is made of the parts of its frame
pub all_fit : (taggers : ℕ) (packets : List Packet) → PartsAreWhole → All Fits (all_apart taggers packets)
all_fit taggers [] law = All-nil Fits
all_fit taggers (p ∷ packets) law = All-cons Fits (apart_of taggers p) (all_apart taggers packets) (law taggers p.time p.frame) (all_fit taggers packets law)

goes_first : (chain : List Profile) (taggers : ℕ) (p : Packet) → PartsComeApart → FramesAreFormed → taggers ≡ adders_from chain 1 → GoesFrom chain 1 (taken_apart taggers p.time p.frame)
goes_first chain taggers p law formed adders = record {
  formed = subst AreWellFormed (sym (values_apart taggers p law)) (formed p.frame);
  room = subst (λ m. IfSome (m Tag) (λ tags. length tags.bytes + 4 * adders_from chain 1 ≤ tags.room)) (sym (law taggers p.time p.frame))
      (room_split (4 * taggers) (adders_from chain 1) (value Tag p.frame) (ap (λ n. 4 * n) adders));
}

-- and may enter the first stage
pub all_enter : (chain : List Profile) (taggers : ℕ) (packets : List Packet) → PartsComeApart → FramesAreFormed → taggers ≡ adders_from chain 1 → AllEnter chain 1 (all_apart taggers packets)
all_enter chain taggers [] law formed adders k m e = absurd cc
all_enter chain taggers (p ∷ packets) law formed adders zero m e = let same : apart_of taggers p ≡ m = cc in subst (MayEnter chain 1) same (goes_first chain taggers p law formed adders)
all_enter chain taggers (p ∷ packets) law formed adders (suc k) m e = all_enter chain taggers packets law formed adders k m e

abbrev pub FunctionsInBursts : Type 0 → Type 0
FunctionsInBursts F = (b : Behaviour F) (functions : List F) (packets : List Packet) → KeepsProfile b → functions_after b functions packets ≡ (chain_burst b functions (map message_of packets)).state

abbrev pub WalksWithin : Type 0 → Type 0
WalksWithin F = (b : Behaviour F) (time : ℕ) (functions : List F) (frame : List ℕ) → EndsWithin (length functions) (walk b time 1 functions frame).fate

-- a walk leaves as many functions
walk_many : {F : Type 0} (b : Behaviour F) (time position : ℕ) (functions : List F) (frame : List ℕ) → length (walk b time position functions frame).functions ≡ length functions
unfolding walk
walk_many b time position [] frame = refl
walk_many b time position (f ∷ later) frame = by_test (is_drop (applied b time f frame).verdict) (walk_many b time (position + 1) later (frame_after b time f frame))
  where
    by_test : (t : Bool) → length (walk b time (position + 1) later (frame_after b time f frame)).functions ≡ length later →
        length (if t then dropped_at position (applied b time f frame).after later else then_walked (applied b time f frame).after (walk b time (position + 1) later (frame_after b time f frame))).functions ≡ suc (length later)
    by_test true e = refl
    by_test false e = ap suc e

-- every packet that is gone was dropped within the chain
all_within : {F : Type 0} (b : Behaviour F) (functions : List F) (packets : List Packet) → WalksWithin F → All (EndsWithin (length functions)) (fates b functions packets)
unfolding fates
all_within b functions [] law = All-nil (EndsWithin (length functions))
all_within {F} b functions (p ∷ packets) law =
    let left : List F = (walk b p.time 1 functions p.frame).functions in
    All-cons (EndsWithin (length functions)) (walk b p.time 1 functions p.frame).fate (fates b left packets) (law b p.time functions p.frame)
    (subst (λ n. All (EndsWithin n) (fates b left packets)) (walk_many b p.time 1 functions p.frame) (all_within b left packets law))

-- the copies are those of the walks
copies_same : {F : Type 0} (b : Behaviour F) (graph : Graph) (functions : List F) (taggers : ℕ) (packets : List Packet) (f : Field) → PartsComeApart → FatesInBursts F → KeepsProfile b →
    chain_copies b graph.stages f functions (map as_message (all_apart taggers packets)) ≡ copies_made graph.stages packets (fates b functions packets) f
copies_same b graph functions taggers packets f parts law keeps = ap (λ (l : List Message). chain_copies b graph.stages f functions l) (messages_apart taggers packets parts) ∙ copies_walked b graph.stages functions packets f law keeps

pub refused : {F : Type 0} (b : Behaviour F) (graph : Graph) (functions : List F) (taggers : ℕ) (packets : List Packet) (old new : List ℕ) → PartsComeApart → FatesInBursts F → KeepsProfile b →
    RaisesUpTo (λ f. chain_copies b graph.stages f functions (map as_message (all_apart taggers packets))) old new → RaisesUpTo (copies_made graph.stages packets (fates b functions packets)) old new
refused b graph functions taggers packets old new parts law keeps within = λ f.
    ((within f).0, subst (λ n. count_of new f ≤ raised (count_of old f) n) (copies_same b graph functions taggers packets f parts law keeps) (within f).1)

-- the functions, the fates and the counts, if the burst has passed all stages
pub led : {F : Type 0} (b : Behaviour F) (run after : PlainRunning F) (taggers : ℕ) (packets : List Packet) (behind : List Merged) (done : List Fate) (old new : List ℕ) →
    PartsComeApart → BuiltAgain F → FatesInBursts F → FunctionsInBursts F → WalksWithin F → KeepsProfile b →
    HasEnded b run (all_apart taggers packets) after.functions behind old new → after.graph ≡ run.graph → done ≡ map fate_behind behind → Leads b run packets old new after done
led {F} b run after taggers packets behind done old new parts again fates_law functions_law within keeps passed stays ends =
    let messages = messages_apart taggers packets parts in
    let ended : done ≡ fates b run.functions packets =
    ends ∙ fates_behind b taggers run.functions packets behind again keeps passed.rests (passed.packets_are ∙ ap (λ (l : List Message). (chain_burst b run.functions l).gives) messages) ∙ sym (fates_law b run.functions packets keeps) in
    record {
      fates = ended;
      functions = passed.functions_are ∙ ap (λ (l : List Message). (chain_burst b run.functions l).state) messages ∙ sym (functions_law b run.functions packets keeps);
      graph = stays;
      within = subst (All (EndsWithin (length run.functions))) (sym ended) (all_within b run.functions packets within);
      counted = λ f. passed.counted f ∙ ap (raised (count_of old f)) (copies_same b run.graph run.functions taggers packets f parts fates_law keeps);
    }
