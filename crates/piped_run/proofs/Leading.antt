-- A burst of whole frames that nodes passed through a graph.
use Rattle.std.proofs.Common.{◌≡◌, ◌∙◌, ◌≤◌, ℕ, suc, Bool, true, false, List, [], ◌∷◌, map, length, sym, ap, subst, arith}
use Rattle.std.specs.Prelude.{filter, if◌then◌else◌}
use Rattle.std.proofs.lemmas.List.{length-map}
use Rattle.packet_fields.specs.declared.field.Field.{Field}
use Rattle.capture_bytes.specs.declared.packet.Unit.{Unit as TimeUnit}
use Rattle.chain_walk.specs.Packets.{Packet, fates}
use Rattle.chain_walk.specs.Step.{Behaviour}
use Rattle.chain_walk.specs.declared.walk.Fate.{Fate}
use Rattle.classifier.specs.declared.burst.Item.{Item}
use Rattle.graph_compile.specs.declared.graph.Graph.{Graph}
use Rattle.packet_version.specs.Tallies.{count_of, raised}
use Rattle.graph_run.specs.Counting.{RaisesAll, RaisesUpTo, copies_made}
use Rattle.graph_run.specs.Leading.{Leads}
use Rattle.graph_run.specs.Packets.{is_of, packet_of, packets_taken}
use Rattle.graph_run.specs.Rooms.{adders_from}
use Rattle.graph_run.specs.Running.{PlainRunning, profiles_of}
use Rattle.stream_law.specs.Apart.{all_apart}
use Rattle.piped_run.specs.Frames.{PlainFrames, apart_from}

-- the packets that are split are those of the burst, with room for the tags that the functions add
pub frames_same : {F : Type 0} (b : Behaviour F) (functions shown : List F) (taggers : ℕ) (unit : TimeUnit) (chain : ℕ) (items here : List Item) (frames : PlainFrames) →
    taggers ≡ adders_from (map b.profile shown) 1 → shown ≡ functions → here ≡ items → frames ≡ record { taggers = taggers; packets = packets_taken unit chain here } →
    all_apart (adders_from (profiles_of b functions) 1) (packets_taken unit chain items) ≡ apart_from frames
frames_same {F} b functions shown taggers unit chain items here frames adders are is made =
    sym (ap apart_from made ∙ (λ i. all_apart ((adders ∙ ap (λ (l : List F). adders_from (map b.profile l) 1) are) i) (packets_taken unit chain (is i))))

pub taken_few : (unit : TimeUnit) (chain : ℕ) (items : List Item) → length (packets_taken unit chain items) ≤ length items
taken_few unit chain items = let same = length-map (filter (is_of chain) items) (packet_of unit) in let fewer = fewer_left items in omega arith
  where
    fewer_left : (items : List Item) → length (filter (is_of chain) items) ≤ length items
    fewer_left [] = omega arith
    fewer_left (x ∷ items) = by_test (is_of chain x) (fewer_left items)
      where
        by_test : (t : Bool) → length (filter (is_of chain) items) ≤ length items → length (if t then x ∷ filter (is_of chain) items else filter (is_of chain) items) ≤ suc (length items)
        by_test true h = omega arith
        by_test false h = omega arith

-- a run by its functions and its graph
pub same_run : {F : Type 0} (run : PlainRunning F) (functions : List F) (graph : Graph) → functions ≡ run.functions → graph ≡ run.graph → ◌≡◌ {A = PlainRunning F} (record { functions = functions; graph = graph }) run
same_run run functions graph is at = λ i. record { functions = is i; graph = at i }

up : (c n now : ℕ) → now ≡ raised c n → (c ≤ now) × (now ≤ raised c n)
up c n now e = (omega arith, omega arith)

pub raised_up : (by : Field → ℕ) (old new : List ℕ) → RaisesAll by old new → RaisesUpTo by old new
raised_up by old new all f = up (count_of old f) (by f) (count_of new f) (all f)

-- what is said about a run holds for one that is the same
pub led_so : {F : Type 0} (b : Behaviour F) (run was : PlainRunning F) (packets : List Packet) (old new : List ℕ) (after : PlainRunning F) (ended : List Fate) → was ≡ run → Leads b was packets old new after ended → Leads b run packets old new after ended
led_so {F} b run was packets old new after ended is leads = subst (λ (r : PlainRunning F). Leads b r packets old new after ended) is leads

pub refused_so : {F : Type 0} (b : Behaviour F) (run was : PlainRunning F) (packets : List Packet) (old new : List ℕ) → was ≡ run → RaisesUpTo (copies_made was.graph.stages packets (fates b was.functions packets)) old new → RaisesUpTo (copies_made run.graph.stages packets (fates b run.functions packets)) old new
refused_so {F} b run was packets old new is within = subst (λ (r : PlainRunning F). RaisesUpTo (copies_made r.graph.stages packets (fates b r.functions packets)) old new) is within
