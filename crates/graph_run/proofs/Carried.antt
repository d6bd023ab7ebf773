-- A version goes on from function to function.
use Rattle.std.proofs.Common.{◌≡◌, ◌∙◌, ◌≤◌, ◌+◌, ◌*◌, ℕ, Bool, true, false, List, length, sym, ap, refl, subst, arith}
use Rattle.std.specs.Prelude.{Option, Some, None, is_some, ◌&&◌, IfSome, IsSomeAnd, if◌then◌else◌}
use Rattle.packet_fields.specs.Frames.{is_tag_list}
use Rattle.packet_fields.specs.declared.field.Field.{Field}
use Rattle.packet_fields.specs.declared.field.Field.TheVariants.{Tag}
use Rattle.action_profile.specs.Profiles.{writes_of}
use Rattle.action_profile.specs.declared.parts.Touch.{Touch}
use Rattle.action_profile.specs.declared.rights.Profile.{Profile}
use Rattle.packet_fields.specs.Writing.{over}
use Rattle.chain_walk.specs.Shown.{Values, AreWellFormed}
use Rattle.chain_walk.specs.Step.{Behaviour, stepped}
use Rattle.chain_walk.specs.Laws.{KeepsProfile}
use Rattle.chain_walk.specs.declared.fixed.Fixed.{Fixed}
use Rattle.graph_compile.specs.Parts.{profile_at}
use Rattle.packet_version.specs.Parts.{PlainPart, writer_in, values_of}
use Rattle.packet_version.specs.Splitting.{PlainApart, packet_parts}
use Rattle.packet_version.specs.Versions.{PlainVersion, version_parts, HoldsNamed}
use Rattle.packet_version.specs.Dealing.{dealt_parts}
use Rattle.packet_version.specs.Views.{rewritten_by}
use Rattle.graph_run.specs.Carrying.{as_version, wrote_at}
use Rattle.graph_run.specs.Rooms.{adders_from}
use Rattle.graph_run.specs.Staging.{IsCarried}
use Rattle.graph_run.proofs.Writing.{bytes_in, length_in, part_after, as_wrote, there_after, own_after, length_after}
use Rattle.graph_run.proofs.RoomForTags.{adders_at, room_later}

false_and : (a b : Bool) → b ≡ false → (a && b) ≡ false
false_and true b e = e
false_and false b e = refl

-- a function writes only what is present, and what its profile writes
pub only_there : {F : Type 0} (b : Behaviour F) (fixed : Fixed) (f : F) (v : PlainVersion) → KeepsProfile b → (x : Field) → is_some (version_parts v x) ≡ false → (stepped b fixed f (values_of (version_parts v))).written x ≡ None
only_there b fixed f v keeps x e = keeps.writes fixed f (values_of (version_parts v)) x (false_and (writes_of (b.profile f) x) _ (none_there (version_parts v x) e))
  where
    none_there : (o : Option PlainPart) → is_some o ≡ false → is_some (bytes_in o) ≡ false
    none_there None e = refl
    none_there (Some p) e = absurd cc

room_after : (w : Option (List ℕ)) (q : ℕ) (o : Option PlainPart) (adds : Bool) (now later : ℕ) → now ≡ (if adds then 1 else 0) + later →
    IfSome w (λ new. (is_tag_list new ≡ true) × IsSomeAnd (bytes_in o) (λ old. length new ≤ length old + (if adds then 4 else 0))) →
    IfSome o (λ p. length p.bytes + 4 * now ≤ p.room) → IfSome (rewritten_by w q o) (λ p. length p.bytes + 4 * later ≤ p.room)
room_after None q None adds now later is h room = tt
room_after None q (Some p) adds now later is h room = omega arith
room_after (Some w) q None adds now later is h room = tt
room_after (Some w) q (Some p) true now later is h room = let len = h.1 in omega arith
room_after (Some w) q (Some p) false now later is h room = let len = h.1 in omega arith

-- a function that obeys its profile leaves values well formed
abbrev pub StaysFormed : Type 0 → Type 0
StaysFormed F = (b : Behaviour F) (fixed : Fixed) (f : F) (values : Values) → KeepsProfile b → AreWellFormed values → AreWellFormed (over (stepped b fixed f values).written values)

pub carried_on : {F : Type 0} (b : Behaviour F) (chain : List Profile) (whole : PlainApart) (touch : Touch) (low q : ℕ) (f : F) (v : PlainVersion) →
    StaysFormed F → KeepsProfile b → 1 ≤ q → low ≤ q → profile_at chain q ≡ Some (b.profile f) → HoldsNamed (b.profile f) touch → IsCarried chain whole touch low v →
    IsCarried chain whole touch (q + 1) (wrote_at q (stepped b v.fixed f (as_version v).values).written v)
carried_on b chain whole touch low q f v stays keeps pos le is holds carried =
    let new : Values = (stepped b v.fixed f (as_version v).values).written in
    let made = carried.made in
    let after = part_after q new v in
    let dealt = dealt_parts touch (packet_parts whole) in
    let tags = keeps.tags v.fixed f (as_version v).values carried.formed.tags in
    record {
      made = record {
        touched = made.touched;
        there = λ x. ap (λ (o : Option PlainPart). is_some o) (after x) ∙ there_after (new x) q (version_parts v x) ∙ made.there x;
        own = λ x. subst (λ (o : Option PlainPart). writer_in o ≡ 0 → bytes_in o ≡ bytes_in (dealt x)) (sym (after x)) (own_after (new x) q (version_parts v x) (bytes_in (dealt x)) pos (made.own x));
        lengths = λ x apart. ap length_in (after x) ∙ length_after (new x) q (version_parts v x) (keeps.lengths v.fixed f (as_version v).values x apart (carried.formed.lengths x)) ∙ made.lengths x apart;
      };
      fixed = carried.fixed;
      formed = subst AreWellFormed (sym (ap (λ w. w.values) (as_wrote q new v (only_there b v.fixed f v keeps)))) (stays b v.fixed f (as_version v).values keeps carried.formed);
      room = subst (λ (o : Option PlainPart). IfSome o (λ p. length p.bytes + 4 * adders_from chain (q + 1) ≤ p.room)) (sym (after Tag))
          (room_after (new Tag) q (version_parts v Tag) (b.profile f).adds (adders_from chain q) (adders_from chain (q + 1)) (adders_at chain q (b.profile f) pos is) tags (room_later chain low q (version_parts v) le carried.room));
    }
