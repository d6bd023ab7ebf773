-- Passing one part to the versions of a stage.
use Rattle.std.proofs.Common.{◌≡◌, ◌<◌, ◌+◌, ℕ, List, take, sym, ap, subst, get_or, length, arith}
use Rattle.std.specs.Prelude.{if◌then◌else◌, OnErr, Result, Ok, Err}
use Rattle.packet_fields.specs.declared.field.Field.{Field}
use Rattle.action_profile.specs.Modes.{has_write}
use Rattle.packet_version.specs.Raising.{RaisesBy, RaisesAtMost}
use Rattle.packet_version.specs.Versions.{PlainVersion}
use Rattle.packet_version.specs.Handing.{writers_in}
use Rattle.packet_version.proofs.Mapping.{count_next, count_some}
use Rattle.packet_version.proofs.Counting.{raises_twice, raises_within}

-- the copies that were made, with one more branch
pub copies_next : (f : Field) (versions : List PlainVersion) (k : ℕ) (version d : PlainVersion) (t u v : List ℕ) → k < length versions → version ≡ get_or versions k d → RaisesBy (writers_in f (take k versions)) f t u → RaisesBy (if has_write f version.touch then 1 else 0) f u v → RaisesBy (writers_in f (take (k + 1) versions)) f t v
copies_next f versions k version d t u v below read before more =
    subst (λ (n : ℕ). RaisesBy n f t v) (sym (count_next (λ w. has_write f w.touch) versions k d (has_write f version.touch) below (ap (λ (w : PlainVersion). has_write f w.touch) (sym read)))) (raises_twice f (writers_in f (take k versions)) (if has_write f version.touch then 1 else 0) t u v before more)

-- the copies that were made before memory ran out
pub copies_refused : (f : Field) (versions : List PlainVersion) (k : ℕ) (t u v : List ℕ) → RaisesBy (writers_in f (take k versions)) f t u → RaisesBy 0 f u v → RaisesAtMost (writers_in f versions) f t v
copies_refused f versions k t u v before none =
    let some = count_some (λ (w : PlainVersion). has_write f w.touch) versions k in
    raises_within f (writers_in f (take k versions) + 0) (writers_in f versions) t v (omega arith) (raises_twice f (writers_in f (take k versions)) 0 t u v before none)

-- what always holds also holds on an error
pub on_err : {T E : Type 0} (r : Result T E) (P : Type 0) → P → OnErr r P
on_err (Ok x) P p = tt
on_err (Err e) P p = p
