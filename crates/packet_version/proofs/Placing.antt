-- Parts that are put into the places of a list.
use Rattle.std.proofs.Common.{◌≡◌, ◌≢◌, ◌∙◌, ◌<◌, ℕ, Bool, true, false, List, sym, ap, get_or, length, set, refl}
use mathlib.Core.Path.{fun_ext}
use Rattle.std.specs.Prelude.{Option, None, if◌then◌else◌, ◌==◌}
use Rattle.std.proofs.lemmas.Bool.Decides.{Decides-eqb}
use Rattle.std.proofs.lemmas.List.{get_or-set_same, get_or-set_other}
use Rattle.packet_fields.specs.Fields.{number_of}
use Rattle.packet_fields.specs.declared.field.Field.{Field}
use Rattle.packet_version.specs.Parts.{PlainPart, as_map, changed}

-- what is read from a list after an item was put into a place
pub read_set : {A : Type 0} (xs : List A) (n k : ℕ) (o d : A) → n < length xs → get_or (set xs n o) k d ≡ (if n == k then o else get_or xs k d)
read_set {A = A} xs n k o d inside = by_test (n == k) refl
  where
    by_test : (b : Bool) → (n == k) ≡ b → get_or (set xs n o) k d ≡ (if b then o else get_or xs k d)
    by_test true e = let is : n ≡ k = (Decides-eqb n k).0 e in ap (λ (j : ℕ). get_or (set xs n o) j d) (sym is) ∙ get_or-set_same xs n o d inside
    by_test false e =
        let apart : k ≢ n = λ same. (let t : (n == k) ≡ true = (Decides-eqb n k).1 (sym same) in cc) in
        get_or-set_other xs n k o d apart

-- the map of a list of ten after a part was put into a field's place
pub map_put : (parts : List (Option PlainPart)) (n : ℕ) (f : Field) (o : Option PlainPart) → n ≡ number_of f → n < length parts → as_map (set parts n o) ≡ changed f o (as_map parts)
map_put parts n f o is below = fun_ext (λ g. read_set parts n (number_of g) o None below ∙ ap (λ (k : ℕ). if k == number_of g then o else get_or parts (number_of g) None) is)
