-- For proofs: a function for tests, which writes into the type of service the number of packets that passed since it
-- last dropped one, and drops every third packet.
use Rattle.std.specs.Prelude.{◌≡◌, ◌≤◌, ◌+◌, ℕ, List, [], ◌∷◌, length, Bool, true, false, ◌&&◌, if◌then◌else◌, nat_le, Option, Some, None, is_some, IfSome, IsSomeAnd, refl}
use Rattle.std.proofs.Common.{◌∙◌, ap, sym, true≢false}
use Rattle.packet_fields.specs.Frames.{is_tag_list}
use Rattle.packet_fields.specs.Fields.{IsLengthOf}
use Rattle.packet_fields.specs.declared.field.Field.{Field}
use Rattle.packet_fields.specs.declared.field.Field.TheVariants.{Tag, Tos}
use Rattle.action_profile.specs.Profiles.{plain, writes_of}
use Rattle.action_profile.specs.declared.rights.Profile.{Profile}
use Rattle.chain_walk.specs.Shown.{Values}
use Rattle.chain_walk.specs.Step.{Step, Behaviour, nothing, is_drop}
use Rattle.chain_walk.specs.Laws.{KeepsProfile}
use Rattle.chain_walk.specs.Notes.{Notes, CountsByNotes}
use Rattle.packet_function.specs.Deciding.{Deciding, DecidesDrops}
use Rattle.packet_function.specs.declared.deciding.DecidingLine.TheVariants.{Declaration}
use Rattle.chain_walk.specs.declared.verdict.Verdict.TheVariants.{Pass, Drop}

abbrev pub painter_profile : Profile
painter_profile = record (plain [] (Tos ∷ [])) { drops = true; state = true }

-- the type of service, if it is present
abbrev pub painted : Bool → ℕ → Values
painted there count Tos = if there then Some (count ∷ []) else None
painted there count f = None

-- the painters of a type, by the count of each and how one is made from a count
abbrev pub painter_behaviour : {F : Type 0} → (F → ℕ) → (ℕ → F) → Behaviour F
painter_behaviour count make = record {
  profile = λ f. painter_profile;
  step = λ f shown.
      if nat_le 2 (count f)
      then record { after = make 0; verdict = Drop; written = nothing }
      else record { after = make (count f + 1); verdict = Pass; written = painted (shown.has Tos) (count f) };
}

chosen : {F : Type 0} (P : Step F → Type 0) (drops : Bool) (dropped passed : Step F) → P dropped → P passed → P (if drops then dropped else passed)
chosen P true dropped passed d p = d
chosen P false dropped passed d p = p

not_there : (there : Bool) (count : ℕ) → there ≡ false → painted there count Tos ≡ None
not_there there count e = ap (λ b. painted b count Tos) e

unpainted : (v : Values) (x : Field) (count : ℕ) → (writes_of painter_profile x && is_some (v x)) ≡ false → painted (writes_of painter_profile Tos && is_some (v Tos)) count x ≡ None
unpainted v Tos count h = not_there (is_some (v Tos)) count h
unpainted v x count h = refl

one_byte : (old : Option (List ℕ)) (count : ℕ) → IfSome old (λ o. length o ≡ 1) → IfSome (painted (is_some old) count Tos) (λ new. IsSomeAnd old (λ o. length new ≡ length o))
one_byte None count formed = tt
one_byte (Some o) count formed = sym formed

painted_length : (v : Values) (x : Field) (count : ℕ) → IfSome (v x) (λ old. IsLengthOf x (length old)) →
    IfSome (painted (writes_of painter_profile Tos && is_some (v Tos)) count x) (λ new. IsSomeAnd (v x) (λ old. length new ≡ length old))
painted_length v Tos count formed = one_byte (v Tos) count formed
painted_length v x count formed = tt

pub painter_keeps : {F : Type 0} (count : F → ℕ) (make : ℕ → F) → KeepsProfile (painter_behaviour count make)
painter_keeps count make = record {
  stays = λ fixed f v. refl;
  writes = λ fixed f v x h. chosen (λ t. t.written x ≡ None) (nat_le 2 (count f)) _ _ refl (unpainted v x (count f) h);
  drops = λ fixed f v h. absurd cc;
  state = λ fixed f v h counted. absurd cc;
  lengths = λ fixed f v x other formed. chosen (λ t. IfSome (t.written x) (λ new. IsSomeAnd (v x) (λ old. length new ≡ length old))) (nat_le 2 (count f)) _ _ tt (painted_length v x (count f) formed);
  tags = λ fixed f v whole. chosen (λ t. IfSome (t.written Tag) (λ new. (is_tag_list new ≡ true) × IsSomeAnd (v Tag) (λ old. length new ≤ length old + 0))) (nat_le 2 (count f)) _ _ tt tt;
  adds = λ fixed f v h. absurd cc;
  removes = λ fixed f v h. absurd cc;
}

-- nothing is noted, and nothing settled
abbrev pub no_notes : {F N : Type 0} → Notes F N
no_notes = record { look = λ f shown. None; settle = λ f note. f }

pub painter_counts : {F N : Type 0} (count : F → ℕ) (make : ℕ → F) → CountsByNotes {N = N} (painter_behaviour count make) no_notes
painter_counts count make = record { step = λ fixed f v h. absurd cc; stays = λ f note. refl; looks = λ f note shown. refl }

-- it is declared by one line, which decides on each packet that is dropped
abbrev pub painter_decides : {F : Type 0} → (F → ℕ) → Deciding F
painter_decides count f shown = if nat_le 2 (count f) then Declaration ∷ [] else []

one_line : {F : Type 0} (drops : Bool) (dropped passed : Step F) → is_drop passed.verdict ≡ false →
    is_drop (if drops then dropped else passed).verdict ≡ true → length (if drops then Declaration ∷ [] else []) ≡ 1
one_line true dropped passed passes drop = refl
one_line false dropped passed passes drop = absurd (true≢false (sym drop ∙ passes))

pub painter_decides_drops : {F : Type 0} (count : F → ℕ) (make : ℕ → F) → DecidesDrops (painter_behaviour count make) (painter_decides count)
painter_decides_drops count make = record { one = λ fixed f v drop. one_line (nat_le 2 (count f)) _ _ refl drop }
