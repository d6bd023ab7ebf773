-- What a branch touches, and the copies that a stage makes.
use Rattle.std.proofs.Common.{◌≡◌, ℕ, suc, ◌+◌, ◌-◌, ◌<◌, Bool, true, false, ◌&&◌, ◌||◌, not, cond, List, [], ◌∷◌, length, map, refl, ap, ◌∙◌, arith, Some, None}
use Rattle.std.specs.Prelude.{◌==◌, nat_lt, Option, filter, count_by, position, slice_index_or}
use Rattle.std.specs.Option.{option_map_or}
use Rattle.std.specs.List.{list_any, position_or_len}
use Rattle.std.proofs.lemmas.Bool.Decides.{nat_tests}
use Rattle.packet_fields.specs.Fields.{number_of}
use Rattle.packet_fields.specs.declared.field.Field.{Field}
use Rattle.packet_fields.specs.declared.field.Field.TheVariants.{LinkDst, LinkSrc, Tag, Tos, Ttl, SrcIp, DstIp, SrcPort, DstPort, Payload}
use Rattle.action_profile.specs.FieldSets.{all_fields, fields, has}
use Rattle.action_profile.specs.declared.parts.Mode.{Mode}
use Rattle.action_profile.specs.declared.parts.Mode.TheVariants.{Shared, Moved, Copied}
use Rattle.action_profile.specs.declared.parts.Touch.{Touch}
use Rattle.action_profile.specs.declared.rights.Profile.{Profile}
use Rattle.action_profile.proofs.Members.{has_fields}
use Rattle.graph_compile.specs.declared.graph.Branch.{Branch}
use Rattle.action_profile.specs.Modes.{has_write, has_touch, only_reads, written_mode, mode_of, modes_of, copies_by_mode, copies}
use Rattle.graph_compile.specs.Parts.{branch_reads, branch_writes, touch_of, touches_of, stage_parts}
use Rattle.graph_compile.proofs.Counting.{one_if, count-cons, count-map}
use Rattle.graph_compile.proofs.FiveFacts.{each-from, any-count}

any-filter : (p t : Field → Bool) (fs : List Field) → list_any t (filter p fs) ≡ list_any (λ g. p g && t g) fs
any-filter p t [] = refl
any-filter p t (g ∷ fs) =
    elim (p g) as (λ b. list_any t (cond b (g ∷ filter p fs) (filter p fs)) ≡ ((b && t g) || list_any (λ g. p g && t g) fs)) [
      | true ↦ ap (λ (b : Bool). t g || b) (any-filter p t fs)
      | false ↦ any-filter p t fs
    ]

skip : (a b c : Bool) → b ≡ c → ((a && false) || b) ≡ c
skip true b c e = e
skip false b c e = e

here : (a b : Bool) → b ≡ false → ((a && true) || b) ≡ a
here true b e = refl
here false b e = e

one_field : (p : Field → Bool) (f : Field) → list_any (λ g. p g && (number_of g == number_of f)) all_fields ≡ p f
one_field p LinkDst = here (p LinkDst) _ (skip (p LinkSrc) _ _ (skip (p Tag) _ _ (skip (p Tos) _ _ (skip (p Ttl) _ _ (skip (p SrcIp) _ _ (skip (p DstIp) _ _ (skip (p SrcPort) _ _ (skip (p DstPort) _ _ (skip (p Payload) _ _ refl)))))))))
one_field p LinkSrc = skip (p LinkDst) _ _ (here (p LinkSrc) _ (skip (p Tag) _ _ (skip (p Tos) _ _ (skip (p Ttl) _ _ (skip (p SrcIp) _ _ (skip (p DstIp) _ _ (skip (p SrcPort) _ _ (skip (p DstPort) _ _ (skip (p Payload) _ _ refl)))))))))
one_field p Tag = skip (p LinkDst) _ _ (skip (p LinkSrc) _ _ (here (p Tag) _ (skip (p Tos) _ _ (skip (p Ttl) _ _ (skip (p SrcIp) _ _ (skip (p DstIp) _ _ (skip (p SrcPort) _ _ (skip (p DstPort) _ _ (skip (p Payload) _ _ refl)))))))))
one_field p Tos = skip (p LinkDst) _ _ (skip (p LinkSrc) _ _ (skip (p Tag) _ _ (here (p Tos) _ (skip (p Ttl) _ _ (skip (p SrcIp) _ _ (skip (p DstIp) _ _ (skip (p SrcPort) _ _ (skip (p DstPort) _ _ (skip (p Payload) _ _ refl)))))))))
one_field p Ttl = skip (p LinkDst) _ _ (skip (p LinkSrc) _ _ (skip (p Tag) _ _ (skip (p Tos) _ _ (here (p Ttl) _ (skip (p SrcIp) _ _ (skip (p DstIp) _ _ (skip (p SrcPort) _ _ (skip (p DstPort) _ _ (skip (p Payload) _ _ refl)))))))))
one_field p SrcIp = skip (p LinkDst) _ _ (skip (p LinkSrc) _ _ (skip (p Tag) _ _ (skip (p Tos) _ _ (skip (p Ttl) _ _ (here (p SrcIp) _ (skip (p DstIp) _ _ (skip (p SrcPort) _ _ (skip (p DstPort) _ _ (skip (p Payload) _ _ refl)))))))))
one_field p DstIp = skip (p LinkDst) _ _ (skip (p LinkSrc) _ _ (skip (p Tag) _ _ (skip (p Tos) _ _ (skip (p Ttl) _ _ (skip (p SrcIp) _ _ (here (p DstIp) _ (skip (p SrcPort) _ _ (skip (p DstPort) _ _ (skip (p Payload) _ _ refl)))))))))
one_field p SrcPort = skip (p LinkDst) _ _ (skip (p LinkSrc) _ _ (skip (p Tag) _ _ (skip (p Tos) _ _ (skip (p Ttl) _ _ (skip (p SrcIp) _ _ (skip (p DstIp) _ _ (here (p SrcPort) _ (skip (p DstPort) _ _ (skip (p Payload) _ _ refl)))))))))
one_field p DstPort = skip (p LinkDst) _ _ (skip (p LinkSrc) _ _ (skip (p Tag) _ _ (skip (p Tos) _ _ (skip (p Ttl) _ _ (skip (p SrcIp) _ _ (skip (p DstIp) _ _ (skip (p SrcPort) _ _ (here (p DstPort) _ (skip (p Payload) _ _ refl)))))))))
one_field p Payload = skip (p LinkDst) _ _ (skip (p LinkSrc) _ _ (skip (p Tag) _ _ (skip (p Tos) _ _ (skip (p Ttl) _ _ (skip (p SrcIp) _ _ (skip (p DstIp) _ _ (skip (p SrcPort) _ _ (skip (p DstPort) _ _ (here (p Payload) _ refl)))))))))

has_filtered : (p : Field → Bool) (f : Field) → has (fields (filter p all_fields)) f ≡ p f
has_filtered p f = has_fields (filter p all_fields) f ∙ any-filter p (λ g. number_of g == number_of f) all_fields ∙ one_field p f

pub touch-writes : (chain : List Profile) (b : Branch) (f : Field) → has (touch_of chain b).writes f ≡ branch_writes chain b f
unfolding touch_of
touch-writes chain b f = has_filtered (branch_writes chain b) f

pub touch-reads : (chain : List Profile) (b : Branch) (f : Field) → has (touch_of chain b).reads f ≡ branch_reads chain b f
unfolding touch_of
touch-reads chain b f = has_filtered (branch_reads chain b) f

-- the modes, one by one
pub modes-at : (touches : List Touch) (f : Field) → slice_index_or (modes_of touches) (number_of f) Shared ≡ mode_of touches f
modes-at touches LinkDst = refl
modes-at touches LinkSrc = refl
modes-at touches Tag = refl
modes-at touches Tos = refl
modes-at touches Ttl = refl
modes-at touches SrcIp = refl
modes-at touches DstIp = refl
modes-at touches SrcPort = refl
modes-at touches DstPort = refl
modes-at touches Payload = refl

pub copies-by_touches : (chain : List Profile) (branches : List Branch) (f : Field) → copies (stage_parts chain branches) f ≡ copies_by_mode (mode_of (touches_of chain branches) f) (touches_of chain branches) f
unfolding copies stage_parts
copies-by_touches chain branches f = ap (λ (m : Mode). copies_by_mode m (touches_of chain branches) f) (modes-at (touches_of chain branches) f)

-- a search finds exactly when a test passes
pub position-none : (p : Touch → Bool) (ts : List Touch) → list_any p ts ≡ false → position p ts ≡ None
position-none p ts h =
    elim (nat_lt (position_or_len p ts) (length ts)) as (λ b. nat_lt (position_or_len p ts) (length ts) ≡ b → cond b (Some (position_or_len p ts)) None ≡ None) [
      | true ↦ λ e. let inside : position_or_len p ts < length ts = grind (arith, nat_tests) in absurd (nothing ts inside h)
      | false ↦ λ e. refl
    ] refl
  where
    nothing : (xs : List Touch) → position_or_len p xs < length xs → list_any p xs ≡ false → ⊥
    nothing [] l h = omega arith
    nothing (x ∷ xs) l h =
        elim (p x) as (λ b. p x ≡ b → cond (not b) (1 + position_or_len p xs) 0 < suc (length xs) → (b || list_any p xs) ≡ false → ⊥) [
          | true ↦ λ e l h. cc
          | false ↦ λ e l h. nothing xs (omega arith) h
        ] refl l h

pub record Found (p : Touch → Bool) (ts : List Touch) : Type 0 where
  pub at : ℕ
  pub is : position p ts ≡ Some at

pub position-some : (p : Touch → Bool) (ts : List Touch) → list_any p ts ≡ true → Found p ts
position-some p ts h =
    let inside : position_or_len p ts < length ts = within ts h in
    let test : nat_lt (position_or_len p ts) (length ts) ≡ true = grind (arith, nat_tests) in
    record { at = position_or_len p ts; is = rw test refl }
  where
    within : (xs : List Touch) → list_any p xs ≡ true → position_or_len p xs < length xs
    within [] h = cc
    within (x ∷ xs) h =
        elim (p x) as (λ b. (b || list_any p xs) ≡ true → cond (not b) (1 + position_or_len p xs) 0 < suc (length xs)) [
          | true ↦ λ h. omega arith
          | false ↦ λ h. let rest = within xs h in omega arith
        ] h

any-map : {X Y : Type 0} (p : Y → Bool) (f : X → Y) (q : X → Bool) → ((x : X) → p (f x) ≡ q x) → (xs : List X) → list_any p (map f xs) ≡ list_any q xs
any-map p f q h [] = refl
any-map p f q h (x ∷ xs) = let a = h x in let b = any-map p f q h xs in grind arith

writes-any : (chain : List Profile) (branches : List Branch) (f : Field) → list_any (has_write f) (touches_of chain branches) ≡ list_any (λ b. branch_writes chain b f) branches
writes-any chain branches f = any-map (has_write f) (touch_of chain) (λ b. branch_writes chain b f) (λ b. touch-writes chain b f) branches

writes-count : (chain : List Profile) (branches : List Branch) (f : Field) → count_by (has_write f) (touches_of chain branches) ≡ count_by (λ b. branch_writes chain b f) branches
writes-count chain branches f = count-map (has_write f) (touch_of chain) (λ b. branch_writes chain b f) branches (each-from (λ b. has_write f (touch_of chain b) ≡ branch_writes chain b f) branches (λ i b e. touch-writes chain b f))

only-any : (chain : List Profile) (branches : List Branch) (f : Field) → list_any (only_reads f) (touches_of chain branches) ≡ list_any (λ b. branch_reads chain b f && not (branch_writes chain b f)) branches
only-any chain branches f = any-map (only_reads f) (touch_of chain) (λ b. branch_reads chain b f && not (branch_writes chain b f)) (λ b. let r = touch-reads chain b f in let w = touch-writes chain b f in grind arith) branches

pub unwritten-shared : (touches : List Touch) (f : Field) → list_any (has_write f) touches ≡ false → mode_of touches f ≡ Shared
unfolding mode_of
unwritten-shared touches f h = ap (λ (o : Option ℕ). option_map_or (written_mode touches f) o Shared) (position-none (has_write f) touches h)

pub unwritten-uncopied : (chain : List Profile) (branches : List Branch) (f : Field) → list_any (λ b. branch_writes chain b f) branches ≡ false → copies (stage_parts chain branches) f ≡ 0
unwritten-uncopied chain branches f h =
    copies-by_touches chain branches f ∙ ap (λ (m : Mode). copies_by_mode m (touches_of chain branches) f) (unwritten-shared (touches_of chain branches) f (writes-any chain branches f ∙ h))

-- a branch that writes touches, and so does one that only reads; no branch does both
pub touch-sum : (f : Field) (ts : List Touch) → count_by (has_write f) ts + count_by (only_reads f) ts ≡ count_by (has_touch f) ts
touch-sum f [] = refl
touch-sum f (t ∷ ts) =
    let rest = touch-sum f ts in
    let here : one_if (has_write f t) + one_if (only_reads f t) ≡ one_if (has_touch f t) = sum (has t.reads f) (has t.writes f) in
    omega (arith, count-cons (has_write f) t ts, count-cons (only_reads f) t ts, count-cons (has_touch f) t ts, rest, here)
  where
    sum : (r w : Bool) → one_if w + one_if (r && not w) ≡ one_if (r || w)
    sum true true = refl
    sum true false = refl
    sum false true = refl
    sum false false = refl

copies-written : (touches : List Touch) (f : Field) (first : ℕ) → list_any (has_write f) touches ≡ true → copies_by_mode (written_mode touches f first) touches f + 1 ≡ count_by (has_write f) touches + one_if (list_any (only_reads f) touches)
copies-written touches f first h =
    let some = any-count (has_write f) touches h in
    let sum = touch-sum f touches in
    elim (count_by (has_touch f) touches == 1) as (λ a. (count_by (has_touch f) touches == 1) ≡ a → copies_by_mode (cond a (Moved first) (Copied (cond (list_any (only_reads f) touches) None (Some first)))) touches f + 1 ≡ count_by (has_write f) touches + one_if (list_any (only_reads f) touches)) [
      | true ↦ λ e.
          let alone : count_by (has_touch f) touches ≡ 1 = grind (arith, nat_tests) in
          elim (list_any (only_reads f) touches) as (λ b. list_any (only_reads f) touches ≡ b → 0 + 1 ≡ count_by (has_write f) touches + one_if b) [
            | true ↦ λ g. let more = any-count (only_reads f) touches g in absurd (omega (arith, some, sum, alone, more))
            | false ↦ λ g. omega (arith, some, sum, alone)
          ] refl
      | false ↦ λ e.
          elim (list_any (only_reads f) touches) as (λ b. cond b (count_by (has_write f) touches) (count_by (has_write f) touches - 1) + 1 ≡ count_by (has_write f) touches + one_if b) [
            | true ↦ refl
            | false ↦ omega (arith, some)
          ]
    ] refl

pub no-copy-spared : (chain : List Profile) (branches : List Branch) (f : Field) → list_any (λ b. branch_writes chain b f) branches ≡ true →
    copies (stage_parts chain branches) f + 1 ≡ count_by (λ b. branch_writes chain b f) branches + one_if (list_any (λ b. branch_reads chain b f && not (branch_writes chain b f)) branches)
unfolding mode_of
no-copy-spared chain branches f h =
    let touches = touches_of chain branches in
    let written : list_any (has_write f) (touches_of chain branches) ≡ true = writes-any chain branches f ∙ h in
    let first = position-some (has_write f) (touches_of chain branches) written in
    let mode : mode_of (touches_of chain branches) f ≡ written_mode (touches_of chain branches) f first.at = ap (λ (o : Option ℕ). option_map_or (written_mode (touches_of chain branches) f) o Shared) first.is in
    let made : copies (stage_parts chain branches) f ≡ copies_by_mode (written_mode (touches_of chain branches) f first.at) (touches_of chain branches) f = copies-by_touches chain branches f ∙ ap (λ (m : Mode). copies_by_mode m (touches_of chain branches) f) mode in
    let all = copies-written (touches_of chain branches) f first.at written in
    let w = writes-count chain branches f in
    let o : one_if (list_any (only_reads f) (touches_of chain branches)) ≡ one_if (list_any (λ b. branch_reads chain b f && not (branch_writes chain b f)) branches) = ap one_if (only-any chain branches f) in
    omega (arith, made, all, w, o)
