-- How a text is put through a buffer, piece by piece.
use Rattle.std.proofs.Common.{◌≡◌, ◌≢◌, ◌<◌, ◌≤◌, ◌+◌, ◌∙◌, ℕ, List, [], ◌∷◌, ◌++◌, length, take, drop, refl, ap, sym, subst, append_assoc}
use Rattle.std.specs.Prelude.{IfErr, OnOk, Option, Result, Ok, Err, slice_index_or}
use Rattle.std.specs.List.{find, flat_map}
use Rattle.std.specs.Option.{option_map_or}
use Rattle.std.specs.Str.{bytes_eq}
use Rattle.std.proofs.lemmas.List.{append-nil, take-append-drop, take_all, take_more}
use Rattle.std.proofs.lemmas.List.Concat.{flat_map-append}
use Rattle.nfp_outside.specs.declared.slot.Slot.{Slot}
use Rattle.nfp_outside.specs.declared.slot.Slot.TheVariants as slots
use Rattle.nfp_outside.specs.Outside.{SlotView}
use Rattle.piece_walk.specs.Pieces.{functions_in}
use Rattle.packet_version.specs.Tallies.{count_of}
use Rattle.policy_text.specs.declared.policy.ChainPolicy.{ChainPolicy}
use Rattle.policy_text.specs.declared.policy.FunctionDecl.{FunctionDecl}
use Rattle.capture_report.specs.ChainService.{named_lines}
use Rattle.capture_report.specs.ChainServiceProofs.{NamedFunction, ServiceChain, pieces_in}
use Rattle.capture_report.specs.Report.{chain_lines, copies_lines, function_lines, state_text}
use Rattle.capture_items.specs.FaultLines.{last_line}
use Rattle.capture_items.specs.Totals.{total_line}
use Rattle.capture_report.specs.Telling.{told_text}
use Rattle.capture_report.specs.declared.ended.Ended.{Ended}
use Rattle.capture_items.specs.Slots.{Breaks, Gathers, Puts}
use Rattle.capture_items.specs.declared.fault.RunFault.{RunFault}
use Rattle.capture_items.specs.Putting.{breaks_is, breaks_longer, breaks_more, puts_is, puts_more, puts_none}

pub gathers_none : (h : List ℕ) (old : Slot → SlotView) → Gathers [] h h old old
gathers_none h old = record { put = []; puts = puts_none old; parts = sym (append-nil h) }

-- a text was added to the buffer
pub gathers_pushed : (a h m : List ℕ) (old : Slot → SlotView) → m ≡ h ++ a → Gathers a h m old old
gathers_pushed a h m old is = record { put = []; puts = puts_none old; parts = is }

pub gathers_more : (a b h m n : List ℕ) (old mid new : Slot → SlotView) → Gathers a h m old mid → Gathers b m n mid new → Gathers (a ++ b) h n old new
gathers_more a b h m n old mid new first second = record {
  put = first.put ++ second.put;
  puts = puts_more [] first.put [] second.put old mid new first.puts second.puts;
  parts =
      append_assoc first.put second.put n
      ∙ ap (λ l. first.put ++ l) second.parts
      ∙ sym (append_assoc first.put m b)
      ∙ ap (λ l. l ++ b) first.parts
      ∙ append_assoc h a b;
}

-- the last of it was put
pub gathered_put : (a h m : List ℕ) (old mid new : Slot → SlotView) → Gathers a h m old mid → Puts [] m mid new → Puts [] (h ++ a) old new
gathered_put a h m old mid new first last = puts_is [] [] (first.put ++ m) (h ++ a) old new refl first.parts (puts_more [] first.put [] m old mid new first.puts last)

-- the part that comes next was broken off
pub gather_breaks : (a b h m : List ℕ) (old mid new : Slot → SlotView) (e : RunFault) → Gathers a h m old mid → Breaks [] (m ++ b) mid new e → Breaks [] (h ++ (a ++ b)) old new e
gather_breaks a b h m old mid new e first broken =
    breaks_is [] [] (first.put ++ (m ++ b)) (h ++ (a ++ b)) old new e refl
    (sym (append_assoc first.put m b) ∙ ap (λ l. l ++ b) first.parts ∙ append_assoc h a b)
    (breaks_more [] first.put [] (m ++ b) old mid new e first.puts broken)

-- more is due than the part that was broken off
pub breaks_within : (a b : List ℕ) (old new : Slot → SlotView) (e : RunFault) → Breaks [] a old new e → Breaks [] (a ++ b) old new e
breaks_within a b old new e broken = breaks_longer [] a [] b old new e broken

-- The pieces of the first of these were put.
pub record IsTelling {X : Type 0} (piece : X → List ℕ) (xs : List X) (index : ℕ) (first held : List ℕ) (old now : Slot → SlotView) : Type 0 where
  pub gathered : Gathers (flat_map piece (take index xs)) first held old now
  pub others : (s : Slot) → s ≢ slots.Report → now s ≡ old s

module _ {X : Type 0} (piece : X → List ℕ) (xs : List X) where
  pub telling_begins : (h : List ℕ) (old : Slot → SlotView) → IsTelling piece xs 0 h h old old
  telling_begins h old = record { gathered = gathers_none h old; others = λ s r. refl }

  -- the pieces up to this one and its own
  pub up_to : (index : ℕ) (x d : X) → index < length xs → x ≡ slice_index_or xs index d → flat_map piece (take (index + 1) xs) ≡ flat_map piece (take index xs) ++ piece x
  up_to index x d inside is =
      ap (flat_map piece) (take_more xs index d inside)
      ∙ flat_map-append piece (take index xs) (slice_index_or xs index d ∷ [])
      ∙ ap (λ l. flat_map piece (take index xs) ++ l) (append-nil (piece (slice_index_or xs index d)) ∙ ap piece (sym is))

  pub telling_goes_on : (index : ℕ) (x d : X) (h m n : List ℕ) (old mid new : Slot → SlotView) → IsTelling piece xs index h m old mid → index < length xs → x ≡ slice_index_or xs index d →
      Gathers (piece x) m n mid new → ((s : Slot) → s ≢ slots.Report → new s ≡ mid s) → IsTelling piece xs (index + 1) h n old new
  telling_goes_on index x d h m n old mid new at inside is told beside = record {
    gathered = subst (λ t. Gathers t h n old new) (sym (up_to index x d inside is)) (gathers_more (flat_map piece (take index xs)) (piece x) h m n old mid new at.gathered told);
    others = λ s r. beside s r ∙ at.others s r;
  }

  pub telling_breaks : (index : ℕ) (x d : X) (h m : List ℕ) (old mid new : Slot → SlotView) (e : RunFault) → IsTelling piece xs index h m old mid → index < length xs → x ≡ slice_index_or xs index d →
      Breaks [] (m ++ piece x) mid new e → Breaks [] (h ++ flat_map piece xs) old new e
  telling_breaks index x d h m old mid new e at inside is broken =
      let done = flat_map piece (take index xs) in
      let rest = flat_map piece (drop (index + 1) xs) in
      let all : (done ++ piece x) ++ rest ≡ flat_map piece xs =
      ap (λ l. l ++ rest) (sym (up_to index x d inside is)) ∙ sym (flat_map-append piece (take (index + 1) xs) (drop (index + 1) xs)) ∙ ap (flat_map piece) (take-append-drop (index + 1) xs) in
      breaks_is [] [] ((h ++ (done ++ piece x)) ++ rest) (h ++ flat_map piece xs) old new e refl
      (append_assoc h (done ++ piece x) rest ∙ ap (λ l. h ++ l) all)
      (breaks_within (h ++ (done ++ piece x)) rest old new e (gather_breaks done (piece x) h m old mid new e at.gathered broken))

  pub telling_ends : (index : ℕ) (h m : List ℕ) (old now : Slot → SlotView) → IsTelling piece xs index h m old now → length xs ≤ index → Gathers (flat_map piece xs) h m old now
  telling_ends index h m old now at all = subst (λ l. Gathers (flat_map piece l) h m old now) (take_all index xs all) at.gathered

-- the lines of a chain's functions are put one function after another
pub chain_told : (chain : ChainPolicy) (functions : List NamedFunction) (items : List FunctionDecl) → items ≡ chain.functions →
    flat_map (function_lines chain.name functions) items ≡ chain_lines chain functions
unfolding chain_lines
chain_told chain functions items same = ap (flat_map (function_lines chain.name functions)) same

-- the lines of each chain's functions
abbrev pub listed : List ServiceChain → List ℕ
listed chains = flat_map (λ c. chain_lines c.declared (functions_in (pieces_in c))) chains

-- all that is reported, by what the buffer held before the functions
pub told_parts : (chains : List ServiceChain) (ended : Ended) (none held : List ℕ) → none ≡ [] →
    held ≡ (none ++ total_line ended.totals.records ended.totals.dropped) ++ flat_map (λ c. copies_lines c.declared.name (count_of c.copies)) chains →
    held ++ (listed chains ++ last_line ended.fault) ≡ told_text chains ended
unfolding told_text
told_parts chains ended none held empty is =
    let total = total_line ended.totals.records ended.totals.dropped in
    let copied = flat_map (λ (c : ServiceChain). copies_lines c.declared.name (count_of c.copies)) chains in
    let behind = listed chains ++ last_line ended.fault in
    ap (λ l. l ++ behind) (is ∙ ap (λ l. (l ++ total) ++ copied) empty) ∙ append_assoc total copied behind

pub on_ok : {T E : Type 0} (r : Result T E) (P Q : Type 0) → (P → Q) → OnOk r P → OnOk r Q
on_ok (Ok x) P Q f p = f p
on_ok (Err e) P Q f p = tt

pub if_err : {T E : Type 0} (r : Result T E) (P Q : E → Type 0) → ((e : E) → P e → Q e) → IfErr r P → IfErr r Q
if_err (Ok x) P Q f p = tt
if_err (Err e) P Q f p = f e p

-- the lines of the state of the function that was found by its name
pub state_found : (functions : List NamedFunction) (name : List ℕ) (found : Option NamedFunction) → found ≡ find (λ f. bytes_eq f.name name) functions →
    option_map_or named_lines found [] ≡ state_text functions name
state_found functions name found is = ap (λ o. option_map_or named_lines o []) is
