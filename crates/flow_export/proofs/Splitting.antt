-- The lines of one packet, and those after them.
use Rattle.std.proofs.Common.{◌≡◌, ◌≤◌, ◌<◌, ◌+◌, ◌∙◌, ℕ, suc, List, [], ◌∷◌, ◌++◌, false, length, get_or, take, drop, sym, ap, subst, length-append, arith}
use Rattle.std.specs.List.{flat_map}
use Rattle.std.proofs.Math.Seq.{take-append_seam, drop-append_seam, drop-cons}
use Rattle.std.proofs.lemmas.List.{take-append-drop, take_all, drop_all, append-nil}
use Rattle.std.proofs.lemmas.List.Elements.{filter-append}
use Rattle.flow_line.specs.declared.line.FlowLine.{FlowLine}
use Rattle.flow_export.specs.declared.span.Span5.{Span5}
use Rattle.flow_export.specs.Layouts.{record_bytes}
use Rattle.flow_export.specs.Exports.{is_exported, exported, record_of}

pub exported-append : (xs ys : List FlowLine) → exported (xs ++ ys) ≡ exported xs ++ exported ys
exported-append xs ys = filter-append is_exported xs ys

parts : (place : ℕ) (lines : List FlowLine) → exported lines ≡ exported (take place lines) ++ exported (drop place lines)
parts place lines = ap exported (sym (take-append-drop place lines)) ∙ exported-append (take place lines) (drop place lines)

module _ (lines front back : List FlowLine) (place : ℕ) where
  pub full_front : front ≡ take place lines → 30 ≡ length (exported (take place lines)) → exported front ≡ take 30 (exported lines)
  full_front is full =
      ap exported is
      ∙ sym (take-append_seam (exported (take place lines)) (exported (drop place lines)))
      ∙ ap (λ n. take n (exported (take place lines) ++ exported (drop place lines))) (sym full)
      ∙ ap (take 30) (sym (parts place lines))

  pub full_back : back ≡ drop place lines → 30 ≡ length (exported (take place lines)) → exported back ≡ drop 30 (exported lines)
  full_back is full =
      ap exported is
      ∙ sym (drop-append_seam (exported (take place lines)) (exported (drop place lines)))
      ∙ ap (λ n. drop n (exported (take place lines) ++ exported (drop place lines))) (sym full)
      ∙ ap (drop 30) (sym (parts place lines))

  pub last_front : front ≡ take (length lines) lines → length lines ≤ place → length (exported (take place lines)) ≤ 30 → exported front ≡ take 30 (exported lines)
  last_front is end few = ap exported (is ∙ all) ∙ sym (take_all 30 (exported lines) (subst (λ l. length (exported l) ≤ 30) (take_all place lines end) few))
    where
      all : take (length lines) lines ≡ lines
      all = take_all (length lines) lines (omega arith)

  pub last_back : back ≡ drop (length lines) lines → length lines ≤ place → length (exported (take place lines)) ≤ 30 → exported back ≡ drop 30 (exported lines)
  last_back is end few = ap exported (is ∙ none) ∙ sym (drop_all 30 (exported lines) (subst (λ l. length (exported l) ≤ 30) (take_all place lines end) few))
    where
      none : drop (length lines) lines ≡ []
      none = drop_all (length lines) lines (omega arith)

-- the next line has room in a packet that has room for all
pub room_for_next : (lines : List FlowLine) (place : ℕ) (d : FlowLine) → place < length lines → length (exported (take place lines)) + length (exported (get_or lines place d ∷ [])) ≤ length (exported lines)
room_for_next lines place d inside =
    let line = get_or lines place d in
    let rest : exported (drop place lines) ≡ exported (line ∷ []) ++ exported (drop (suc place) lines) =
    ap exported (drop-cons lines place d inside) ∙ exported-append (line ∷ []) (drop (suc place) lines) in
    let whole : length (exported lines) ≡ length (exported (take place lines)) + length (exported (drop place lines)) = ap length (parts place lines) ∙ length-append (exported (take place lines)) (exported (drop place lines)) in
    let behind : length (exported (drop place lines)) ≡ length (exported (line ∷ [])) + length (exported (drop (suc place) lines)) = ap length rest ∙ length-append (exported (line ∷ [])) (exported (drop (suc place) lines)) in
    omega (arith, whole, behind)

-- what one line of IPv4 gives
pub one_record : (span : Span5) (line : FlowLine) → line.key.wide ≡ false → flat_map (λ l. record_bytes (record_of span l)) (exported (line ∷ [])) ≡ record_bytes (record_of span line)
one_record span line narrow = rw narrow (append-nil (record_bytes (record_of span line)))
