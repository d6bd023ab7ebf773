-- How the lines of a declaration are read, one after another.
use Rattle.std.proofs.Common.{◌≡◌, ◌<◌, ◌≤◌, ◌+◌, ◌∙◌, ℕ, List, [], ◌∷◌, ◌++◌, length, take, get_or, refl, sym, ap, append_assoc, Bool, true, false, arith}
use Rattle.std.specs.Prelude.{if◌then◌else◌, fold, Option, None, Some}
use Rattle.std.specs.List.{cons_option}
use Rattle.std.specs.Option.{option_to_list}
use Rattle.std.proofs.lemmas.List.{take_more, append-nil}
use Rattle.std.proofs.lemmas.List.Elements.{filter_map-append}
use Rattle.std.proofs.lemmas.List.Sums.{fold-append}
use Rattle.policy_text.specs.declared.policy.Setting.{Setting}
use Rattle.function_lines.specs.KindLines.{KindLines, said_by, is_refused, refused_behind, clashing, lesser, least}

-- what was read before this place
pub record AreRead {L : Type 0} (lines : KindLines L) (settings : List Setting) (count : ℕ) (said : List L) (line : Option ℕ) : Type 0 where
  pub said_so_far : said ≡ said_by lines (take count settings)
  pub refused : line ≡ least (refused_behind lines [] (take count settings))

pub begins : {L : Type 0} (lines : KindLines L) (settings : List Setting) → AreRead lines settings 0 [] None
begins lines settings = record { said_so_far = refl; refused = refl }

-- one more line after the others
refused_more : {L : Type 0} (lines : KindLines L) (before settings : List Setting) (s : Setting) → refused_behind lines before (settings ++ s ∷ []) ≡ refused_behind lines before settings ++ (if is_refused lines (before ++ settings) s then s.line ∷ [] else [])
refused_more lines before [] s =
    append-nil (if is_refused lines before s then s.line ∷ [] else [])
    ∙ ap (λ l. if is_refused lines l s then s.line ∷ [] else []) (sym (append-nil before))
refused_more lines before (t ∷ settings) s =
    ap (λ l. (if is_refused lines before t then t.line ∷ [] else []) ++ l) (refused_more lines (before ++ t ∷ []) settings s)
    ∙ sym (append_assoc (if is_refused lines before t then t.line ∷ [] else []) (refused_behind lines (before ++ t ∷ []) settings) (if is_refused lines ((before ++ t ∷ []) ++ settings) s then s.line ∷ [] else []))
    ∙ ap (λ l. ((if is_refused lines before t then t.line ∷ [] else []) ++ refused_behind lines (before ++ t ∷ []) settings) ++ (if is_refused lines l s then s.line ∷ [] else [])) (append_assoc before (t ∷ []) settings)

least_more : (lines : List ℕ) (refused : Bool) (line : ℕ) → least (lines ++ (if refused then line ∷ [] else [])) ≡ (if refused then lesser (least lines) line else least lines)
least_more lines true line = fold-append lesser None lines (line ∷ [])
least_more lines false line = ap least (append-nil lines)

-- a line that is no lesser changes nothing
pub stays_least : (refused : Bool) (least line : ℕ) → least ≤ line → Some least ≡ (if refused then lesser (Some least) line else Some least)
stays_least true least line below = ap Some (omega arith)
stays_least false least line below = refl

one_said : {A : Type 0} (o : Option A) → cons_option o [] ≡ option_to_list o
one_said None = refl
one_said (Some a) = refl

said_more : {L : Type 0} (lines : KindLines L) (settings : List Setting) (s : Setting) → said_by lines (settings ++ s ∷ []) ≡ said_by lines settings ++ option_to_list (lines.line_of s.words)
said_more lines settings s = filter_map-append (λ t. lines.line_of t.words) settings (s ∷ []) ∙ ap (λ l. said_by lines settings ++ l) (one_said (lines.line_of s.words))

pub goes_on : {L : Type 0} (lines : KindLines L) (settings : List Setting) (i : ℕ) (said next : List L) (line later : Option ℕ) (d s : Setting) → AreRead lines settings i said line → i < length settings → s ≡ get_or settings i d →
    next ≡ said ++ option_to_list (lines.line_of s.words) → later ≡ (if is_refused lines (take i settings) s then lesser line s.line else line) → AreRead lines settings (i + 1) next later
goes_on lines settings i said next line later d s read inside is more_said more_refused =
    let more : take (i + 1) settings ≡ take i settings ++ s ∷ [] = take_more settings i d inside ∙ ap (λ t. take i settings ++ t ∷ []) (sym is) in
    record {
      said_so_far = more_said
          ∙ ap (λ l. l ++ option_to_list (lines.line_of s.words)) read.said_so_far
          ∙ sym (said_more lines (take i settings) s)
          ∙ ap (said_by lines) (sym more);
      refused = more_refused
          ∙ ap (λ o. if is_refused lines (take i settings) s then lesser o s.line else o) read.refused
          ∙ sym (least_more (refused_behind lines [] (take i settings)) (is_refused lines (take i settings) s) s.line)
          ∙ ap least (sym (refused_more lines [] (take i settings) s))
          ∙ ap (λ l. least (refused_behind lines [] l)) (sym more);
    }

-- the least of these and those before this place that clash
pub record AreCompared {L : Type 0} (lines : KindLines L) (said : List L) (settings : List Setting) (first : Option ℕ) (count : ℕ) (line : Option ℕ) : Type 0 where
  pub refused : line ≡ fold lesser first (clashing lines said (take count settings))
