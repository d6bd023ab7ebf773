-- From what `clap` ensures about a parse to the parts of the words.
use Rattle.std.proofs.Common.{◌≡◌, ◌≢◌, ◌∙◌, ◌⊎◌, Bool, true, false, refl, sym, ap, subst, List, [], ◌∷◌, map, length, string_bytes, String, inl, inr, ⊎_elim, true≢false}
use Rattle.std.specs.Prelude.{Result, Ok, Err, MatchResult}
use Rattle.std.proofs.lemmas.Str.{IsUtf8-had}
use Rattle.clap.specs.Kinds.{HasKind, IsAmong}
use Rattle.clap.specs.Words.{App, HasMatchesOf, Row, Text, fault_of, first_of, first_value, found_of, is_simple, is_simple_and_free, kind_of, matches_of, rows_of}
use Rattle.clap.proofs.WalkLemmas.{first_value-rows}
use Rattle.clap.specs.declared.error.Error.{Error}
use Rattle.clap.specs.declared.error.kind.ErrorKind.TheVariants.{OutOfMemory}
use Rattle.clap.specs.declared.parser.matches.ArgMatches.{ArgMatches}
use Rattle.command_words.specs.declared.usage.WordsFault.{WordsFault}
use Rattle.command_words.specs.declared.usage.WordsFault.TheVariants as error
use Rattle.command_words.specs.declared.usage.UsageFault.TheVariants.{Words}
use Rattle.command_words.specs.Matched.{IsFaulty, IsMatched, IsUnfit, Matches}
use Rattle.command_words.specs.Roles.{anything, is_whole, roles}
use Rattle.command_words.proofs.Walking.{AllUtf8, fails}
use Rattle.command_words.proofs.Agreement.{Reads}

-- the bytes of a `String` are text
pub all_text : {Z : Type 0} (words : List (String Z)) → AllUtf8 (map string_bytes words)
all_text [] = tt
all_text (w ∷ ws) = (IsUtf8-had (string_bytes w) w.ok, all_text ws)

-- the command's words are read so
abbrev pub ReadsAs : App → List Text → List Text → List Text → Type 0
ReadsAs app names options words =
    Reads names options (fault_of app words) (matches_of app words) (roles options anything words) (is_whole (length names) (roles options anything words))

firsts : (names : List Text) (m : ArgMatches) (rows : List Row) → rows_of (found_of m) ≡ rows → map (first_value (found_of m)) names ≡ map (λ n. first_of n rows) names
firsts [] m rows e = refl
firsts (n ∷ ns) m rows e = λ i. (first_value-rows (found_of m) n ∙ ap (first_of n) e) i ∷ firsts ns m rows e i

pub matched : (app : App) (names options words : List Text) (m : ArgMatches) → ReadsAs app names options words → fault_of app words ≡ [] → rows_of (found_of m) ≡ matches_of app words
    → Matches names options words m
matched app names options words m h none rows = go (is_whole (length names) (roles options anything words)) refl h
  where
    go : (b : Bool) → is_whole (length names) (roles options anything words) ≡ b → Reads names options (fault_of app words) (matches_of app words) (roles options anything words) b
        → Matches names options words m
    go true e r = record {
      whole = e;
      gives_names = firsts names m (matches_of app words) rows ∙ r.1;
      gives_options = λ x known. first_value-rows (found_of m) x ∙ ap (first_of x) rows ∙ r.2 x known;
    }
    go false e r = absurd (true≢false (sym r ∙ ap fails none))

-- words with a fault do not fit
unmatched : (app : App) (names options words : List Text) → ReadsAs app names options words → fault_of app words ≢ [] → IsUnfit names options words
unmatched app names options words h faulty = go (is_whole (length names) (roles options anything words)) refl h
  where
    go : (b : Bool) → is_whole (length names) (roles options anything words) ≡ b → Reads names options (fault_of app words) (matches_of app words) (roles options anything words) b
        → IsUnfit names options words
    go false f r = f
    go true f r = absurd (faulty r.0)

-- an error means that it ran out of memory, or that the words have a fault
refused : (made : App) (words : List Text) (e : Error) (r : WordsFault) → (is_simple_and_free made ≡ true → HasKind (fault_of made words) e)
    → (r ≡ error.OutOfMemory) ⊎ ((r ≡ error.Usage Words) × (kind_of e ≢ OutOfMemory))
    → (r ≡ error.OutOfMemory) ⊎ ((r ≡ error.Usage Words) × IsFaulty made words)
refused made words e r kinds told = ⊎_elim (λ memory. inl memory)
    (λ other. inr (other.0, λ simple none. ⊎_elim other.1 (λ among. subst (IsAmong (kind_of e)) none among) (kinds simple))) told

-- a command's words, by what a parse of it ensures
pub matches_fit : (app : App) (names options words : List Text) (r : Result ArgMatches WordsFault) → (is_simple app ≡ true) × (is_simple_and_free app ≡ true)
    → ReadsAs app names options words
    → MatchResult r (IsMatched app words) (λ e. (e ≡ error.OutOfMemory) ⊎ ((e ≡ error.Usage Words) × IsFaulty app words))
    → MatchResult r (Matches names options words) (λ e. (e ≡ error.OutOfMemory) ⊎ ((e ≡ error.Usage Words) × IsUnfit names options words))
matches_fit app names options words (Ok m) simple h read =
    matched app names options words m h (read.faultless simple.1) (read.matches simple.0).0
matches_fit app names options words (Err fault) simple h read =
    ⊎_elim (λ memory. inl memory) (λ other. inr (other.0, unmatched app names options words h (other.1 simple.1))) read

-- the same words, for a command that was made so
pub matched_to : (made app : App) (words : List Text) (m : ArgMatches) → made ≡ app → (is_simple_and_free made ≡ true → fault_of made words ≡ []) → HasMatchesOf made words m
    → IsMatched app words m
matched_to made app words m e kinds rows = subst (λ a. IsMatched a words m) e (record { faultless = kinds; matches = rows })

pub refused_to : (made app : App) (words : List Text) (e : Error) (r : WordsFault) → made ≡ app → (is_simple_and_free made ≡ true → HasKind (fault_of made words) e)
    → (r ≡ error.OutOfMemory) ⊎ ((r ≡ error.Usage Words) × (kind_of e ≢ OutOfMemory))
    → (r ≡ error.OutOfMemory) ⊎ ((r ≡ error.Usage Words) × IsFaulty app words)
refused_to made app words e r is kinds told = subst (λ a. (r ≡ error.OutOfMemory) ⊎ ((r ≡ error.Usage Words) × IsFaulty a words)) is (refused made words e r kinds told)
