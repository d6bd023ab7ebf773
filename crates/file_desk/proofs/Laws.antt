-- What the account of a file to write says in other words.
use Rattle.std.proofs.Common.{◌≡◌, ◌∙◌, List, [], ◌∷◌, ap, refl}
use Rattle.std.specs.Prelude.{ℕ, Bool, true, false, if◌then◌else◌, Option, Some, None}
use Rattle.std.specs.Option.{option_map}
use Rattle.std.specs.Io.KnownBytes.{append_known}
use Rattle.std.proofs.lemmas.List.{append-nil}
use Rattle.file_desk.specs.Accounts.{Account, put_in, IsAsOpened, IsWhole}

nothing_more : (holds : Option (List ℕ)) → append_known (option_map (λ held. held) holds) [] ≡ holds
nothing_more None = refl
nothing_more (Some held) = ap (λ bytes. Some bytes) (append-nil held)

none_yet : (holds : Option (List ℕ)) → append_known (option_map (λ held. []) holds) [] ≡ option_map (λ held. []) holds
none_yet None = refl
none_yet (Some held) = refl

-- a whole file holds what was put, and nothing else
pub whole_holds_what_was_put : (a : Account) → IsWhole a → put_in a ≡ a.holds
whole_holds_what_was_put a whole =
    ap (λ e. append_known (option_map (λ held. if e then held else []) a.holds) a.gathered) whole.emptied
    ∙ ap (λ g. append_known (option_map (λ held. held) a.holds) g) whole.nothing
    ∙ nothing_more a.holds

-- nothing was put into a file that was just opened, whatever it holds
pub nothing_is_put_at_first : (a : Account) → IsAsOpened a → put_in a ≡ option_map (λ held. []) a.holds
nothing_is_put_at_first a opened =
    ap (λ e. append_known (option_map (λ held. if e then held else []) a.holds) a.gathered) opened.as_it_was
    ∙ ap (λ g. append_known (option_map (λ held. []) a.holds) g) opened.nothing
    ∙ none_yet a.holds

-- a file that held 1 and 2, and isn't emptied yet
untouched : put_in (record { holds = Some (1 ∷ 2 ∷ []); is_emptied = false; gathered = [] }) ≡ Some []
untouched = refl

-- one that was emptied and took 3, while 4 is gathered for it
under_way : put_in (record { holds = Some (3 ∷ []); is_emptied = true; gathered = 4 ∷ [] }) ≡ Some (3 ∷ 4 ∷ [])
under_way = refl
