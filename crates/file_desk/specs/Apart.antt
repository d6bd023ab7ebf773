-- Believed: files that are known to be different.
use Rattle.std.specs.Prelude.{◌≡◌, ◌≢◌, Option, Some}
use Rattle.file_desk.specs.declared.identity.Identity.{Identity}

-- no file has both identities, as far as they are known
abbrev pub Differ : Option Identity → Option Identity → Type 0
Differ a b = (i : Identity) → a ≡ Some i → b ≢ Some i
