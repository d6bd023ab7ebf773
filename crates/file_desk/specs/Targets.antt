-- For proofs: the bytes that were handed on to a file to write.
use Rattle.std.specs.Prelude.{ℕ, List, [], if◌then◌else◌, Option}
use Rattle.std.specs.Option.{option_map}
use Rattle.file_desk.specs.declared.target.Target.{Target}

-- none before the file is emptied
abbrev pub target_contents : {F : Type 0} → (F → Option (List ℕ)) → Target F → Option (List ℕ)
target_contents contents t = option_map (λ held. if t.is_emptied then held else []) (contents t.file)
