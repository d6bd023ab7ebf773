use Rattle.std.proofs.Common.{◌≡◌, false, map, drop, string_bytes}
use Rattle.nfp.specs.Sync.{sync_from}
use Rattle.nfp.proofs.sync.place_of_sync.Given as goal

-- the option isn't among the words so far, and neither is `--`
abbrev pub invariant-loop-place : goal.invariant-loop-place
invariant-loop-place l =
    sync_from 0 false (map string_bytes l.words) ≡ sync_from l.place l.is_value (map string_bytes (drop l.place l.words))
