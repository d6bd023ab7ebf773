-- Each part of a chain has few functions.
use Rattle.std.proofs.Common.{◌≡◌, ◌≤◌, List, ◌∷◌, ap, arith}
use Rattle.std.proofs.lemmas.List.Sums.{sum_by-cons}
use Rattle.piece_walk.specs.Pieces.{count_of}
use Rattle.policy_chains.specs.Parts.{part_of, parts_count, parts_of}
use Rattle.policy_chains.specs.declared.part.ChainPart.{ChainPart}

pub few_first : (all : List ChainPart) (part : ChainPart) (later : List ChainPart) → all ≡ part ∷ later → parts_count all ≤ 64 → count_of (part_of part) ≤ 64
few_first all part later is few = omega (arith, ap parts_count is, few, sum_by-cons count_of (part_of part) (parts_of later))

pub few_later : (all : List ChainPart) (part : ChainPart) (later : List ChainPart) → all ≡ part ∷ later → parts_count all ≤ 64 → parts_count later ≤ 64
few_later all part later is few = omega (arith, ap parts_count is, few, sum_by-cons count_of (part_of part) (parts_of later))
