use Rattle.std.proofs.Common.{◌∙◌, ◌++◌, ◌∷◌, [], ap, sym, take}
use Rattle.std.proofs.Math.Seq.{take-append_seam}
use Rattle.pcapng_io.proofs.read.longer.Goals as goal

pub returns-clause-front : goal.returns-clause-front
returns-clause-front c =
    ap (λ l. take 8 (l ++ 0 ∷ 0 ∷ 0 ∷ 0 ∷ [])) c.copy_from_slice.ensures.after ∙ ap (λ n. take n (c.args.front.now ++ 0 ∷ 0 ∷ 0 ∷ 0 ∷ [])) (sym c.requires) ∙ take-append_seam c.args.front.now (0 ∷ 0 ∷ 0 ∷ 0 ∷ [])
