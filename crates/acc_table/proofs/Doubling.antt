-- The number of buckets, doubled up from one.
use Rattle.std.proofs.Common.{◌≡◌, ℕ, ◌+◌, ◌*◌, ◌<◌, ◌≤◌, zero, suc, cond, refl, ap, ◌∙◌, arith}
use Rattle.std.proofs.lemmas.Bool.{le-leb, lt-leb}
use Rattle.acc_table.specs.Arrivals.{doubled_to, heads_for}

pub doubled_stop : (more power least : ℕ) → least ≤ power → doubled_to more power least ≡ power
unfolding doubled_to
doubled_stop zero power least h = refl
doubled_stop (suc more) power least h = ap (λ b. cond b power (doubled_to more (2 * power) least)) (le-leb least power h)

pub doubled_next : (more fewer power double least : ℕ) → more ≡ fewer + 1 → double ≡ power * 2 → power < least → doubled_to more power least ≡ doubled_to fewer double least
unfolding doubled_to
doubled_next more fewer power double least e d h =
    let m : more ≡ suc fewer = omega (arith, e) in
    let t : 2 * power ≡ double = omega (arith, d) in
    ap (λ n. doubled_to n power least) m
    ∙ (ap (λ b. cond b power (doubled_to fewer (2 * power) least)) (lt-leb least power h)
    ∙ ap (λ n. doubled_to fewer n least) t)

pub doubled_first : (entries : ℕ) → doubled_to 16 1 entries ≡ heads_for entries
unfolding heads_for
doubled_first entries = refl

pub doubled_last : (power least : ℕ) → doubled_to 0 power least ≡ power
unfolding doubled_to
doubled_last power least = refl
