-- The next record, and those after it.
use Rattle.std.proofs.Common.{◌≡◌, ◌≤◌, ◌<◌, ◌+◌, ◌-◌, ◌^◌, ◌∙◌, ℕ, suc, [], ◌∷◌, ap, sym, refl, arith}
use Rattle.capture_bytes.specs.declared.packet.PcapRecord.{PcapRecord}
use Rattle.capture_bytes.specs.Packets.{IsShort}
use Rattle.demo_capture.specs.declared.draws.Draws.{Draws}
use Rattle.demo_capture.specs.Draws.{draws_after, number_after}
use Rattle.demo_capture.specs.Giving.{DemoLeft, GivesNext}
use Rattle.demo_capture.specs.DemoCapture.{record_of, records_from}

behind_first : (n i x : ℕ) → records_from (suc n) i x ≡ record_of i (draws_after x) ∷ records_from n (i + 1) (number_after 4 x)
unfolding records_from
behind_first n i x = refl

pub next_of : (count given x : ℕ) → given < count → records_from (count - given) (given + 1) x ≡ record_of (given + 1) (draws_after x) ∷ records_from (count - (given + 1)) (given + 1 + 1) (number_after 4 x)
next_of count given x some =
    let more : count - given ≡ suc (count - (given + 1)) = omega arith in
    ap (λ n. records_from n (given + 1) x) more ∙ behind_first (count - (given + 1)) (given + 1) x

pub none_of : (count given x : ℕ) → count ≤ given → records_from (count - given) (given + 1) x ≡ []
unfolding records_from
none_of count given x none =
    let nothing : count - given ≡ 0 = omega arith in
    ap (λ n. records_from n (given + 1) x) nothing

pub gives_next : (count given last behind : ℕ) (draws : Draws) (r : PcapRecord) (before : DemoLeft) → record { given = given; records = records_from (count - given) (given + 1) last } ≡ before
    → given < count → count < 2 ^ 32 → r ≡ record_of (given + 1) draws → IsShort r → draws ≡ draws_after last → behind ≡ number_after 4 last
    → GivesNext r before (record { given = given + 1; records = records_from (count - (given + 1)) (given + 1 + 1) behind })
gives_next count given last behind draws r before is some fits is_r short is_draws is_behind =
    let same : given ≡ before.given = ap (λ (v : DemoLeft). v.given) is in
    let first : record_of (given + 1) (draws_after last) ≡ r = sym (is_r ∙ ap (λ (d : Draws). record_of (given + 1) d) is_draws) in
    record {
      counted = ap (λ (n : ℕ). n + 1) same;
      few = omega (arith, same, some, fits);
      short = short;
      next = sym (ap (λ (v : DemoLeft). v.records) is)
          ∙ (next_of count given last some ∙ (ap (λ (x : PcapRecord). x ∷ records_from (count - (given + 1)) (given + 1 + 1) (number_after 4 last)) first ∙ ap (λ (n : ℕ). r ∷ records_from (count - (given + 1)) (given + 1 + 1) n) (sym is_behind)));
    }
