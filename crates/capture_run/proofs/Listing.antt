-- What is put for records in a row is what is put for each part.
use Rattle.std.proofs.Common.{◌≡◌, ◌+◌, ◌∙◌, ℕ, List, [], ◌∷◌, ◌++◌, length, refl, ap, arith}
use Rattle.std.specs.Prelude.{count_by, cond, Option}
use Rattle.std.specs.List.{flat_map, zip, enumerate_from}
use Rattle.std.proofs.lemmas.Grind.{flat_map-append}
use Rattle.std.proofs.lemmas.List.Sums.{sum_by-append}
use Rattle.chain_walk.specs.declared.walk.Fate.{Fate}
use Rattle.capture_report.specs.Report.{ChainNames, drop_line, drop_lines, is_gone}

zip-append : {X Y : Type 0} (xs xs' : List X) (ys ys' : List Y) → length ys ≡ length xs → zip (xs ++ xs') (ys ++ ys') ≡ zip xs ys ++ zip xs' ys'
zip-append [] xs' [] ys' e = refl
zip-append [] xs' (y ∷ ys) ys' e = absurd (omega arith)
zip-append (x ∷ xs) xs' [] ys' e = absurd (omega arith)
zip-append (x ∷ xs) xs' (y ∷ ys) ys' e = ap (λ l. (x, y) ∷ l) (zip-append xs xs' ys ys' (omega arith))

length-zip : {X Y : Type 0} (xs : List X) (ys : List Y) → length ys ≡ length xs → length (zip xs ys) ≡ length ys
length-zip [] [] e = refl
length-zip [] (y ∷ ys) e = absurd (omega arith)
length-zip (x ∷ xs) [] e = absurd (omega arith)
length-zip (x ∷ xs) (y ∷ ys) e = let more : length (zip xs ys) ≡ length ys = length-zip xs ys (omega arith) in omega arith

enumerate-append : {X : Type 0} (n : ℕ) (xs ys : List X) → enumerate_from n (xs ++ ys) ≡ enumerate_from n xs ++ enumerate_from (n + length xs) ys
enumerate-append n [] ys = ap (λ m. enumerate_from m ys) (omega arith)
enumerate-append n (x ∷ xs) ys = ap (λ l. (n, x) ∷ l) (enumerate-append (n + 1) xs ys) ∙ ap (λ m. (n, x) ∷ enumerate_from (n + 1) xs ++ enumerate_from m ys) (omega arith)

-- the line of a packet with its number, its chain and its end
abbrev line_at : List ChainNames → ℕ × (Option ℕ × Fate) → List ℕ
line_at names x = drop_line names x.0 x.1.0 x.1.1

pub lines-append : (names : List ChainNames) (first : ℕ) (cs ds : List (Option ℕ)) (fs gs : List Fate) → length fs ≡ length cs →
    drop_lines names first (cs ++ ds) (fs ++ gs) ≡ drop_lines names first cs fs ++ drop_lines names (first + length fs) ds gs
unfolding drop_lines
lines-append names first cs ds fs gs many =
    ap (λ l. flat_map (line_at names) (enumerate_from first l)) (zip-append cs ds fs gs many)
    ∙ ap (flat_map (line_at names)) (enumerate-append first (zip cs fs) (zip ds gs))
    ∙ flat_map-append (line_at names) (enumerate_from first (zip cs fs)) (enumerate_from (first + length (zip cs fs)) (zip ds gs))
    ∙ ap (λ n. flat_map (line_at names) (enumerate_from first (zip cs fs)) ++ flat_map (line_at names) (enumerate_from (first + n) (zip ds gs))) (length-zip cs fs many)

pub gone-append : (fs gs : List Fate) → count_by is_gone (fs ++ gs) ≡ count_by is_gone fs + count_by is_gone gs
gone-append fs gs = sum_by-append (λ x. cond (is_gone x) 1 0) fs gs

pub no_lines : (names : List ChainNames) (first : ℕ) → drop_lines names first [] [] ≡ []
unfolding drop_lines
no_lines names first = refl
