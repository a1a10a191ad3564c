-- The answer words in pairs.
use Rattle.std.specs.List.{list_any}
use Rattle.std.specs.Prelude.{Bool, true, false, ◌&&◌, ◌||◌, eqb, ◌≡◌, refl, List, [], ◌∷◌, ◌++◌, ℕ, suc, ◌/◌, length, map, flat_map}
use Rattle.std.proofs.Common.{ap, ◌∙◌, arith}
use Rattle.std.specs.Simd.{first_chunks}
use Rattle.std.specs.Cmp.Lexicographic.{pointwise}
use Rattle.lines.specs.Lines.{decimal, line, answer_lines, main_returned}

abbrev pub pair_line : List ℕ → List ℕ
pair_line p = line (map decimal p)

pub pairs_lines : (ws : List ℕ) → flat_map pair_line (first_chunks 2 (length ws / 2) ws) ≡ answer_lines ws
unfolding answer_lines
pairs_lines [] = refl
pairs_lines (a ∷ []) = refl
pairs_lines (a ∷ b ∷ ws) =
    let e : length (a ∷ b ∷ ws) / 2 ≡ suc (length ws / 2) = omega arith in
    ap (λ (k : ℕ). flat_map pair_line (first_chunks 2 k (a ∷ b ∷ ws))) e ∙ ap (λ (l : List ℕ). line (decimal a ∷ decimal b ∷ []) ++ l) (pairs_lines ws)

-- whether a pair is that of Main's end
pub pairs_returned : (ws : List ℕ) → list_any (λ p. pointwise eqb p (102 ∷ 3 ∷ [])) (first_chunks 2 (length ws / 2) ws) ≡ main_returned ws
unfolding main_returned
pairs_returned [] = refl
pairs_returned (a ∷ []) = refl
pairs_returned (a ∷ b ∷ ws) =
    let e : length (a ∷ b ∷ ws) / 2 ≡ suc (length ws / 2) = omega arith in
    ap (λ (k : ℕ). list_any (λ p. pointwise eqb p (102 ∷ 3 ∷ [])) (first_chunks 2 k (a ∷ b ∷ ws))) e ∙ (λ i. (eqb a 102 && and-true (eqb b 3) i) || pairs_returned ws i)
  where
    and-true : (b : Bool) → b && true ≡ b
    and-true true = refl
    and-true false = refl
