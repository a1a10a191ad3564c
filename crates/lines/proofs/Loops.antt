-- The values: a turn of the loop that reads them, and its end.
use mathlib.Core.Path.{◌≡◌, sym, ap, ◌∙◌}
use mathlib.Core.List.{List, [], ◌∷◌, ◌++◌, append_assoc, append-nil}
use Prim.Native.Nat.{ℕ, suc, ◌+◌, ◌-◌, ◌*◌, ◌≤◌, ◌<◌}
use native.Mathlib.Numerals.{add-one}
use native.Mathlib.Omega.{arith}
use lib.ListN.{length, take, set}
use lib.Seq.{take_all, take-suc-set}
use Rattle.lines.specs.Lines.{number32_at, numbers_at}

numbers_step : (k j : ℕ) (input : List ℕ) (at : ℕ) → k ≡ suc j → number32_at input at ∷ numbers_at j input (at + 4) ≡ numbers_at k input at
unfolding numbers_at
numbers_step k j input at e = rw e

pub values_turn : (vs : List ℕ) (i m : ℕ) (input : List ℕ) (v : ℕ) {q : List ℕ} → i < length vs → length vs ≡ m → v ≡ number32_at input (8 + 4 * i)
    → take i vs ++ numbers_at (m - i) input (8 + 4 * i) ≡ q → take (i + 1) (set vs i v) ++ numbers_at (m - (i + 1)) input (8 + 4 * (i + 1)) ≡ q
values_turn vs i m input v h l d e =
    let rest : List ℕ = numbers_at (m - (i + 1)) input (8 + 4 * i + 4) in
    let next : 8 + 4 * (i + 1) ≡ 8 + 4 * i + 4 = omega arith in
    let s : take (i + 1) (set vs i v) ≡ take i vs ++ (v ∷ []) = rw add-one (take-suc-set vs i v h) in
    ap (λ (x : ℕ). take (i + 1) (set vs i v) ++ numbers_at (m - (i + 1)) input x) next
    ∙ ap (λ (x : List ℕ). x ++ rest) s
    ∙ append_assoc (take i vs) (v ∷ []) rest
    ∙ ap (λ (x : ℕ). take i vs ++ x ∷ rest) d
    ∙ ap (λ (x : List ℕ). take i vs ++ x) (numbers_step (m - i) (m - (i + 1)) input (8 + 4 * i) (omega arith))
    ∙ e

pub values_end : (vs : List ℕ) (i m : ℕ) (input : List ℕ) (at : ℕ) {q : List ℕ} → m ≤ i → length vs ≡ m → take i vs ++ numbers_at (m - i) input at ≡ q → vs ≡ q
unfolding numbers_at
values_end vs i m input at h l e = let z : m - i ≡ 0 = omega arith in sym (rw (take_all i vs (omega arith), z) (append-nil vs)) ∙ e
