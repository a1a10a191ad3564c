-- The words of the numbers, with the totals among them, and back.
use Rattle.std.specs.Prelude.{◌≡◌, refl, List, [], ◌∷◌, ℕ, suc, length}
use Rattle.std.proofs.Common.{arith}
use Rattle.soundness.specs.declared.Numbers.{Numbers}
use Rattle.soundness.specs.Numbers.{numbers_in, number_words, number_count, total_count, totals_in}

-- four totals
abbrev Both : Numbers → List ℕ → Type 0
Both s ts = (numbers_in (number_words s ts) ≡ s) × (totals_in (number_words s ts) ≡ ts)

both_in : (s : Numbers) (ts : List ℕ) → length ts ≡ total_count → Both s ts
both_in s [] e = absurd (omega arith)
both_in s (a ∷ []) e = absurd (omega arith)
both_in s (a ∷ b ∷ []) e = absurd (omega arith)
both_in s (a ∷ b ∷ c ∷ []) e = absurd (omega arith)
both_in s (a ∷ b ∷ c ∷ d ∷ []) e = (refl, refl)
both_in s (a ∷ b ∷ c ∷ d ∷ f ∷ ts) e = absurd (omega arith)

pub numbers_in_lem : (s : Numbers) (ts : List ℕ) → length ts ≡ total_count → numbers_in (number_words s ts) ≡ s
numbers_in_lem s ts e = (both_in s ts e).0

pub totals_in_lem : (s : Numbers) (ts : List ℕ) → length ts ≡ total_count → totals_in (number_words s ts) ≡ ts
totals_in_lem s ts e = (both_in s ts e).1

-- the five words of the head, and those from the totals on
tail_back : (h₀ h₁ h₂ h₃ h₄ : ℕ) (ks : List ℕ) → length ks ≡ suc total_count
    → let ns = h₀ ∷ h₁ ∷ h₂ ∷ h₃ ∷ h₄ ∷ ks in number_words (numbers_in ns) (totals_in ns) ≡ ns
tail_back h₀ h₁ h₂ h₃ h₄ [] e = absurd (omega arith)
tail_back h₀ h₁ h₂ h₃ h₄ (a ∷ []) e = absurd (omega arith)
tail_back h₀ h₁ h₂ h₃ h₄ (a ∷ b ∷ []) e = absurd (omega arith)
tail_back h₀ h₁ h₂ h₃ h₄ (a ∷ b ∷ c ∷ []) e = absurd (omega arith)
tail_back h₀ h₁ h₂ h₃ h₄ (a ∷ b ∷ c ∷ d ∷ []) e = absurd (omega arith)
tail_back h₀ h₁ h₂ h₃ h₄ (a ∷ b ∷ c ∷ d ∷ f ∷ []) e = refl
tail_back h₀ h₁ h₂ h₃ h₄ (a ∷ b ∷ c ∷ d ∷ f ∷ g ∷ ks) e = absurd (omega arith)

-- the numbers and the totals are the list that they were taken from
pub numbers_back : (ns : List ℕ) → length ns ≡ number_count → number_words (numbers_in ns) (totals_in ns) ≡ ns
numbers_back [] e = absurd (omega arith)
numbers_back (a ∷ []) e = absurd (omega arith)
numbers_back (a ∷ b ∷ []) e = absurd (omega arith)
numbers_back (a ∷ b ∷ c ∷ []) e = absurd (omega arith)
numbers_back (a ∷ b ∷ c ∷ d ∷ []) e = absurd (omega arith)
numbers_back (a ∷ b ∷ c ∷ d ∷ f ∷ ks) e = tail_back a b c d f ks (omega arith)
