-- Bounded tests, sums and chains, one step further; and the length of a list of numbers below N by its counts.
use Rattle.std.specs.Prelude.{◌≡◌, ℕ, zero, suc, ◌+◌, ◌-◌, ◌<◌, ◌≤◌, Bool, true, false, cond, ◌≢◌, List, [], ◌∷◌, length, nat_lt, refl}
use Rattle.std.proofs.Common.{sym, ap, ◌∙◌, inl, inr, add-one, arith, eq-eqb, ne_eqb}
use Rattle.std.proofs.Math.Decide.{ℕ_discrete, dec_lt}
use Rattle.words.specs.Basics.{none, sum, all, how_many, δ, count, follow, below}
use Rattle.words.specs.Counting.{δ_same, δ_other, count_nil, count_cons, sum_cong, sum_zero, sum_add, sum_one, all_at, all_of, hit}
use Rattle.words.specs.Tests.{decided, true≢false, both, lt_of}

pub all-next : (n : ℕ) (f : ℕ → Bool) → all n f ≡ true → f n ≡ true → all (n + 1) f ≡ true
all-next n f e h = rw (add-one, e, h)

-- one fails, all fail
pub all_fail : (n : ℕ) (f : ℕ → Bool) (i : ℕ) → i < n → f i ≡ false → all n f ≡ false
all_fail n f i b e = elim (decided (all n f)) [ inl h ↦ absurd (true≢false (sym (all_at n f h i b) ∙ e)) | inr h ↦ h ]

pub sum-next : (n : ℕ) (f : ℕ → ℕ) → sum (n + 1) f ≡ sum n f + f n
sum-next n f = rw add-one

pub follow-none : (c : ℕ) (next : ℕ → ℕ) (a : ℕ) → a ≡ none → follow c next a ≡ []
follow-none zero next a e = refl
follow-none (suc c) next a e = rw (eq-eqb a none e, follow)

pub follow-step : (c : ℕ) (next : ℕ → ℕ) (a : ℕ) → a ≢ none → follow (suc c) next a ≡ a ∷ follow c next (next a)
follow-step c next a e = rw (ne_eqb a none e, follow)

-- a list of numbers below N, counted number by number
pub count-sum : (N : ℕ) (xs : List ℕ) → below N xs ≡ true → sum N (λ i. count i xs) ≡ length xs
count-sum N [] e = sum_zero N (λ i. count i []) (λ i b. count_nil i)
count-sum N (x ∷ xs) e =
    let p = both (nat_lt x N) (below N xs) e in
    omega (
      arith,
      sum_cong N (λ i. count i (x ∷ xs)) (λ i. δ i x + count i xs) (λ i b. count_cons i x xs),
      sum_add N (λ i. δ i x) (λ i. count i xs),
      sum_one N x (λ i. δ i x) (lt_of p.0) (λ i b d. δ_other i x d),
      δ_same x,
      count-sum N xs p.1,
    )

-- ---- a pass over the numbers below n until all that pass the test f are seen: from p on `left` of them are to come
module _ (n : ℕ) (f : ℕ → Bool) where
  pub upto : (m p : ℕ) → p ≤ m → how_many p f ≤ how_many m f
  upto zero p h = let e : p ≡ 0 = omega arith in omega (arith, ap (λ k. how_many k f) e)
  upto (suc m) p h = elim (ℕ_discrete p (suc m)) [
    | yes e ↦ omega (arith, ap (λ k. how_many k f) e)
    | no e ↦ omega (arith, upto m p (omega arith))
  ]

  pub all_left : (left : ℕ) → left ≡ how_many n f → how_many 0 f + left ≡ how_many n f
  all_left left e = omega arith

  pub not_past : (p left : ℕ) → how_many p f + left ≡ how_many n f → 0 < left → p ≤ n → p < n
  not_past p left e h b = elim (ℕ_discrete p n) [
    | yes d ↦ absurd (omega (arith, ap (λ k. how_many k f) d))
    | no d ↦ omega arith
  ]

  pub one_left : (p left : ℕ) → how_many p f + left ≡ how_many n f → p < n → cond (f p) 1 0 ≤ left
  one_left p left e b = omega (arith, upto n (suc p) (omega arith))

  pub fewer_left : (p left t : ℕ) → how_many p f + left ≡ how_many n f → t ≡ cond (f p) 1 0 → t ≤ left → how_many (p + 1) f + (left - t) ≡ how_many n f
  fewer_left p left t e d h = rw add-one (omega (arith, e, d))

  -- where it fails nothing is asked
  pub none_left : (g : ℕ → Bool) → ((i : ℕ) → f i ≡ false → g i ≡ true) → (p left : ℕ) → how_many p f + left ≡ how_many n f → left ≤ 0 → true ≡ all p g → true ≡ all n g
  none_left g h p left e z a = sym (all_of n g (λ i b. elim (dec_lt i p) [
    | yes l ↦ all_at p g (sym a) i l
    | no l ↦ elim (decided (f i)) [ inl t ↦ absurd (omega (arith, upto n (suc i) (omega arith), upto i p (omega arith), hit t)) | inr t ↦ h i t ]
  ]))
