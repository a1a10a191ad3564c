-- Tests put together, numbers counted by tests, and the list that a chain is followed to.
use Rattle.std.specs.Prelude.{◌≡◌, ℕ, zero, suc, ◌+◌, ◌*◌, ◌<◌, ◌≤◌, Bool, true, false, cond, ◌&&◌, ◌||◌, ◌≢◌, ◌⊎◌, List, [], ◌∷◌, length, ◌==◌, nat_lt, refl}
use Rattle.std.proofs.Common.{sym, ap, ◌∙◌, inl, inr, arith, eq-eqb, ne_eqb, eqb-true}
use Rattle.std.proofs.Math.Decide.{ℕ_discrete}
pub use Rattle.words.specs.Loops.{follow-step, follow-none}
use Rattle.words.specs.Basics.{none, sum, all, some, how_many, implies, count, follow, below}
use Rattle.words.specs.Tests.{decided, true≢false, both, lt_of}
use Rattle.words.specs.Counting.{sum_upd, sum_ge, sum_zero, sum_one, when, when_zero, when_pos, all_at, all_of, how_many_zero, how_many-none, hit, miss, δ_same, δ_other, count_nil, count_cons}

-- ---- tests

pub same_tests : (a b : Bool) → (a ≡ true → b ≡ true) → (b ≡ true → a ≡ true) → a ≡ b
same_tests true b f g = sym (f refl)
same_tests false true f g = absurd (true≢false (sym (g refl)))
same_tests false false f g = refl

pub and_of : {a b : Bool} → a ≡ true → b ≡ true → a && b ≡ true
and_of d e = rw (d, e)

pub or_left : {a : Bool} (b : Bool) → a ≡ true → a || b ≡ true
or_left b e = rw e

pub or_right : (a : Bool) {b : Bool} → b ≡ true → a || b ≡ true
or_right true e = refl
or_right false e = e

pub either : (a b : Bool) → a || b ≡ true → (a ≡ true) ⊎ (b ≡ true)
either true b e = inl refl
either false b e = inr e

pub implies_of : (a : Bool) {b : Bool} → (a ≡ true → b ≡ true) → implies a b ≡ true
implies_of true h = h refl
implies_of false h = refl

pub implies_at : (a b : Bool) → implies a b ≡ true → a ≡ true → b ≡ true
implies_at true b h e = h
implies_at false b h e = absurd (true≢false (sym e))

-- ---- counts

pub how_many_cong : (n : ℕ) (f g : ℕ → Bool) → ((i : ℕ) → i < n → f i ≡ g i) → how_many n f ≡ how_many n g
how_many_cong zero f g h = refl
how_many_cong (suc n) f g h = rw (how_many_cong n f g (λ i b. h i (omega arith)), h n (omega arith))

pub how_many_le : (n : ℕ) (f : ℕ → Bool) → how_many n f ≤ n
how_many_le zero f = omega arith
how_many_le (suc n) f = elim (decided (f n)) [ inl e ↦ omega (arith, how_many_le n f, hit e) | inr e ↦ omega (arith, how_many_le n f, miss e) ]

-- it holds of k alone
pub how_many_one : (n k : ℕ) (f : ℕ → Bool) → k < n → f k ≡ true → ((j : ℕ) → j < n → f j ≡ true → j ≡ k) → how_many n f ≡ 1
how_many_one n k f b e h = sum_one n k (λ i. cond (f i) 1 0) b other ∙ hit e
  where
    other : (j : ℕ) → j < n → j ≢ k → ◌≡◌ {A = ℕ} (cond (f j) 1 0) 0
    other j c d = elim (decided (f j)) [ inl t ↦ absurd (d (h j c t)) | inr t ↦ miss t ]

-- if it holds of one number only, it holds of no two
pub how_many_unique : (n j k : ℕ) (f : ℕ → Bool) → how_many n f ≤ 1 → j < n → k < n → f j ≡ true → f k ≡ true → j ≡ k
how_many_unique n j k f u a b s t = elim (ℕ_discrete j k) [
  | yes e ↦ e
  | no d ↦ absurd (omega (arith, u, sum_upd n k (λ i. cond (f i) 1 0) rest b (λ i c e. sym (miss_out i e)), sum_ge n j rest a, hit s, hit t, miss_out j d, at_k))
]
  where
    rest : ℕ → ℕ
    rest i = cond (i == k) 0 (cond (f i) 1 0)

    miss_out : (i : ℕ) → i ≢ k → rest i ≡ cond (f i) 1 0
    miss_out i e = rw (ne_eqb i k e)

    at_k : rest k ≡ 0
    at_k = rw (eq-eqb k k refl)

pub how_many_pos : (n k : ℕ) (f : ℕ → Bool) → k < n → f k ≡ true → 0 < how_many n f
how_many_pos n k f b e = omega (arith, sum_ge n k (λ i. cond (f i) 1 0) b, hit e)

-- f holds of nothing but r, and of r only if there is more: it holds of one number or of none
module _ (n r : ℕ) (f : ℕ → Bool) where
  pub only_counted : (more : Bool) → (more ≡ true → (r < n) × (f r ≡ true)) → all n (λ c. implies (f c) (more && c == r)) ≡ true → how_many n f ≡ cond more 1 0
  only_counted true h a =
      how_many_one n r f (h refl).0 (h refl).1 (λ j b t. eqb-true j r (implies_at (f j) (j == r) (all_at n (λ c. implies (f c) (c == r)) a j b) t))
  only_counted false h a =
      how_many-none n f (λ j b. elim (decided (f j)) [ inl t ↦ t ∙ sym (implies_at (f j) false (all_at n (λ c. implies (f c) false) a j b) t) | inr t ↦ t ])

  pub only_of_count : (more : Bool) → (more ≡ true → (r < n) × (f r ≡ true)) → how_many n f ≡ cond more 1 0 → all n (λ c. implies (f c) (more && c == r)) ≡ true
  only_of_count true h e =
      all_of n (λ c. implies (f c) (c == r)) (λ j b. implies_of (f j) (λ t. eq-eqb j r (how_many_unique n j r f (omega arith) b (h refl).0 t (h refl).1)))
  only_of_count false h e = all_of n (λ c. implies (f c) false) (λ j b. implies_of (f j) (λ t. sym (how_many_zero n f e j b) ∙ t))

pub sum_upto : (n c : ℕ) (f : ℕ → ℕ) → ((j : ℕ) → j < n → f j ≤ c) → sum n f ≤ c * n
sum_upto zero c f h = omega arith
sum_upto (suc n) c f h = omega (arith, sum_upto n c f (λ j b. h j (omega arith)), h n (omega arith))

-- how often i stands in a list, with the test turned round
pub count-step : (i x : ℕ) (xs : List ℕ) → count i (x ∷ xs) ≡ cond (x == i) 1 0 + count i xs
count-step i x xs = elim (ℕ_discrete x i) [
  | yes e ↦ rw (count_cons i x xs, eq-eqb x i e, e, δ_same i)
  | no e ↦ rw (count_cons i x xs, ne_eqb x i e, δ_other i x (λ d. e (sym d)))
]

-- ---- a test that holds of some number below n

pub some_at : (n : ℕ) (f : ℕ → Bool) → some n f ≡ true → (i : ℕ) × (i < n) × (f i ≡ true)
some_at zero f e = absurd (true≢false (sym e))
some_at (suc n) f e = elim (either (some n f) (f n) e) [
  | inl h ↦ (let r = some_at n f h in (r.0, omega (arith, r.1), r.2))
  | inr h ↦ (n, omega arith, h)
]

pub some_of : (n : ℕ) (f : ℕ → Bool) (i : ℕ) → i < n → f i ≡ true → some n f ≡ true
some_of zero f i b e = absurd (omega arith)
some_of (suc n) f i b e = elim (ℕ_discrete i n) [
  | yes d ↦ or_right (some n f) (ap f (sym d) ∙ e)
  | no d ↦ or_left (f n) (some_of n f i (omega arith) e)
]

-- ---- a sum over a list of numbers below N, each there once

abbrev pub total : (ℕ → ℕ) → List ℕ → ℕ
total g [] = 0
total g (x ∷ xs) = g x + total g xs

pub total-sum : (N : ℕ) (g : ℕ → ℕ) (L : List ℕ) → below N L ≡ true → ((p : ℕ) → p < N → count p L ≤ 1) → total g L ≡ sum N (λ p. when (count p L) (g p))
total-sum N g [] b h = sym (sum_zero N (λ p. when (count p []) (g p)) (λ p c. when_zero (count p []) (g p) (count_nil p)))
total-sum N g (x ∷ L) b h =
    let r = both (nat_lt x N) (below N L) b in
    let z : count x L ≡ 0 = omega (arith, h x (lt_of r.0), count_cons x x L, δ_same x) in
    omega (
      arith,
      total-sum N g L r.1 (λ p c. omega (arith, h p c, count_cons p x L)),
      sum_upd N x (λ p. when (count p (x ∷ L)) (g p)) (λ p. when (count p L) (g p)) (lt_of r.0)
          (λ p c d. ap (λ k. when k (g p)) (count_cons p x L ∙ omega (arith, δ_other p x d))),
      when_zero (count x L) (g x) z,
      when_pos (count x (x ∷ L)) (g x) (omega (arith, count_cons x x L, δ_same x)),
    )

-- ---- the list that a chain is followed to

pub length-follow : (c : ℕ) (next : ℕ → ℕ) (a : ℕ) → length (follow c next a) ≤ c
length-follow zero next a = omega arith
length-follow (suc c) next a = elim (ℕ_discrete a none) [
  | yes e ↦ omega (arith, ap length (follow-none (suc c) next a e))
  | no e ↦ omega (arith, ap length (follow-step c next a e), length-follow c next (next a))
]
