-- Counting with numbers that are 0 or 1, occurrences in a list, and sums, so that facts are linear and `omega` closes them.
use Rattle.std.specs.Prelude.{◌≡◌, ℕ, zero, suc, ◌+◌, ◌*◌, ◌<◌, ◌≤◌, Bool, true, false, cond, ◌≢◌, ◌⊎◌, List, [], ◌∷◌, ◌++◌, length, refl}
use Rattle.std.proofs.Common.{sym, ap, ◌∙◌, inl, inr, le_refl, arith, eq-eqb, ne_eqb}
use Rattle.std.proofs.Math.Decide.{ℕ_discrete}
use Rattle.words.specs.Tests.{decided, both}
use Rattle.words.specs.Basics.{sum, how_many, all}
unfoldable pub use Rattle.words.specs.Basics.{δ, count, range}

pub δ_same : (i : ℕ) → δ i i ≡ 1
unfolding δ
δ_same i = rw (eq-eqb i i refl)

pub δ_other : (i j : ℕ) → i ≢ j → δ i j ≡ 0
unfolding δ
δ_other i j h = rw (ne_eqb i j h)

pub δ_le : (i j : ℕ) → δ i j ≤ 1
δ_le i j = elim (ℕ_discrete i j) [ yes e ↦ omega (arith, ap (δ i) (sym e), δ_same i) | no e ↦ omega (arith, δ_other i j e) ]

pub δ_eq : (i j : ℕ) → 0 < δ i j → i ≡ j
δ_eq i j h = elim (ℕ_discrete i j) [ yes e ↦ e | no e ↦ absurd (omega (arith, δ_other i j e)) ]

-- 1 at zero, else 0
unfoldable pub δ₀ : ℕ → ℕ
δ₀ zero = 1
δ₀ (suc n) = 0

pub δ₀_zero : (n : ℕ) → n ≡ 0 → δ₀ n ≡ 1
unfolding δ₀
δ₀_zero zero e = refl
δ₀_zero (suc n) e = omega arith

pub δ₀_pos : (n : ℕ) → 0 < n → δ₀ n ≡ 0
unfolding δ₀
δ₀_pos zero e = omega arith
δ₀_pos (suc n) e = refl

pub δ₀_inv : (n : ℕ) → 0 < δ₀ n → n ≡ 0
unfolding δ₀
δ₀_inv zero e = refl
δ₀_inv (suc n) e = omega arith

-- x if n is not zero, else 0
unfoldable pub when : ℕ → ℕ → ℕ
when zero x = 0
when (suc n) x = x

pub when_zero : (n x : ℕ) → n ≡ 0 → when n x ≡ 0
unfolding when
when_zero zero x e = refl
when_zero (suc n) x e = omega arith

pub when_pos : (n x : ℕ) → 0 < n → when n x ≡ x
unfolding when
when_pos zero x e = omega arith
when_pos (suc n) x e = refl

pub when_le : (n x : ℕ) → when n x ≤ x
unfolding when
when_le zero x = omega arith
when_le (suc n) x = omega arith

pub when_inv : (n x : ℕ) → 0 < when n x → 0 < n
unfolding when
when_inv zero x h = h
when_inv (suc n) x h = omega arith

pub count_nil : (i : ℕ) → count i [] ≡ 0
unfolding count
count_nil i = refl

pub count_cons : (i x : ℕ) (xs : List ℕ) → count i (x ∷ xs) ≡ δ i x + count i xs
unfolding count
count_cons i x xs = refl

pub count_le : (i : ℕ) (xs : List ℕ) → count i xs ≤ length xs
unfolding count
count_le i [] = omega arith
count_le i (x ∷ xs) = omega (arith, δ_le i x, count_le i xs)

pub sum_cong : (n : ℕ) (f g : ℕ → ℕ) → ((j : ℕ) → j < n → f j ≡ g j) → sum n f ≡ sum n g
sum_cong zero f g h = refl
sum_cong (suc n) f g h = omega (arith, sum_cong n f g (λ j b. h j (omega arith)), h n (omega arith))

-- the two differ at k alone
pub sum_upd : (n k : ℕ) (f g : ℕ → ℕ) → k < n → ((j : ℕ) → j < n → j ≢ k → f j ≡ g j) → sum n f + g k ≡ sum n g + f k
sum_upd zero k f g b h = omega arith
sum_upd (suc n) k f g b h = elim (ℕ_discrete k n) [
  | yes e ↦ omega (arith, ap f e, ap g e, sum_cong n f g (λ j c. h j (omega arith) (omega arith)))
  | no e ↦ omega (arith, sum_upd n k f g (omega arith) (λ j c d. h j (omega arith) d), h n (omega arith) (omega arith))
]

pub sum_ge : (n k : ℕ) (f : ℕ → ℕ) → k < n → f k ≤ sum n f
sum_ge zero k f b = omega arith
sum_ge (suc n) k f b = elim (ℕ_discrete k n) [
  | yes e ↦ omega (arith, ap f e)
  | no e ↦ omega (arith, sum_ge n k f (omega arith))
]

pub sum_pos : (n : ℕ) (f : ℕ → ℕ) → 0 < sum n f → (j : ℕ) × (j < n) × (0 < f j)
sum_pos zero f h = absurd (omega arith)
sum_pos (suc n) f h = elim (ℕ_discrete (f n) 0) [
  | yes e ↦ (let r = sum_pos n f (omega arith) in (r.0, omega (arith, r.1), r.2))
  | no e ↦ (n, omega arith, omega arith)
]

pub sum_le : (n c : ℕ) (f : ℕ → ℕ) → ((j : ℕ) → f j ≤ c) → sum n f ≤ n * c
sum_le zero c f h = omega arith
sum_le (suc n) c f h = omega (arith, sum_le n c f h, h n)

pub sum_add : (n : ℕ) (f g : ℕ → ℕ) → sum n (λ j. f j + g j) ≡ sum n f + sum n g
sum_add zero f g = refl
sum_add (suc n) f g = omega (arith, sum_add n f g)

pub sum_zero : (n : ℕ) (f : ℕ → ℕ) → ((j : ℕ) → j < n → f j ≡ 0) → sum n f ≡ 0
sum_zero zero f h = refl
sum_zero (suc n) f h = omega (arith, sum_zero n f (λ j b. h j (omega arith)), h n (omega arith))

pub sum_one : (n k : ℕ) (f : ℕ → ℕ) → k < n → ((j : ℕ) → j < n → j ≢ k → f j ≡ 0) → sum n f ≡ f k
sum_one n k f b h = omega (arith, sum_upd n k f (λ j. 0) b h, sum_zero n (λ j. 0) (λ j b. refl))

pub sum_mono : (k : ℕ) {f g : ℕ → ℕ} → ((i : ℕ) → f i ≤ g i) → sum k f ≤ sum k g
sum_mono zero h = le_refl 0
sum_mono (suc k) h = let r = sum_mono k h in let s = h k in omega arith

-- f is nowhere below n more than g
sum_upto : (n : ℕ) (f g : ℕ → ℕ) → ((j : ℕ) → j < n → f j ≤ g j) → sum n f ≤ sum n g
sum_upto zero f g h = omega arith
sum_upto (suc n) f g h = omega (arith, sum_upto n f g (λ j b. h j (omega arith)), h n (omega arith))

-- and its sum is no less: the two are the same
pub sum_tight : (n : ℕ) (f g : ℕ → ℕ) → ((j : ℕ) → j < n → f j ≤ g j) → sum n g ≤ sum n f → (j : ℕ) → j < n → f j ≡ g j
sum_tight zero f g h s j b = absurd (omega arith)
sum_tight (suc n) f g h s j b =
    let h' : (j : ℕ) → j < n → f j ≤ g j = λ j b. h j (omega arith) in
    elim (ℕ_discrete j n) [
      | yes e ↦ omega (arith, ap f e, ap g e, h n (omega arith), sum_upto n f g h')
      | no e ↦ sum_tight n f g h' (omega (arith, h n (omega arith))) j (omega arith)
    ]

pub sum_const : (k c : ℕ) → sum k (λ i. c) ≡ k * c
sum_const zero c = omega arith
sum_const (suc k) c = omega (arith, sum_const k c)

-- f 0 + .. + f n
pub sum_first : (n : ℕ) (f : ℕ → ℕ) → sum (suc n) f ≡ f 0 + sum n (λ j. f (suc j))
sum_first zero f = omega arith
sum_first (suc n) f = omega (arith, sum_first n f)

pub count-append : (i : ℕ) (xs ys : List ℕ) → count i (xs ++ ys) ≡ count i xs + count i ys
count-append i [] ys = omega (arith, count_nil i)
count-append i (x ∷ xs) ys = omega (arith, count_cons i x (xs ++ ys), count_cons i x xs, count-append i xs ys)

-- each element once
unfoldable pub Once : List ℕ → Type 0
Once xs = (i : ℕ) → count i xs ≤ 1

-- ---- the numbers a, a + 1, .., a + c - 1

pub count-range_out : (c a i : ℕ) → (i < a) ⊎ (a + c ≤ i) → count i (range c a) ≡ 0
unfolding range
count-range_out zero a i h = count_nil i
count-range_out (suc c) a i (inl h) = omega (arith, count_cons i a (range c (suc a)), δ_other i a (omega arith), count-range_out c (suc a) i (inl (omega arith)))
count-range_out (suc c) a i (inr h) = omega (arith, count_cons i a (range c (suc a)), δ_other i a (omega arith), count-range_out c (suc a) i (inr (omega arith)))

pub count-range_in : (c a i : ℕ) → a ≤ i → i < a + c → count i (range c a) ≡ 1
unfolding range
count-range_in zero a i h b = omega arith
count-range_in (suc c) a i h b = elim (ℕ_discrete i a) [
  | yes e ↦ omega (arith, count_cons i a (range c (suc a)), ap (δ i) (sym e), δ_same i, count-range_out c (suc a) i (inl (omega arith)))
  | no e ↦ omega (arith, count_cons i a (range c (suc a)), δ_other i a e, count-range_in c (suc a) i (omega arith) (omega arith))
]

-- ---- bounded tests

pub all_at : (n : ℕ) (f : ℕ → Bool) → all n f ≡ true → (i : ℕ) → i < n → f i ≡ true
all_at zero f e i b = absurd (omega arith)
all_at (suc n) f e i b =
    let p = both (all n f) (f n) e in
    elim (ℕ_discrete i n) [ yes q ↦ ap f q ∙ p.1 | no q ↦ all_at n f p.0 i (omega arith) ]

pub all_of : (n : ℕ) (f : ℕ → Bool) → ((i : ℕ) → i < n → f i ≡ true) → all n f ≡ true
all_of zero f h = refl
all_of (suc n) f h = rw (all_of n f (λ i b. h i (omega arith)), h n (omega arith))

-- a test counted
pub hit : {b : Bool} → b ≡ true → ◌≡◌ {A = ℕ} (cond b 1 0) 1
hit e = rw e

pub miss : {b : Bool} → b ≡ false → ◌≡◌ {A = ℕ} (cond b 1 0) 0
miss e = rw e

pub hit_le : (b : Bool) → cond b 1 0 ≤ 1
hit_le true = omega arith
hit_le false = omega arith

pub how_many_zero : (n : ℕ) (f : ℕ → Bool) → how_many n f ≡ 0 → (i : ℕ) → i < n → f i ≡ false
how_many_zero n f e i b = elim (decided (f i)) [ inl t ↦ absurd (omega (arith, sum_ge n i (λ j. cond (f j) 1 0) b, hit t)) | inr t ↦ t ]

pub how_many-none : (n : ℕ) (f : ℕ → Bool) → ((i : ℕ) → i < n → f i ≡ false) → how_many n f ≡ 0
how_many-none n f h = sum_zero n (λ j. cond (f j) 1 0) (λ j b. miss (h j b))

pub how_many-some : (n : ℕ) (f : ℕ → Bool) → 0 < how_many n f → (i : ℕ) × (i < n) × (f i ≡ true)
how_many-some n f h =
    let r = sum_pos n (λ j. cond (f j) 1 0) h in
    (r.0, r.1, elim (decided (f r.0)) [ inl t ↦ t | inr t ↦ absurd (omega (arith, r.2, miss t)) ])
