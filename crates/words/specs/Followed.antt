-- A chain that is followed to its end: no element is on it twice, and where it is as long as there are free places each of them is on it.
use Rattle.std.specs.Prelude.{◌≡◌, ℕ, zero, suc, ◌<◌, ◌≤◌, Bool, true, ◌&&◌, ◌≢◌, List, ◌∷◌, length, ◌==◌, nat_lt, refl}
use Rattle.std.proofs.Common.{sym, ap, ◌∙◌, arith, eqb-true, eq-eqb}
use Rattle.std.proofs.Math.Decide.{ℕ_discrete}
use Rattle.words.specs.Basics.{none, sum, count, follow, below}
use Rattle.words.specs.Counting.{δ_same, δ_other, count_nil, count_cons, sum_tight}
use Rattle.words.specs.Tests.{both, lt_of, ltb_of}
use Rattle.words.specs.Loops.{follow-none, follow-step, count-sum}

-- xs is a list of c numbers below N for which the test holds, each there once
pub record Listed (N : ℕ) (test : ℕ → Bool) (c : ℕ) (xs : List ℕ) : Type 0 where
  pub within : below N xs ≡ true
  pub size : length xs ≡ c
  pub passes : (x : ℕ) → x < N → 0 < count x xs → test x ≡ true
  pub once : (x : ℕ) → x < N → count x xs ≤ 1

-- as many different ones as there is room for: each of them
pub listed_all : (N : ℕ) (test : ℕ → Bool) (c : ℕ) (xs : List ℕ) (room : ℕ → ℕ) → ((x : ℕ) → test x ≡ true → room x ≡ 1) → sum N room ≤ c → Listed N test c xs → (x : ℕ) → x < N → count x xs ≡ room x
listed_all N test c xs room free most v = sum_tight N (λ i. count i xs) room upto (omega (arith, most, count-sum N xs v.within, v.size))
  where
    upto : (x : ℕ) → x < N → count x xs ≤ room x
    upto x b = elim (ℕ_discrete (count x xs) 0) [ yes e ↦ omega arith | no e ↦ omega (arith, v.once x b, free x (v.passes x b (omega arith))) ]

-- a test `ends` that follows the chain: from a on it has just c elements, and for each the test holds
module _ (N : ℕ) (next : ℕ → ℕ) (test : ℕ → Bool) (ends : ℕ → ℕ → Bool) (few : N ≤ none)
    (at_end : (a : ℕ) → ends zero a ≡ (a == none)) (goes_on : (c a : ℕ) → ends (suc c) a ≡ nat_lt a N && (test a && ends c (next a))) where
  abbrev chain : ℕ → ℕ → List ℕ
  chain f a = follow f next a

  -- the first element, and the rest
  first_of : (c a : ℕ) → ends (suc c) a ≡ true → (a < N) × (test a ≡ true) × (ends c (next a) ≡ true)
  first_of c a t =
      let p = both (nat_lt a N) _ (sym (goes_on c a) ∙ t) in
      let q = both (test a) _ p.1 in
      (lt_of p.0, q.0, q.1)

  end_of : (a : ℕ) → ends zero a ≡ true → a ≡ none
  end_of a t = eqb-true a none (sym (at_end a) ∙ t)

  not_end : (c a : ℕ) → ends (suc c) a ≡ true → a ≢ none
  not_end c a t e = omega (arith, few, (first_of c a t).0)

  -- a chain ends after one number of steps only
  one_length : (c d a : ℕ) → ends c a ≡ true → ends d a ≡ true → c ≡ d
  one_length zero zero a s t = refl
  one_length zero (suc d) a s t = absurd (not_end d a t (end_of a s))
  one_length (suc c) zero a s t = absurd (not_end c a s (end_of a t))
  one_length (suc c) (suc d) a s t = ap suc (one_length c d (next a) (first_of c a s).2 (first_of d a t).2)

  -- the chain goes on from each of its elements
  from_there : (c f a x : ℕ) → c ≤ f → ends c a ≡ true → 0 < count x (chain (suc f) a) → (d : ℕ) × (d ≤ c) × (ends d x ≡ true)
  from_there zero f a x h t o = absurd (omega (arith, ap (count x) (follow-none (suc f) next a (end_of a t)), count_nil x))
  from_there (suc c) zero a x h t o = absurd (omega arith)
  from_there (suc c) (suc f) a x h t o = elim (ℕ_discrete x a) [
    | yes e ↦ (suc c, omega arith, rw e t)
    | no e ↦ (
        let r = from_there c f (next a) x (omega arith) (first_of c a t).2 (omega (arith, ap (count x) (follow-step (suc f) next a (not_end c a t)), count_cons x a (chain (suc f) (next a)), δ_other x a e)) in
        (r.0, omega (arith, r.1), r.2))
  ]

  -- so no element is there twice
  not_again : (c f a : ℕ) → c ≤ f → ends (suc c) a ≡ true → count a (chain (suc f) (next a)) ≡ 0
  not_again c f a h t = elim (ℕ_discrete (count a (chain (suc f) (next a))) 0) [
    | yes e ↦ e
    | no e ↦ (
        let r = from_there c f (next a) a h (first_of c a t).2 (omega arith) in
        absurd (omega (arith, r.1, one_length (suc c) r.0 a t r.2)))
  ]

  pub chain_listed : (c f a : ℕ) → c ≤ f → ends c a ≡ true → Listed N test c (chain (suc f) a)
  chain_listed zero f a h t =
      rw (follow-none (suc f) next a (end_of a t))
      (record { within = refl; size = refl; passes = λ x _ o. absurd (omega (arith, count_nil x)); once = λ x _. omega (arith, count_nil x) })
  chain_listed (suc c) zero a h t = absurd (omega arith)
  chain_listed (suc c) (suc f) a h t =
      let p = first_of c a t in
      let b : a < N = p.0 in
      let xs = chain (suc f) (next a) in
      let I = chain_listed c f (next a) (omega arith) p.2 in
      rw (follow-step (suc f) next a (not_end c a t))
      (record {
        within = rw (ltb_of b) I.within;
        size = ap suc I.size;
        passes = λ x bx o. elim (ℕ_discrete x a) [ yes e ↦ rw e p.1 | no e ↦ I.passes x bx (omega (arith, count_cons x a xs, δ_other x a e)) ];
        once = λ x bx. elim (ℕ_discrete x a) [
          | yes e ↦ rw e (omega (arith, count_cons a a xs, δ_same a, not_again c f a (omega arith) t))
          | no e ↦ omega (arith, count_cons x a xs, δ_other x a e, I.once x bx)
        ];
      })

  -- such a list without its first
  rest_of : (c a : ℕ) (xs : List ℕ) → Listed N test (suc c) (a ∷ xs) → (nat_lt a N ≡ true) × (test a ≡ true) × Listed N test c xs
  rest_of c a xs v =
      let p = both (nat_lt a N) (below N xs) v.within in (
        p.0,
        v.passes a (lt_of p.0) (omega (arith, count_cons a a xs, δ_same a)),
        record {
          within = p.1;
          size = omega (arith, v.size);
          passes = λ x bx o. v.passes x bx (omega (arith, count_cons x a xs));
          once = λ x bx. omega (arith, v.once x bx, count_cons x a xs);
        },
      )

  pub listed_chain : (c f a : ℕ) → c ≤ f → Listed N test c (chain (suc f) a) → ends c a ≡ true
  listed_chain zero f a h v = elim (ℕ_discrete a none) [
    | yes e ↦ at_end a ∙ eq-eqb a none e
    | no e ↦ absurd (omega (arith, v.size, ap length (follow-step f next a e)))
  ]
  listed_chain (suc c) zero a h v = absurd (omega arith)
  listed_chain (suc c) (suc f) a h v = elim (ℕ_discrete a none) [
    | yes e ↦ absurd (omega (arith, v.size, ap length (follow-none (suc (suc f)) next a e)))
    | no e ↦ (
        let r = rest_of c a (chain (suc f) (next a)) (rw (follow-step (suc f) next a e) at v) in
        goes_on c a ∙ rw (r.0, r.1) (listed_chain c f (next a) (omega arith) r.2))
  ]
