-- A test and the fact that it decides, both ways at once: the test of a sentence is put together from smaller ones as its fact is.
use Rattle.std.specs.Prelude.{◌≡◌, ◌⊎◌, Bool, true, cond, not, ◌||◌, ◌&&◌, ℕ, suc, ◌-◌, ◌≤◌, ◌<◌, eqb, ltb, leb}
use Rattle.std.proofs.Common.{sym, ap, ◌∙◌, inl, inr, arith, ltb-true, eqb-true, eq-eqb, leb-true, le-leb}
use Rattle.std.proofs.Math.Decide.{dec_lt}
use Rattle.words.specs.Basics.{all, some, implies}
use Rattle.words.specs.Tests.{decided, both, lt_of, ltb_of, not-true, true≢false}
use Rattle.words.specs.Counting.{all_at, all_of}
use Rattle.words.specs.Tallies.{and_of, or_left, or_right, either, implies_at, implies_of, some_at, some_of}

pub record Is (b : Bool) (P : Type 0) : Type 0 where
  pub fact : b ≡ true → P
  pub test : P → b ≡ true

pub is_as : {b : Bool} {P Q : Type 0} → (P → Q) → (Q → P) → Is b P → Is b Q
is_as f g i = record { fact = λ e. f (i.fact e); test = λ q. i.test (g q) }

pub true_is : (b : Bool) → Is b (b ≡ true)
true_is b = record { fact = λ e. e; test = λ e. e }

-- ---- numbers

pub eq_is : (a b : ℕ) → Is (eqb a b) (a ≡ b)
eq_is a b = record { fact = eqb-true a b; test = eq-eqb a b }

pub lt_is : (a b : ℕ) → Is (ltb a b) (a < b)
lt_is a b = record { fact = lt_of; test = ltb_of }

pub le_is : (a b : ℕ) → Is (leb a b) (a ≤ b)
le_is a b = record { fact = leb-true a b; test = le-leb a b }

-- ---- put together

pub and_is : {a b : Bool} {P Q : Type 0} → Is a P → Is b Q → Is (a && b) (P × Q)
and_is {a} {b} i j = record { fact = λ e. let r = both a b e in (i.fact r.0, j.fact r.1); test = λ h. and_of (i.test h.0) (j.test h.1) }

-- three
pub and3_is : {a b c : Bool} {P Q R : Type 0} → Is a P → Is b Q → Is c R → Is (a && (b && c)) (P × Q × R)
and3_is i j k = is_as (λ h. (h.0, h.1.0, h.1.1)) (λ h. (h.0, (h.1, h.2))) (and_is i (and_is j k))

pub or_is : {a b : Bool} {P Q : Type 0} → Is a P → Is b Q → Is (a || b) (P ⊎ Q)
or_is {a} {b} i j = record {
  fact = λ e. elim (either a b e) [ inl t ↦ inl (i.fact t) | inr t ↦ inr (j.fact t) ];
  test = λ h. elim h [ inl p ↦ or_left b (i.test p) | inr q ↦ or_right a (j.test q) ];
}

pub not_is : {a : Bool} {P : Type 0} → Is a P → Is (not a) (P → ⊥)
not_is {a} i = record {
  fact = λ e p. true≢false (sym (i.test p) ∙ not-true a e);
  test = λ h. elim (decided a) [ inl t ↦ absurd (h (i.fact t)) | inr t ↦ ap not t ];
}

pub implies_is : {a b : Bool} {P Q : Type 0} → Is a P → Is b Q → Is (implies a b) (P → Q)
implies_is {a} {b} i j = record { fact = λ e p. j.fact (implies_at a b e (i.test p)); test = λ h. implies_of a (λ t. j.test (h (i.fact t))) }

-- two premises
pub both_imply : {a b c : Bool} {P Q R : Type 0} → Is a P → Is b Q → Is c R → Is (implies (a && b) c) (P → Q → R)
both_imply i j k = is_as (λ h p q. h (p, q)) (λ h p. h p.0 p.1) (implies_is (and_is i j) k)

-- one of two
pub cond_is : {a b c : Bool} {P Q R : Type 0} → Is a P → Is b Q → Is c R → Is (cond a b c) ((P → Q) × ((P → ⊥) → R))
cond_is {a} {b} {c} {P} i j k = elim (decided a) [
  | inl t ↦ rw t (is_as (λ q. ((λ p. q), λ n. absurd (n (i.fact t)))) (λ h. h.0 (i.fact t)) j)
  | inr t ↦ (let n : P → ⊥ = (λ p. true≢false (sym (i.test p) ∙ t)) in rw t (is_as (λ r. ((λ p. absurd (n p)), λ m. r)) (λ h. h.1 n) k))
]

-- from n on
pub from_is : (i n : ℕ) {b : Bool} {P : Type 0} → Is b P → Is (ltb i n || b) (n ≤ i → P)
from_is i n {b} j = record {
  fact = λ e h. elim (either (ltb i n) b e) [ inl t ↦ absurd (omega (arith, ltb-true i n t)) | inr t ↦ j.fact t ];
  test = λ h. elim (dec_lt i n) [ yes l ↦ or_left b (ltb_of l) | no l ↦ or_right (ltb i n) (j.test (h (omega arith))) ];
}

-- ---- every number below n

pub all_is : (n : ℕ) {f : ℕ → Bool} {P : ℕ → Type 0} → ((i : ℕ) → Is (f i) (P i)) → Is (all n f) ((i : ℕ) → i < n → P i)
all_is n {f} h = record { fact = λ e i b. (h i).fact (all_at n f e i b); test = λ g. all_of n f (λ i b. (h i).test (g i b)) }

-- every number whose next is below n
pub all_but_last : (n : ℕ) {f : ℕ → Bool} {P : ℕ → Type 0} → ((i : ℕ) → Is (f i) (P i)) → Is (all (n - 1) f) ((i : ℕ) → suc i < n → P i)
all_but_last n h = is_as (λ g i b. g i (omega arith)) (λ g i b. g i (omega arith)) (all_is (n - 1) h)

-- ---- some number below n

pub some_is : (n : ℕ) {f : ℕ → Bool} {P : ℕ → Type 0} → ((i : ℕ) → Is (f i) (P i)) → Is (some n f) ((i : ℕ) × (i < n) × P i)
some_is n {f} h = record { fact = λ e. let r = some_at n f e in (r.0, r.1, (h r.0).fact r.2); test = λ g. some_of n f g.0 g.1 ((h g.0).test g.2) }
