-- Laws over plain variables that the functions' proofs cite.
use Rattle.std.specs.Prelude.{Err, Ok}
use mathlib.Core.Path.{◌≡◌, refl, sym, ap, ◌∙◌}
use mathlib.Core.Logic.{inl, inr}
use mathlib.Core.Bool.{Bool, true, false, not, ◌||◌, ◌&&◌}
use Prim.Native.Nat.{ℕ, zero, suc, ◌≤◌, ◌<◌}
use native.Mathlib.Omega.{arith}
use native.Mathlib.Decide.{ℕ_discrete}
use lib.Dec.{eqb, ltb}
use borrow.Author.Tests.{eq-eqb, ne_eqb, lt-ltb}
use Rattle.words.specs.Basics.{all}
use Rattle.words.specs.Tests.{decided, true≢false, neither, not-false, lt_of, ge_of}
use Rattle.words.specs.Counting.{all_at}
use Rattle.frames.specs.Widths.{max_workers}
use Rattle.frames.specs.Deques.{size}
use Rattle.semantics.specs.Ranges.{Ready}
use Rattle.semantics.specs.declared.Refusal.TheVariants.{MainReturned, WorkerIdle, ThiefBusy, NoVictim}
use Rattle.semantics.specs.Core.{Core, acting_tests, steal_tests}
use Rattle.engine.specs.Promises.{tested}

-- ---- all idle

and-true : (b : Bool) → b ≡ b && true
and-true true = refl
and-true false = refl

-- of the numbers from n on f holds
pub all_from : (f : ℕ → Bool) (n m : ℕ) → n ≤ m → ((w : ℕ) → w < m → n ≤ w → f w ≡ true) → all m f ≡ all n f
all_from f n zero h a = let z : 0 ≡ n = omega arith in ap (λ (k : ℕ). all k f) z
all_from f n (suc m) h a = elim (ℕ_discrete n (suc m)) [
  | yes e ↦ ap (λ (k : ℕ). all k f) (sym e)
  | no e ↦ ap (λ b. all m f && b) (a m (omega arith) (omega (arith, e))) ∙ sym (and-true (all m f)) ∙ all_from f n m (omega (arith, e)) (λ w b l. a w (omega arith) l)
]

-- some number below n, of which f does not hold
pub all_not : (n : ℕ) (f : ℕ → Bool) (i : ℕ) → i < n → f i ≡ false → all n f ≡ false
all_not n f i b e = elim (decided (all n f)) [ inl t ↦ absurd (true≢false (sym (all_at n f t i b) ∙ e)) | inr t ↦ t ]

-- ---- the tests' ways out

module _ (c : Core) where
  abbrev idles : Bool
  idles = all c.head.numbers.workers (λ w. eqb (size c.deques w) 0)

  -- those that do not exist are idle too
  idles_is : Ready c → all max_workers (λ w. eqb (size c.deques w) 0) ≡ idles
  idles_is R = all_from (λ w. eqb (size c.deques w) 0) c.head.numbers.workers max_workers R.workers_le (λ w b l. eq-eqb (size c.deques w) 0 (R.absent w b l))

  -- the code's answer, for all eight workers
  pub idles_by : {a b : Bool} → Ready c → a ≡ all max_workers (λ w. eqb (size c.deques w) 0) → a ≡ b → idles ≡ b
  idles_by R e f = sym (idles_is R) ∙ sym e ∙ f

  -- a worker that is not idle
  busy : (w n : ℕ) → w < c.head.numbers.workers → n ≡ size c.deques w → (n ≡ 0 → ⊥) → idles ≡ false
  busy w n l e z = all_not c.head.numbers.workers (λ v. eqb (size c.deques v) 0) w l (ne_eqb (size c.deques w) 0 (λ q. z (e ∙ q)))

  module _ (w : ℕ) where
    pub acting_idle : (n : ℕ) → w < c.head.numbers.workers → n ≡ size c.deques w → n ≡ 0 → idles ≡ false → tested (acting_tests c w) ≡ Err WorkerIdle
    acting_idle n l e z a = rw (lt-ltb w c.head.numbers.workers l, a, eq-eqb (size c.deques w) 0 (sym e ∙ z))

    module _ (v : ℕ) where
      module _ (l : w < c.head.numbers.workers) (n : ℕ) (e : n ≡ size c.deques w) where
        pub steal_busy : (n ≡ 0 → ⊥) → Err ThiefBusy ≡ tested (steal_tests c w v)
        steal_busy z = rw (lt-ltb w c.head.numbers.workers l, busy w n l e z, ne_eqb (size c.deques w) 0 (λ q. z (e ∙ q)))

        module _ (z : n ≡ 0) (b : Bool) (eb : b ≡ (not (ltb v c.head.numbers.workers) || ltb (size c.deques v) 2)) where
          pub steal_passes : b ≡ false → Ok tt ≡ tested (steal_tests c w v)
          steal_passes f =
              let q = neither (not (ltb v c.head.numbers.workers)) (ltb (size c.deques v) 2) (sym eb ∙ f) in
              let lv : v < c.head.numbers.workers = lt_of (not-false (ltb v c.head.numbers.workers) q.0) in
              let two : 2 ≤ size c.deques v = ge_of q.1 in
              rw (lt-ltb w c.head.numbers.workers l, busy v (size c.deques v) lv refl (λ o. omega arith), eq-eqb (size c.deques w) 0 (sym e ∙ z), lt-ltb v c.head.numbers.workers lv, q.1)

          pub steal_main_returned : idles ≡ true → Err MainReturned ≡ tested (steal_tests c w v)
          steal_main_returned a = rw (lt-ltb w c.head.numbers.workers l, a)

          pub steal_no_victim : b ≡ true → idles ≡ false → Err NoVictim ≡ tested (steal_tests c w v)
          steal_no_victim t a = rw (lt-ltb w c.head.numbers.workers l, a, eq-eqb (size c.deques w) 0 (sym e ∙ z), ← eb, t)
