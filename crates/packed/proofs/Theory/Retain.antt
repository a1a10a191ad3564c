-- Retain in both layouts: the reference count of one node grows by one.
use Rattle.std.specs.Prelude.{◌≡◌, ◌≢◌, List, ℕ, ◌+◌, ◌*◌, ◌≤◌, ◌<◌, ◌^◌, length}
use Rattle.std.proofs.Common.{arith, mod-eq_of_lt, eq-eqb, ne_eqb}
use Rattle.std.proofs.Math.Decide.{ℕ_discrete}
use Rattle.words.specs.Basics.{none, plus, count}
use Rattle.pool.specs.Pool as Four
use Rattle.pool.specs.Theory.Invariant.{used_out, refcount_le}
use Rattle.pool.specs.Theory.Operations.{Live}
use Rattle.pool.specs.Theory.Retain as FourRetain
use Rattle.packed.specs.Pool.{refcount, set_refcount, retain}
use Rattle.packed.proofs.Theory.Unpacks.{Unpacks, unpacks_refcount}

pub retain-none : (ws : List ℕ) (i : ℕ) → i ≡ none → retain ws i ≡ ws
unfolding retain
retain-none ws i e = rw (eq-eqb i none e)

pub retain-some : (ws : List ℕ) (i : ℕ) → i ≢ none → retain ws i ≡ set_refcount ws i (plus (refcount ws i) 1)
unfolding retain
retain-some ws i o = rw (ne_eqb i none o)

-- a node in use, or none
pub unpacks_retain_by : {N : ℕ} {tail ws₂ ws₄ : List ℕ} → Unpacks N tail ws₂ ws₄ → (i : ℕ) → (i ≢ none → (i < N) × (0 < Four.refcount ws₄ i) × (Four.refcount ws₄ i + 1 < 2 ^ 32))
    → Unpacks N tail (retain ws₂ i) (Four.retain ws₄ i)
unpacks_retain_by {N} {tail} {ws₂} {ws₄} U i h = elim (ℕ_discrete i none) [
  | yes e ↦ rw (retain-none ws₂ i e, FourRetain.retain-none ws₄ i e) U
  | no o ↦ (let q = h o in
      let s : plus (Four.refcount ws₄ i) 1 ≡ Four.refcount ws₄ i + 1 = mod-eq_of_lt q.2 in
      rw (retain-some ws₂ i o, FourRetain.retain-some ws₄ i o, U.counts i q.0) (unpacks_refcount U i q.0 (plus (Four.refcount ws₄ i) 1) q.1 (omega arith)))
]

-- one more outside link to a live root
pub unpacks_retain : (N H n : ℕ) → N ≤ 16384 → {level size : ℕ → ℕ} {tail ws₂ ws₄ : List ℕ} {free : ℕ} {fs E : List ℕ} → Live N H n level size ws₄ free fs E → Unpacks N tail ws₂ ws₄
    → length E + N * 2 + 4 < 2 ^ 32 → (i : ℕ) → 0 < count i E → Unpacks N tail (retain ws₂ i) (Four.retain ws₄ i)
unpacks_retain N H n most L U few i p = unpacks_retain_by U i (λ _.
    let b = (L.roots i p).inside in
    (b, used_out L.inv i b (omega arith) p, omega (arith, refcount_le L.inv i b)))
