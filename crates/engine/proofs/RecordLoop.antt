-- The loop over the records of a tape.
use mathlib.Core.Path.{◌≡◌, sym, ap, subst, ◌∙◌}
use mathlib.Core.List.{List}
use Prim.Native.Nat.{ℕ, suc, ◌+◌, ◌-◌, ◌*◌, ◌/◌, ◌≤◌, ◌<◌}
use native.Mathlib.Omega.{arith}
use lib.ListN.{length, set}
use Rattle.model.specs.Record.{decode_at}
use Rattle.semantics.specs.Answers.{answer_words}
use Rattle.semantics.specs.Core.{Core, StepResult}
use Rattle.semantics.specs.Entries.{RecordsResult, records_result, run_on, record_on, records_from, records_of, put_answer}
use Rattle.semantics.specs.Ranges.{Kept}
use Rattle.semantics.proofs.Theory.Kept.{kept_record}
use Rattle.soundness.specs.Layout.{two_words}
use Rattle.semantics.proofs.Theory.TwoPools.{two_pools}

-- all of them
pub all_records : (r : RecordsResult) (bytes : List ℕ) (n : ℕ) → n ≡ length bytes / 8 → run_on two_words r (2 * 0) (records_from (n - 0) bytes (8 * 0)) ≡ run_on two_words r 0 (records_of bytes)
all_records r bytes n e =
    let z : n - 0 ≡ length bytes / 8 = omega (arith, e) in
    ap (λ (m : ℕ). run_on two_words r 0 (records_from m bytes 0)) z

-- what is left when none is
module _ (tape : List ℕ) (n : ℕ) where
  pub finish : (r : RecordsResult) (i k j : ℕ) → n ≤ i → run_on two_words r k (records_from (n - i) tape j) ≡ r
  unfolding records_from run_on
  finish r i k j l =
      let z : n - i ≡ 0 = omega arith in
      ap (λ (m : ℕ). run_on two_words r k (records_from m tape j)) z

  -- a record, from a sound core: what is left, and that the core is sound again
  module _ (c : Core) (a b : List ℕ) (i : ℕ) (d : StepResult) (l : i < n) (e : d ≡ record_on two_words c (decode_at tape (8 * i)))
      (x : ℕ × ℕ) (ex : x ≡ answer_words d.answer) (eb : b ≡ set (set a (2 * i) x.0) (2 * i + 1) x.1) where
    pub turn_kept : Kept two_words c → Kept two_words d.core
    turn_kept K = subst (λ (q : StepResult). Kept two_words q.core) (sym e) (kept_record two_words two_pools c K (decode_at tape (8 * i)))

    pub turn : run_on two_words (records_result d.core b) (2 * (i + 1)) (records_from (n - (i + 1)) tape (8 * (i + 1))) ≡ run_on two_words (records_result c a) (2 * i) (records_from (n - i) tape (8 * i))
    unfolding records_from run_on
    turn =
        let k = 2 * i in
        let m = n - (i + 1) in
        let em : n - i ≡ suc m = omega arith in
        let e1 : k + 1 ≡ suc k = omega arith in
        let e2 : 2 * (i + 1) ≡ k + 2 = omega arith in
        let e8 : 8 * (i + 1) ≡ 8 * i + 8 = omega arith in
        ap (λ (z : List ℕ). run_on two_words (records_result d.core z) (2 * (i + 1)) (records_from m tape (8 * (i + 1))))
        (eb ∙ ap (λ (j : ℕ). set (set a k x.0) j x.1) e1 ∙ ap (λ (v : ℕ × ℕ). set (set a k v.0) (suc k) v.1) ex)
        ∙ ap (λ (j : ℕ). run_on two_words (records_result d.core (put_answer a k d.answer)) j (records_from m tape (8 * (i + 1)))) e2
        ∙ ap (λ (j : ℕ). run_on two_words (records_result d.core (put_answer a k d.answer)) (k + 2) (records_from m tape j)) e8
        ∙ ap (λ (q : StepResult). run_on two_words (records_result q.core (put_answer a k q.answer)) (k + 2) (records_from m tape (8 * i + 8))) e
        ∙ ap (λ (z : ℕ). run_on two_words (records_result c a) k (records_from z tape (8 * i))) (sym em)
