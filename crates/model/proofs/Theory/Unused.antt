-- The unused fields of a record, tested before its kind.
use Rattle.std.specs.Prelude.{◌≡◌, Bool, true, false, cond, not, ◌&&◌, ◌≢◌, ℕ, eqb, None, Some}
use Rattle.std.proofs.Math.Path.{refl}
use Rattle.std.proofs.Common.{sym, ◌∙◌}
use Rattle.std.proofs.Math.Decide.{ℕ_discrete}
use borrow.Author.Tests.{ne_eqb}
use Rattle.words.specs.Tests.{true≢false}
use Rattle.model.specs.declared.Step.{Step}
use Rattle.model.specs.declared.Step.TheVariants.{Spawn, Return, Steal, Sync, Read, Write, Fold}
use Rattle.model.specs.Record.{unused_set, valid_if, record_of}

-- ---- one field or two, as tests

both_bad : (a b : Bool) (s : Step) → cond (not b) true (cond a false true) ≡ true → None ≡ valid_if (a && b) s
both_bad true true s e = absurd (true≢false (sym e))
both_bad true false s e = refl
both_bad false b s e = refl

both_good : (a b : Bool) (s : Step) → cond (not b) true (cond a false true) ≡ false → Some s ≡ valid_if (a && b) s
both_good true true s e = refl
both_good true false s e = absurd (true≢false e)
both_good false true s e = absurd (true≢false e)
both_good false false s e = absurd (true≢false e)

one_bad : (a b : Bool) (s : Step) → cond (not b) true (cond a false false) ≡ true → None ≡ valid_if b s
one_bad true true s e = absurd (true≢false (sym e))
one_bad false true s e = absurd (true≢false (sym e))
one_bad a false s e = refl

one_good : (a b : Bool) (s : Step) → cond (not b) true (cond a false false) ≡ false → Some s ≡ valid_if b s
one_good a true s e = refl
one_good a false s e = absurd (true≢false e)

neither : (a b : Bool) → cond (not b) false (cond a false false) ≡ false
neither true true = refl
neither false true = refl
neither a false = refl

not_bad : (b : Bool) (s : Step) → not b ≡ true → None ≡ valid_if b s
not_bad true s e = absurd (true≢false (sym e))
not_bad false s e = refl

not_good : (b : Bool) (s : Step) → not b ≡ false → Some s ≡ valid_if b s
not_good true s e = refl
not_good false s e = absurd (true≢false e)

-- ---- the kinds

module _ (w f v : ℕ) where
  pub spawn_used : unused_set 1 f v ≡ false → Some (Spawn w) ≡ record_of 1 w f v
  unfolding record_of unused_set
  spawn_used e = both_good (eqb f 0) (eqb v 0) (Spawn w) e

  pub return_used : unused_set 2 f v ≡ false → Some (Return w) ≡ record_of 2 w f v
  unfolding record_of unused_set
  return_used e = both_good (eqb f 0) (eqb v 0) (Return w) e

  pub steal_used : unused_set 3 f v ≡ false → Some (Steal w f) ≡ record_of 3 w f v
  unfolding record_of unused_set
  steal_used e = one_good (eqb f 0) (eqb v 0) (Steal w f) e

  pub sync_used : unused_set 4 f v ≡ false → Some (Sync w) ≡ record_of 4 w f v
  unfolding record_of unused_set
  sync_used e = both_good (eqb f 0) (eqb v 0) (Sync w) e

  pub read_used : unused_set 5 f v ≡ false → Some (Read w f) ≡ record_of 5 w f v
  unfolding record_of unused_set
  read_used e = not_good (eqb v 0) (Read w f) e

  pub write_used : Some (Write w f v) ≡ record_of 6 w f v
  unfolding record_of
  write_used = refl

  pub fold_used : Some (Fold w f v) ≡ record_of 7 w f v
  unfolding record_of
  fold_used = refl

  pub no_kind : (k : ℕ) → k ≢ 1 → k ≢ 2 → k ≢ 3 → k ≢ 4 → k ≢ 5 → k ≢ 6 → k ≢ 7 → None ≡ record_of k w f v
  unfolding record_of
  no_kind k h1 h2 h3 h4 h5 h6 h7 = rw (ne_eqb k 1 h1, ne_eqb k 2 h2, ne_eqb k 3 h3, ne_eqb k 4 h4, ne_eqb k 5 h5, ne_eqb k 6 h6, ne_eqb k 7 h7)

  known : (k : ℕ) → unused_set k f v ≡ true → (k ≡ 1 → None ≡ record_of 1 w f v) × (k ≡ 2 → None ≡ record_of 2 w f v) × (k ≡ 3 → None ≡ record_of 3 w f v)
      × (k ≡ 4 → None ≡ record_of 4 w f v) × (k ≡ 5 → None ≡ record_of 5 w f v) × (k ≡ 6 → None ≡ record_of 6 w f v) × (k ≡ 7 → None ≡ record_of 7 w f v)
  unfolding record_of unused_set
  known k e = (
    λ h. both_bad (eqb f 0) (eqb v 0) (Spawn w) (rw h at e),
    λ h. both_bad (eqb f 0) (eqb v 0) (Return w) (rw h at e),
    λ h. one_bad (eqb f 0) (eqb v 0) (Steal w f) (rw h at e),
    λ h. both_bad (eqb f 0) (eqb v 0) (Sync w) (rw h at e),
    λ h. not_bad (eqb v 0) (Read w f) (rw h at e),
    λ h. absurd (true≢false (sym (rw h at e))),
    λ h. absurd (true≢false (sym (rw h at e) ∙ neither (eqb f 0) (eqb v 0))),
  )

  pub unused_invalid : (k : ℕ) → unused_set k f v ≡ true → None ≡ record_of k w f v
  unused_invalid k e =
      let q = known k e in
      elim (ℕ_discrete k 1) [
        | yes h ↦ rw h (q.0 h)
        | no h1 ↦ elim (ℕ_discrete k 2) [
          | yes h ↦ rw h (q.1 h)
          | no h2 ↦ elim (ℕ_discrete k 3) [
            | yes h ↦ rw h (q.2 h)
            | no h3 ↦ elim (ℕ_discrete k 4) [
              | yes h ↦ rw h (q.3 h)
              | no h4 ↦ elim (ℕ_discrete k 5) [
                | yes h ↦ rw h (q.4 h)
                | no h5 ↦ elim (ℕ_discrete k 6) [
                  | yes h ↦ rw h (q.5 h)
                  | no h6 ↦ elim (ℕ_discrete k 7) [ yes h ↦ rw h (q.6 h) | no h7 ↦ no_kind k h1 h2 h3 h4 h5 h6 h7 ]
                ]
              ]
            ]
          ]
        ]
      ]
