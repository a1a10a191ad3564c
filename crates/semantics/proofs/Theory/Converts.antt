-- R-9: the change-over: its ways out, and what an accepted one leaves.
use Rattle.std.specs.Prelude.{◌≡◌, refl, true, false, List, ℕ, ◌*◌, ◌≤◌, ◌<◌, length, take, drop, leb}
use Rattle.std.proofs.Common.{sym, ap, ◌∙◌, subst, inl, inr, arith, leb-true, leb-false, lt-ltb, le-ltb}
use Rattle.words.specs.Tests.{decided, true≢false}
use Rattle.sizes.specs.Sizes.{height}
use Rattle.packed.specs.Pack.{converted}
use Rattle.packed.proofs.Theory.Unpacks.{Unpacks}
use Rattle.packed.proofs.Theory.Pack.{behind, pack_unpacks, length-converted, converted_remaining, converted_beyond}
use Rattle.soundness.specs.Layout.{four_words, two_words}
use Rattle.soundness.specs.Soundness.{checked, cleared}
use Rattle.semantics.specs.declared.Refusal.{Refusal}
use Rattle.semantics.specs.declared.Refusal.TheVariants.{Work, Lengths}
use Rattle.semantics.specs.Entries.{State, fits, numbers_of, is_sound, chain_free}
use Rattle.semantics.specs.Calls.{StateAndPool}
use Rattle.semantics.specs.Promises.{Fits}
use Rattle.semantics.specs.Matching.{SoundMatch}
use Rattle.semantics.specs.Convert.{ConvertResult, convert_refused, convert_with, convert_on}
use Rattle.semantics.specs.ConvertDemands.{ConvertChecks, RefusedConvert, WorkAfterConvert, AcceptedConvert}
use Rattle.semantics.proofs.Theory.Fitting.{fits_true, true_fits}
use Rattle.semantics.proofs.Theory.Images.{Refuses, unfit, unsound, sound_numbers}
use Rattle.semantics.proofs.Theory.Matching.{live₄, unpacks_match, same_free}

-- ---- the ways out

pub record ConvertTaken (s : State) (ws work : List ℕ) : Type 0 where
  pub parts : Fits s
  pub room : (numbers_of s).nodes ≤ length work
  pub still : is_sound four_words s ws ≡ true
  pub is : convert_on s ws work ≡ record { pool = converted (numbers_of s).nodes ws; work = cleared (numbers_of s).nodes work; result = 0 }

data ConvertCase (s : State) (ws work : List ℕ) : Type 0 where
  by_lengths : fits s ≡ false → convert_on s ws work ≡ convert_refused ws work Lengths → ConvertCase s ws work
  by_work : fits s ≡ true → length work < (numbers_of s).nodes → convert_on s ws work ≡ convert_refused ws work Work → ConvertCase s ws work
  by_soundness : fits s ≡ true → (numbers_of s).nodes ≤ length work → is_sound four_words s ws ≡ false → convert_on s ws work ≡ convert_refused ws (cleared (numbers_of s).nodes work) Refusal.Unsound → ConvertCase s ws work
  taken : ConvertTaken s ws work → ConvertCase s ws work

convert_cases : (s : State) (ws work : List ℕ) → ConvertCase s ws work
unfolding convert_on convert_with checked
convert_cases s ws work = elim (decided (fits s)) [
  | inr f ↦ by_lengths f (rw f refl)
  | inl f ↦ elim (decided (leb (numbers_of s).nodes (length work))) [
    | inr l ↦ by_work f (leb-false (numbers_of s).nodes (length work) l) (rw (f, l) refl)
    | inl l ↦ elim (decided (is_sound four_words s ws)) [
      | inr q ↦ by_soundness f (leb-true (numbers_of s).nodes (length work) l) q (rw (f, l, q) refl)
      | inl q ↦ taken (record { parts = true_fits s f; room = leb-true (numbers_of s).nodes (length work) l; still = q; is = rw (f, l, q) refl })
    ]
  ]
]

abbrev result_of_lem : {a b : ConvertResult} → a ≡ b → a.result ≡ b.result
result_of_lem q = ap (λ (o : ConvertResult). o.result) q

pub convert_taken : (s : State) (ws work : List ℕ) → (convert_on s ws work).result ≡ 0 → ConvertTaken s ws work
convert_taken s ws work e = elim (convert_cases s ws work) [
  | by_lengths f q ↦ absurd (omega (arith, e, result_of_lem q))
  | by_work f l q ↦ absurd (omega (arith, e, result_of_lem q))
  | by_soundness f l u q ↦ absurd (omega (arith, e, result_of_lem q))
  | taken T ↦ T
]

-- what every step refuses is not changed over
pub not_taken : (h : StateAndPool) (work : List ℕ) → ConvertTaken h.state h.pool work → Refuses four_words h → ⊥
not_taken h work T (unfit f) = true≢false (sym (fits_true h.state T.parts) ∙ f)
not_taken h work T (unsound f) = true≢false (sym T.still ∙ f)

pub convert_checks : (s : State) (ws work : List ℕ) → ConvertChecks s ws work
convert_checks s ws work = elim (convert_cases s ws work) [
  | by_lengths f q ↦ rw (q, f) refl
  | by_work f l q ↦ rw (q, f, lt-ltb (length work) (numbers_of s).nodes l) refl
  | by_soundness f l u q ↦ rw (q, f, le-ltb (length work) (numbers_of s).nodes l, u) refl
  | taken T ↦ rw (T.is, fits_true s T.parts, le-ltb (length work) (numbers_of s).nodes T.room, T.still) refl
]

pub refused_convert : (s : State) (ws work : List ℕ) → 0 < (convert_on s ws work).result → RefusedConvert s ws work
refused_convert s ws work h = elim (convert_cases s ws work) [
  | by_lengths f q ↦ ap (λ (o : ConvertResult). o.pool) q
  | by_work f l q ↦ ap (λ (o : ConvertResult). o.pool) q
  | by_soundness f l u q ↦ ap (λ (o : ConvertResult). o.pool) q
  | taken T ↦ absurd (omega (arith, h, result_of_lem T.is))
]

pub work_after_convert : (s : State) (ws work : List ℕ) → WorkAfterConvert s ws work
work_after_convert s ws work = elim (convert_cases s ws work) [
  | by_lengths f q ↦ rw q refl
  | by_work f l q ↦ rw q refl
  | by_soundness f l u q ↦ rw q refl
  | taken T ↦ rw T.is refl
]

-- ---- an accepted one

module _ (s : State) (ws : List ℕ) where
  abbrev N : ℕ
  N = (numbers_of s).nodes

  -- the new pool unpacks to the old one
  pub sound_unpacks : is_sound four_words s ws ≡ true → Unpacks N (behind N ws) (converted N ws) ws
  sound_unpacks e = (let F = sound_numbers four_words s ws e in pack_unpacks N (height (numbers_of s).splitters) (numbers_of s).splitters F.nodes_le (live₄ s ws e) F.room)

  pub accepted_convert : (work : List ℕ) → (convert_on s ws work).result ≡ 0 → AcceptedConvert s ws work
  accepted_convert work e =
      let T = convert_taken s ws work e in
      let U = sound_unpacks T.still in
      let new : (convert_on s ws work).pool ≡ converted N ws = ap (λ (o : ConvertResult). o.pool) T.is in
      record {
        match = subst (λ p. SoundMatch s p ws) (sym new) (unpacks_match s (converted N ws) ws (behind N ws) T.still U);
        same_free = ap (chain_free two_words s) new ∙ same_free s (converted N ws) ws (behind N ws) T.still U;
        same_length = ap length new ∙ length-converted N ws U.room;
        remaining = ap (λ p. take (2 * N) (drop (2 * N) p)) new ∙ converted_remaining N ws;
        beyond = ap (drop (4 * N)) new ∙ converted_beyond N ws;
      }
