-- The check by halves is the check by links: the half for none is no node's number.
use Rattle.std.specs.Prelude.{◌≡◌, refl, Bool, true, false, cond, ◌&&◌, List, eqb, ltb, leb, length, get_or, Some, None}
use Rattle.std.proofs.Common.{sym, ap, ◌∙◌, inl, inr, arith, leb-true, eq-eqb, ne_eqb}
use Prim.Native.Nat.{ℕ, zero, suc, ◌-◌, ◌^◌, ◌≤◌, min}
use Rattle.std.proofs.Math.Decide.{ℕ_discrete, dec_lt}
use Rattle.words.specs.Basics.{none, all}
use Rattle.words.specs.Tests.{decided, both}
use Rattle.sizes.specs.Sizes.{height}
use Rattle.packed.specs.Pool.{left, right, link_in, next_free}
use Rattle.frames.specs.declared.Frame.{Frame}
use Rattle.frames.specs.Frames.{frame_at}
use Rattle.soundness.specs.Layout.{two_words}
use Rattle.soundness.specs.Soundness.{lives, cleared}
use Rattle.pool_check.specs.Answer.{in_bounds}
use Rattle.pool_check.specs.Reading.{Reading}
use Rattle.pool_check.specs.Algorithm.{stamp, stamped, and_then, visit, below, visit_place, visit_places, unvisited, chain_from, node_right, settle, run_check, Answers}
use Rattle.pool_check.specs.Theory.Ways.{on_left, visit_off, visit_again, visit-below, below_left, below_end, below_right, place-live, place_free_lem, run_out, run_off, run_on_lem}
use Rattle.packed_check.specs.TwoWords.{vacant, two, halves, left_half, right_half}
use Rattle.packed_check.specs.Theory.Correct.{check-answer}

-- a half of a word leads where its link does: that for none is no node's number
pub visit-half : (R : Reading) (N : ℕ) (ws : List ℕ) (l k a : ℕ) (w : List ℕ) → N ≤ 65535 → visit R N ws l k (link_in a) w ≡ visit R N ws l k a w
visit-half R N ws l k a w few = elim (ℕ_discrete a 65535) [
  | yes e ↦ rw (eq-eqb a 65535 e) (visit_off R N ws k none w l (omega arith) ∙ sym (visit_off R N ws k a w l (omega arith)))
  | no e ↦ rw (ne_eqb a 65535 e)
]

-- and is that for none if and only if its link is none
half-none : (ws : List ℕ) (i : ℕ) → eqb (right ws i) none ≡ eqb (right_half ws i) 65535
unfolding right
half-none ws i = elim (ℕ_discrete (right_half ws i) 65535) [
  | yes e ↦ rw (eq-eqb (right_half ws i) 65535 e)
  | no e ↦ rw (ne_eqb (right_half ws i) 65535 e) (ne_eqb (right_half ws i) none (omega arith))
]

module _ (N : ℕ) (ws : List ℕ) (few : N ≤ 65535) where
  -- the visits of this level agree, and what they do below a node
  abbrev Visits : ℕ → Type 0
  Visits l = (k i : ℕ) (w : List ℕ) → visit two N ws l k i w ≡ visit halves N ws l k i w

  abbrev Belows : ℕ → Type 0
  Belows l = (k i : ℕ) (w : List ℕ) → below two N ws l k i w ≡ below halves N ws l k i w

  visits_of : (l : ℕ) → Belows l → Visits l
  visits_of l deep k i w = elim (dec_lt i N) [
    | yes h ↦ elim (ℕ_discrete (get_or w i 0) 0) [
      | yes u ↦ visit-below two N ws k i w h u l refl ∙ deep k i (stamped w i (stamp l k)) ∙ sym (visit-below halves N ws k i w h u l refl)
      | no u ↦ visit_again two N ws k i w h l u ∙ sym (visit_again halves N ws k i w h l u)
    ]
    | no h ↦ visit_off two N ws k i w l (omega arith) ∙ sym (visit_off halves N ws k i w l (omega arith))
  ]

  belows_of : (l : ℕ) → Visits l → Belows (suc l)
  unfolding left right
  belows_of l deep k i w = elim (decided (on_left two N ws l k i w).1) [
    | inl t ↦ elim (ℕ_discrete (k - 2 ^ l) 0) [
      | yes e ↦
          below_end two N ws l k i w t e ∙ ap (λ p. (p.0, eqb (right ws i) none)) same ∙ ap (λ b. ((on_left halves N ws l k i w).0, b)) (half-none ws i)
          ∙ sym (below_end halves N ws l k i w (sym (ap (λ p. p.1) same) ∙ t) e)
      | no e ↦
          below_right two N ws l k i w t e ∙ on_right (k - 2 ^ l) (on_left two N ws l k i w).0 ∙ ap (λ p. visit halves N ws l (k - 2 ^ l) (right_half ws i) p.0) same
          ∙ sym (below_right halves N ws l k i w (sym (ap (λ p. p.1) same) ∙ t) e)
    ]
    | inr t ↦ below_left two N ws l k i w t ∙ ap (λ p. (p.0, false)) same ∙ sym (below_left halves N ws l k i w (sym (ap (λ p. p.1) same) ∙ t))
  ]
    where
      same : on_left two N ws l k i w ≡ on_left halves N ws l k i w
      same = deep (min k (2 ^ l)) (left ws i) w ∙ visit-half halves N ws l (min k (2 ^ l)) (left_half ws i) w few

      on_right : (r : ℕ) (v : List ℕ) → visit two N ws l r (right ws i) v ≡ visit halves N ws l r (right_half ws i) v
      on_right r v = deep r (right ws i) v ∙ visit-half halves N ws l r (right_half ws i) v few

  pub visits : (l : ℕ) → Visits l
  unfolding below
  visits zero = visits_of 0 (λ k i w. refl)
  visits (suc l) = visits_of (suc l) (belows_of l (visits l))

  pub places : (n h : ℕ) (fs : List Frame) (c : ℕ) (w : List ℕ) → visit_places two n h N fs ws c w ≡ visit_places halves n h N fs ws c w
  unfolding visit_places
  places n h fs zero w = refl
  places n h fs (suc c) w = ap (λ p. and_then p (visit_place two n h N fs ws c)) (places n h fs c w) ∙ next (visit_places halves n h N fs ws c w)
    where
      next : (p : List ℕ × Bool) → and_then p (visit_place two n h N fs ws c) ≡ and_then p (visit_place halves n h N fs ws c)
      next (v, true) = elim (decided (lives fs c)) [
        | inl e ↦ place-live two n h N fs ws c v e ∙ visits h n (frame_at fs c).root v ∙ sym (place-live halves n h N fs ws c v e)
        | inr e ↦ place_free_lem two n h N fs ws c v e ∙ sym (place_free_lem halves n h N fs ws c v e)
      ]
      next (v, false) = refl

chain_same : (N : ℕ) (ws w : List ℕ) (c a : ℕ) → chain_from two N ws w c a ≡ chain_from halves N ws w c a
unfolding chain_from
chain_same N ws w zero a = refl
chain_same N ws w (suc c) a = ap (λ b. ltb a N && (vacant w a && b)) (chain_same N ws w c (next_free ws a))

settle_same : (N : ℕ) (ws : List ℕ) (first : ℕ) (w : List ℕ) → settle two N ws first w ≡ settle halves N ws first w
unfolding settle node_right
settle_same N ws first w = ap (λ b. cond (all N (node_right halves ws w) && b) (Some (unvisited N w)) None) (chain_same N ws w (unvisited N w) first)

run_same : (n N first : ℕ) (fs : List Frame) (ws w : List ℕ) → run_check two n N first fs ws w ≡ run_check halves n N first fs ws w
run_same n N first fs ws w = elim (decided (in_bounds two_words n N ws w)) [
  | inl e ↦ (
      let q = both (leb N 16384) _ (both (leb n 256) _ e).1 in
      let few : N ≤ 65535 = omega (arith, leb-true N 16384 q.0) in
      let same = places N ws few n (height n) fs (length fs) w in
      elim (decided (visit_places two n (height n) N fs ws (length fs) w).1) [
        | inl t ↦
            run_on_lem two n N first fs ws w e t ∙ ap (λ p. (p.0, settle two N ws first p.0)) same ∙ ap (λ s. ((visit_places halves n (height n) N fs ws (length fs) w).0, s)) (settle_same N ws first _)
            ∙ sym (run_on_lem halves n N first fs ws w e (sym (ap (λ p. p.1) same) ∙ t))
        | inr t ↦ run_off two n N first fs ws w e t ∙ ap (λ p. (p.0, None)) same ∙ sym (run_off halves n N first fs ws w e (sym (ap (λ p. p.1) same) ∙ t))
      ])
  | inr e ↦ run_out two n N first fs ws w e ∙ sym (run_out halves n N first fs ws w e)
]

-- what the code answers is soundness
pub half-answer : Answers halves
half-answer n N first fs ws w table = ap (λ p. p.1) (sym (run_same n N first fs ws (cleared N w))) ∙ check-answer n N first fs ws w table
