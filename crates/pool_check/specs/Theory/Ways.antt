-- Each definition of Algorithm by its ways out; and what a visit keeps: the length and the words from N on.
use Rattle.std.specs.Prelude.{◌≡◌, refl, ◌≢◌, Bool, true, false, cond, List, eqb, length, get_or, drop, set, None, Some}
use Rattle.std.proofs.Common.{◌∙◌, inl, inr, arith, length-set, drop-set-lt}
use Prim.Native.Nat.{ℕ, zero, suc, ◌+◌, ◌-◌, ◌%◌, ◌^◌, ◌≤◌, ◌<◌, min}
use Rattle.std.proofs.Math.Decide.{ℕ_discrete, dec_lt}
use borrow.Author.Tests.{eq-eqb, ne_eqb}
use Rattle.words.specs.Basics.{plus, all}
use Rattle.words.specs.Tests.{decided, ltb_of, nltb_of}
use Rattle.sizes.specs.Sizes.{height}
use Rattle.frames.specs.declared.Frame.{Frame}
use Rattle.frames.specs.Frames.{frame_at}
use Rattle.soundness.specs.Soundness.{lives}
use Rattle.pool_check.specs.Algorithm.{stamp, stamped, linked, meet, visit, below, root_visited, visit_place, visit_places, node_right, unvisited, chain_from, settle, run_check}
use Rattle.pool_check.specs.Answer.{in_bounds}
use Rattle.pool_check.specs.Reading.{Reading}

-- the length and the words from N on stay
pub record Keeps (N : ℕ) (w w' : List ℕ) : Type 0 where
  pub size : length w' ≡ length w
  pub rest : drop N w' ≡ drop N w

pub keeps_refl : {N : ℕ} {w : List ℕ} → Keeps N w w
keeps_refl = record { size = refl; rest = refl }

pub keeps_trans : {N : ℕ} {w w' w'' : List ℕ} → Keeps N w w' → Keeps N w' w'' → Keeps N w w''
keeps_trans p q = record { size = q.size ∙ p.size; rest = q.rest ∙ p.rest }

pub keeps_set : (N : ℕ) (w : List ℕ) (i v : ℕ) → i < N → Keeps N w (set w i v)
keeps_set N w i v h = record { size = length-set w i v; rest = drop-set-lt N w i v h }

module _ (R : Reading) where
  module _ (N : ℕ) (ws : List ℕ) (k i : ℕ) (w : List ℕ) where
    pub visit_off : (l : ℕ) → N ≤ i → visit R N ws l k i w ≡ (w, false)
    unfolding visit
    visit_off zero h = rw (nltb_of h, visit, meet)
    visit_off (suc l) h = rw (nltb_of h, visit, meet)

    module _ (h : i < N) where
      pub visit_again : (l : ℕ) → get_or w i 0 ≢ 0 → visit R N ws l k i w ≡ (linked w i, eqb (get_or w i 0 % 8192) (stamp l k))
      unfolding visit
      visit_again zero u = rw (ltb_of h, ne_eqb (get_or w i 0) 0 u, visit, meet)
      visit_again (suc l) u = rw (ltb_of h, ne_eqb (get_or w i 0) 0 u, visit, meet)

      module _ (u : get_or w i 0 ≡ 0) where
        pub visit_shapeless : (l : ℕ) → R.shaped ws l i ≡ false → visit R N ws l k i w ≡ (stamped w i (stamp l k), false)
        unfolding visit
        visit_shapeless zero s = rw (ltb_of h, eq-eqb (get_or w i 0) 0 u, s, visit, meet)
        visit_shapeless (suc l) s = rw (ltb_of h, eq-eqb (get_or w i 0) 0 u, s, visit, meet)

        -- the visit goes on below the node
        pub visit-below : (l : ℕ) → R.shaped ws l i ≡ true → visit R N ws l k i w ≡ below R N ws l k i (stamped w i (stamp l k))
        unfolding visit below
        visit-below zero s = rw (ltb_of h, eq-eqb (get_or w i 0) 0 u, s, visit, meet)
        visit-below (suc l) s = rw (ltb_of h, eq-eqb (get_or w i 0) 0 u, s, visit, meet)

  pub below_leaf : (N : ℕ) (ws : List ℕ) (l k i : ℕ) (w : List ℕ) → l ≡ 0 → below R N ws l k i w ≡ (w, true)
  unfolding below
  below_leaf N ws zero k i w e = refl
  below_leaf N ws (suc l) k i w e = absurd (omega arith)

  -- the visit of the left child
  abbrev pub on_left : ℕ → List ℕ → ℕ → ℕ → ℕ → List ℕ → List ℕ × Bool
  on_left N ws l k i w = visit R N ws l (min k (2 ^ l)) (R.left ws i) w

  module _ (N : ℕ) (ws : List ℕ) (l k i : ℕ) (w : List ℕ) where
    pub below_left : (on_left N ws l k i w).1 ≡ false → below R N ws (suc l) k i w ≡ ((on_left N ws l k i w).0, false)
    unfolding below
    below_left t = rw t

    pub below_end : (on_left N ws l k i w).1 ≡ true → k - 2 ^ l ≡ 0 → below R N ws (suc l) k i w ≡ ((on_left N ws l k i w).0, eqb (R.right ws i) R.none)
    unfolding below
    below_end t e = rw (t, eq-eqb (k - 2 ^ l) 0 e)

    pub below_right : (on_left N ws l k i w).1 ≡ true → k - 2 ^ l ≢ 0 → below R N ws (suc l) k i w ≡ visit R N ws l (k - 2 ^ l) (R.right ws i) (on_left N ws l k i w).0
    unfolding below
    below_right t e = rw (t, ne_eqb (k - 2 ^ l) 0 e)

  module _ (n h N : ℕ) (fs : List Frame) (ws : List ℕ) (p : ℕ) (w : List ℕ) where
    pub place-live : lives fs p ≡ true → visit_place R n h N fs ws p w ≡ visit R N ws h n (frame_at fs p).root w
    unfolding visit_place
    place-live e = rw (e, visit_place, root_visited)

    pub place_free_lem : lives fs p ≡ false → visit_place R n h N fs ws p w ≡ (w, true)
    unfolding visit_place
    place_free_lem e = rw (e, visit_place, root_visited)

  module _ (N : ℕ) (ws : List ℕ) (first : ℕ) (w : List ℕ) where
    pub settle_off : all N (node_right R ws w) ≡ false → settle R N ws first w ≡ None
    unfolding settle
    settle_off e = rw e

    pub settle_on : all N (node_right R ws w) ≡ true → settle R N ws first w ≡ cond (chain_from R N ws w (unvisited N w) first) (Some (unvisited N w)) None
    unfolding settle
    settle_on e = rw e

  module _ (n N first : ℕ) (fs : List Frame) (ws w : List ℕ) where
    pub run_out : in_bounds R.layout n N ws w ≡ false → run_check R n N first fs ws w ≡ (w, None)
    unfolding run_check
    run_out e = rw (e, run_check)

    pub run_off : in_bounds R.layout n N ws w ≡ true → (visit_places R n (height n) N fs ws (length fs) w).1 ≡ false → run_check R n N first fs ws w ≡ ((visit_places R n (height n) N fs ws (length fs) w).0, None)
    unfolding run_check
    run_off e t = rw (e, t, run_check)

    pub run_on_lem : in_bounds R.layout n N ws w ≡ true → (visit_places R n (height n) N fs ws (length fs) w).1 ≡ true → run_check R n N first fs ws w ≡ ((visit_places R n (height n) N fs ws (length fs) w).0, settle R N ws first (visit_places R n (height n) N fs ws (length fs) w).0)
    unfolding run_check
    run_on_lem e t = rw (e, t, run_check)

  module _ (N : ℕ) (ws : List ℕ) (l k i : ℕ) (w : List ℕ) where
    -- by whether node i exists, was visited and has the shape
    met_keeps : Keeps N (stamped w i (stamp l k)) (below R N ws l k i (stamped w i (stamp l k))).0 → Keeps N w (visit R N ws l k i w).0
    met_keeps deep = elim (dec_lt i N) [
      | yes h ↦ elim (ℕ_discrete (get_or w i 0) 0) [
        | yes u ↦ (
            let s : Keeps N w (stamped w i (stamp l k)) = keeps_set N w i (stamp l k + 8192) h in
            elim (decided (R.shaped ws l i)) [ inl e ↦ rw (visit-below N ws k i w h u l e) (keeps_trans s deep) | inr e ↦ rw (visit_shapeless N ws k i w h u l e) s ])
        | no u ↦ rw (visit_again N ws k i w h l u) (keeps_set N w i (plus (get_or w i 0) 8192) h)
      ]
      | no h ↦ rw (visit_off N ws k i w l (omega arith)) keeps_refl
    ]

  pub visit_keeps : (N : ℕ) (ws : List ℕ) (l k i : ℕ) (w : List ℕ) → Keeps N w (visit R N ws l k i w).0
  unfolding below
  visit_keeps N ws zero k i w = met_keeps N ws 0 k i w keeps_refl
  visit_keeps N ws (suc l) k i w =
      let w₁ = stamped w i (stamp (suc l) k) in
      let s : Keeps N w₁ (on_left N ws l k i w₁).0 = visit_keeps N ws l (min k (2 ^ l)) (R.left ws i) w₁ in
      met_keeps N ws (suc l) k i w (elim (decided (on_left N ws l k i w₁).1) [
        | inl t ↦ elim (ℕ_discrete (k - 2 ^ l) 0) [
          | yes e ↦ rw (below_end N ws l k i w₁ t e) s
          | no e ↦ rw (below_right N ws l k i w₁ t e) (keeps_trans s (visit_keeps N ws l (k - 2 ^ l) (R.right ws i) (on_left N ws l k i w₁).0))
        ]
        | inr t ↦ rw (below_left N ws l k i w₁ t) s
      ])
