-- A turn and the end of the loop over a deque.
use Rattle.std.specs.Prelude.{◌≡◌, List, ℕ, zero, suc, ◌+◌, ◌-◌, ◌*◌, ◌≤◌, ◌<◌, length}
use Rattle.std.specs.List.{swap}
use Rattle.std.proofs.Common.{sym, ap, ◌∙◌, arith, set-set}
use Rattle.std.proofs.lemmas.List.Edits.{swap_is}
use Rattle.frames.specs.Widths.{max_workers, deque_places, deque_stride, deque_words}
use Rattle.frames.specs.Deques.{size, place, set_place, shift_up, pop, drop_top}
use Rattle.frames.proofs.Theory.Cells.{place-set_place_other, size-set_place, shift_suc}

-- the first of the places that move up, or the last frame's, is stored to: what it held does not matter
shift_first : (c : ℕ) (ds : List ℕ) (w k v : ℕ) → k < deque_places → set_place (shift_up c (set_place ds w k v) w k) w (k + c) 0 ≡ set_place (shift_up c ds w k) w (k + c) 0
unfolding shift_up set_place
shift_first zero ds w k v h = let e : k + 0 ≡ k = omega arith in rw e (set-set ds (deque_stride * w + (1 + k)) v 0)
shift_first (suc c) ds w k v h =
    let again : set_place (set_place ds w k v) w k (place (set_place ds w k v) w (suc k)) ≡ set_place ds w k (place ds w (suc k)) =
    rw (place-set_place_other ds w k v (suc k) (omega arith)) (set-set ds (deque_stride * w + (1 + k)) v (place ds w (suc k))) in
    ap (λ (es : List ℕ). set_place es w (k + suc c) 0) (shift_suc c (set_place ds w k v) w k h ∙ ap (λ (es : List ℕ). shift_up c es w (suc k)) again ∙ sym (shift_suc c ds w k h))

-- the frame at word k, the top one, and the one below it have changed places
module _ (ds es : List ℕ) (w n k : ℕ) (l : length ds ≡ deque_words) (lw : w < max_workers) (a : 1 ≤ k) (b : k < n) (f : n ≤ deque_places)
    (e : es ≡ swap ds (deque_stride * w + k) (deque_stride * w + (k + 1))) where
  swapped : es ≡ set_place (set_place ds w (k - 1) (place ds w k)) w k (place ds w (k - 1))
  unfolding place set_place
  swapped =
      let i : deque_stride * w + (1 + (k - 1)) ≡ deque_stride * w + k = omega arith in
      let j : deque_stride * w + (1 + k) ≡ deque_stride * w + (k + 1) = omega arith in
      e ∙ rw (i, j) (sym (swap_is ds (deque_stride * w + k) (deque_stride * w + (k + 1)) 0 (omega arith) (omega arith)))

  pub sink_size : size es w ≡ size ds w
  sink_size =
      ap (λ (ws : List ℕ). size ws w) swapped ∙ size-set_place (set_place ds w (k - 1) (place ds w k)) w k (place ds w (k - 1)) w (omega arith)
      ∙ size-set_place ds w (k - 1) (place ds w k) w (omega arith)

  pub sink_turn : set_place (shift_up (n - (k + 1)) es w (k + 1 - 1)) w (n - 1) 0 ≡ set_place (shift_up (n - k) ds w (k - 1)) w (n - 1) 0
  sink_turn =
      let c : ℕ = n - (k + 1) in
      let p : k + 1 - 1 ≡ k = omega arith in
      let q : n - k ≡ suc c = omega arith in
      let s : suc (k - 1) ≡ k = omega arith in
      let m : n - 1 ≡ k + c = omega arith in
      let up : List ℕ = set_place ds w (k - 1) (place ds w k) in
      let first : set_place (shift_up c (set_place up w k (place ds w (k - 1))) w k) w (k + c) 0 ≡ set_place (shift_up c up w k) w (k + c) 0 = shift_first c up w k (place ds w (k - 1)) (omega arith) in
      let turn = shift_suc c ds w (k - 1) (omega arith) in
      rw (p, q, m, swapped) (first ∙ ap (λ (ws : List ℕ). set_place ws w (k + c) 0) (sym (rw s at turn)))

-- none is left, and the last is taken off
pub sunk : (ds es : List ℕ) (w n k : ℕ) → n ≤ k → n ≡ size ds w → size es w ≡ n
    → set_place (shift_up (n - k) es w (k - 1)) w (n - 1) 0 ≡ set_place (shift_up (n - 1) ds w 0) w (n - 1) 0 → pop es w ≡ drop_top ds w
unfolding shift_up pop drop_top
sunk ds es w n k h en e i = let z : n - k ≡ 0 = omega arith in rw (e, ← en, ← i, z)
