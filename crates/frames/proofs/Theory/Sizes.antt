-- One deque as a part of the words; the bottom frame by one index; a worker's length, and the length of the words, after a frame is taken off.
use Rattle.std.specs.Prelude.{◌≡◌, refl, List, [], ◌∷◌, ◌++◌, ℕ, zero, suc, ◌+◌, ◌-◌, ◌*◌, ◌≤◌, ◌<◌, length, get_or, set, take, drop}
use Rattle.std.proofs.Common.{sym, ap, ◌∙◌, append-nil, arith, drop_of_length-le, length-drop as ListN·length-drop, take_all}
use Rattle.std.proofs.lemmas.List.{drop-set-add, take-set-le}
use Rattle.frames.specs.Widths.{max_workers, deque_places, deque_stride, deque_words}
use Rattle.frames.specs.Deques.{size, place, set_place, bottom, pop, shift_up, drop_top}
use Rattle.frames.proofs.Theory.Cells.{length-set_size, length-set_place, size-set_size-same, Elsewhere, elsewhere_trans, elsewhere_set_place, elsewhere_set_size, shift_elsewhere}

-- ---- one deque's words, from `at` on

pub set_past : (at : ℕ) (l : List ℕ) (k v : ℕ) → take at l ++ set (drop at l) k v ≡ set l (at + k) v
set_past zero l k v = ap (λ (i : ℕ). set l i v) (let e : k ≡ 0 + k = omega arith in e)
set_past (suc at) [] k v = refl
set_past (suc at) (x ∷ l) k v =
    let e : suc (at + k) ≡ suc at + k = omega arith in
    ap (λ (t : List ℕ). x ∷ t) (set_past at l k v) ∙ ap (λ (i : ℕ). set (x ∷ l) i v) e

-- the rest of the words is the part from `at` to their end
pub rest_is : (at : ℕ) (l : List ℕ) → take (length l - at) (drop at l) ≡ drop at l
rest_is at l = take_all (length l - at) (drop at l) (omega (arith, ListN·length-drop at l))

-- and nothing follows it
pub rest_ends : (at : ℕ) (l part : List ℕ) → part ++ drop (length l - at) (drop at l) ≡ part
rest_ends at l part =
    ap (λ (t : List ℕ). part ++ t) (drop_of_length-le (drop at l) {i = length l - at} (omega (arith, ListN·length-drop at l))) ∙ append-nil part

-- two stores there
pub sets_past : (at : ℕ) (l : List ℕ) (k v j u : ℕ) → take at l ++ set (set (drop at l) k v) j u ≡ set (set l (at + k) v) (at + j) u
sets_past at l k v j u =
    ap (λ (t : List ℕ). take at l ++ set t j u) (sym (drop-set-add at l k v)) ∙
    ap (λ (t : List ℕ). t ++ set (drop at (set l (at + k) v)) j u) (sym (take-set-le at l (at + k) v (omega arith))) ∙
    set_past at (set l (at + k) v) j u

pub bottom_is : (ds : List ℕ) (w n : ℕ) → n ≡ size ds w → 0 < n → get_or ds (deque_stride * w + n) 0 ≡ bottom ds w
unfolding bottom place
bottom_is ds w n e h =
    let i : deque_stride * w + n ≡ deque_stride * w + (1 + (size ds w - 1)) = omega arith in
    ap (λ (k : ℕ). get_or ds k 0) i

-- ---- one worker's length after a frame is taken off

pub length-pop : (ds : List ℕ) (w : ℕ) → length (pop ds w) ≡ length ds
unfolding pop
length-pop ds w = length-set_size (set_place ds w (size ds w - 1) 0) w (size ds w - 1) ∙ length-set_place ds w (size ds w - 1) 0

pub size-pop : (ds : List ℕ) (w : ℕ) → length ds ≡ deque_words → w < max_workers → size (pop ds w) w ≡ size ds w - 1
unfolding pop
size-pop ds w l h = size-set_size-same (set_place ds w (size ds w - 1) 0) w (size ds w - 1) (length-set_place ds w (size ds w - 1) 0 ∙ l) h

-- ---- after a top frame is taken off, and the thief's length: it is another worker

pub drop_elsewhere : (ds : List ℕ) (v : ℕ) → size ds v ≤ deque_places → Elsewhere v ds (drop_top ds v)
unfolding drop_top
drop_elsewhere ds v b =
    elsewhere_trans (shift_elsewhere (size ds v - 1) ds v 0 (omega arith))
    (elsewhere_trans (elsewhere_set_place (shift_up (size ds v - 1) ds v 0) v (size ds v - 1) 0 (omega arith)) (elsewhere_set_size (set_place (shift_up (size ds v - 1) ds v 0) v (size ds v - 1) 0) v (size ds v - 1)))

pub length-drop : (ds : List ℕ) (v : ℕ) → size ds v ≤ deque_places → length (drop_top ds v) ≡ length ds
length-drop ds v b = (drop_elsewhere ds v b).same_length

pub thief_idle : (ds : List ℕ) (w v : ℕ) → size ds w ≡ 0 → 2 ≤ size ds v → size ds v ≤ deque_places → 0 ≡ size (drop_top ds v) w
thief_idle ds w v e h b = omega (arith, (drop_elsewhere ds v b).same_size w (λ q. omega (arith, ap (size ds) q)))
