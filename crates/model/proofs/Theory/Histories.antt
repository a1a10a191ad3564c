-- The nodes in use depend only on which histories the frames have.
use Rattle.std.specs.Prelude.{◌≡◌, refl, ℕ, suc, ◌≤◌, ◌<◌}
use Rattle.std.proofs.Common.{sym, ap, ◌∙◌, le_antisymm, arith}
use mathlib.Core.List.Memᴰ
use mathlib.Core.List.Memᴰ.{map as In-map}
use mathlib.Core.List.Memᴰ.{of_map as In-unmap}
use mathlib.Core.List.{Memᴰ as In}
use mathlib.Core.List.Permᴰ
use mathlib.Core.List.{List, [], ◌∷◌, map, Permᴰ}
use Rattle.words.specs.Basics.{sum, distinct}
use Rattle.words.specs.Counting.{sum_zero, sum_mono, sum_ge}
use Rattle.words.specs.Lists.{In-perm}
use Rattle.words.specs.Distinct.{distinct_mono, distinct_positive}
use Rattle.sizes.specs.Sizes.{height, width}
use Rattle.sizes.specs.Widths.{width_pos}
use Rattle.model.specs.History.{Mark, last_write, nodes_in_use}
use Rattle.model.specs.Machine.{Frame, histories, in_use}

abbrev pub last_of : ℕ → ℕ → Frame → Mark
last_of l g f = last_write l g f.history

abbrev pub last_marks : ℕ → ℕ → List Frame → List Mark
last_marks l g fs = map (last_write l g) (histories fs)

pub In-marks : (l g : ℕ) {f : Frame} {fs : List Frame} → In f fs → In (last_of l g f) (last_marks l g fs)
In-marks l g m = In-map (last_write l g) (In-map (λ (f : Frame). f.history) m)

pub marks_In : (l g : ℕ) (fs : List Frame) {x : Mark} → In x (last_marks l g fs) → (f : Frame) × In f fs × (last_of l g f ≡ x)
marks_In l g fs m =
    let u = In-unmap (last_write l g) (histories fs) m in
    let v = In-unmap (λ (f : Frame). f.history) fs u.1 in
    (v.0, v.1, ap (last_write l g) v.2 ∙ u.2)

-- it is enough to compare each position
pub in_use_mono : (n : ℕ) (A B : List Frame) → ((l g : ℕ) → distinct (last_marks l g A) ≤ distinct (last_marks l g B)) → in_use n A ≤ in_use n B
unfolding nodes_in_use
in_use_mono n A B h = sum_mono (suc (height n)) (λ l. sum_mono (width n l) (λ g. h l g))

-- every history of the first list is one of the second
abbrev pub Within : List Frame → List Frame → Type 0
Within A B = (f : Frame) → In f A → (g : Frame) × In g B × (f.history ≡ g.history)

pub marks_within : (l g : ℕ) (A B : List Frame) → Within A B → (x : Mark) → In x (last_marks l g A) → In x (last_marks l g B)
marks_within l g A B h x m =
    let u = marks_In l g A m in
    let v = h u.0 u.1 in
    Memᴰ.cast (sym u.2 ∙ ap (last_write l g) v.2) (In-marks l g v.1)

pub in_use_within : (n : ℕ) (A B : List Frame) → Within A B → in_use n A ≤ in_use n B
in_use_within n A B h = in_use_mono n A B (λ l g. distinct_mono (last_marks l g A) (last_marks l g B) (marks_within l g A B h))

pub in_use_perm : (n : ℕ) {A B : List Frame} → Permᴰ A B → in_use n A ≡ in_use n B
in_use_perm n {A} {B} p = le_antisymm (in_use_within n A B (λ f m. (f, In-perm p m, refl))) (in_use_within n B A (λ f m. (f, In-perm (Permᴰ.symm p) m, refl)))

-- no frame, no node
pub in_use-none : (n : ℕ) → in_use n [] ≡ 0
unfolding nodes_in_use
in_use-none n = sum_zero (suc (height n)) (λ l. sum (width n l) (λ g. 0)) (λ l b. sum_zero (width n l) (λ g. 0) (λ g c. refl))

-- some frame, some node
pub in_use_positive : (n : ℕ) (f : Frame) (L : List Frame) → 0 < n → 0 < in_use n (f ∷ L)
unfolding nodes_in_use
in_use_positive n f L p =
    omega (
      arith,
      sum_ge (suc (height n)) 0 (λ l. sum (width n l) (λ g. distinct (last_marks l g (f ∷ L)))) (omega arith),
      sum_ge (width n 0) 0 (λ g. distinct (last_marks 0 g (f ∷ L))) (omega (arith, width_pos n 0 p)),
      distinct_positive (last_of 0 0 f) (last_marks 0 0 L),
    )
