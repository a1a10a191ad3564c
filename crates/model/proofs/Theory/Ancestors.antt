-- The live frames of the one-worker run are a chain from Main to the frame that acts. Where each frame of the chain stands
-- in the other run too, with the same writes and perhaps more of its own, no more nodes are in use here than there.
use Rattle.std.specs.Prelude.{◌≡◌, refl, ◌⊎◌, false, List, [], ◌∷◌, map, ℕ, suc, ◌≤◌, ◌<◌, length}
use Rattle.std.proofs.Common.{sym, ap, ap₂, ◌∙◌, inl, inr, append-nil, le_refl, le_trans, arith}
use mathlib.Core.List.Memᴰ
use mathlib.Core.List.Memᴰ.{cases_cons as In-cons}
use mathlib.Core.List.Memᴰ.{head as here}
use mathlib.Core.List.Memᴰ.{map as In-map}
use mathlib.Core.List.Memᴰ.{not-nil as not-in-nil}
use mathlib.Core.List.Memᴰ.{of_map as In-unmap}
use mathlib.Core.List.{Memᴰ as In}
use Rattle.std.proofs.lemmas.List.{length-map}
use Rattle.words.specs.Basics.{among, distinct}
use Rattle.words.specs.Tests.{true≢false, decided}
use Rattle.words.specs.Distinct.{among→In, In→among, distinct_in, distinct_out, distinct_cons_le, distinct_le_length, distinct_mono}
use Rattle.model.specs.Machine.{Name, Frame, depth, in_use}
use Rattle.model.proofs.Theory.Histories.{last_of, last_marks, marks_In, in_use_mono, in_use_within}
use Rattle.model.proofs.Theory.Extends.{WritesAt, Extends, extends_same, last_extended, last_of_extended}

-- a frame of the chain as it is in L: perhaps it has made more writes there
pub record Twin (L : List Frame) (g : Frame) : Type 0 where
  pub frame : Frame
  pub there_is : In frame L
  pub named : frame.name ≡ g.name
  pub extends : Extends (depth g) g.history frame.history

-- g is the parent of f, whose history is g's with writes of its own, and has a twin
pub record Link (L : List Frame) (f g : Frame) : Type 0 where
  pub ordinal : ℕ
  pub named : f.name ≡ ordinal ∷ g.name
  pub extends : Extends (depth f) g.history f.history
  pub twin : Twin L g

pub link_to_lem : {L L' : List Frame} {f g : Frame} → Link L f g → Twin L' g → Link L' f g
link_to_lem k t = record { ordinal = k.ordinal; named = k.named; extends = k.extends; twin = t }

-- C is the chain of f's ancestors, the nearest first, each but f with its twin in L
abbrev pub Ancestors : List Frame → Frame → List Frame → Type 0
Ancestors L f [] = (f.name ≡ []) × WritesAt 0 f.history
Ancestors L f (g ∷ C) = Link L f g × Ancestors L g C

link-length : {L : List Frame} {f g : Frame} → Link L f g → depth f ≡ suc (depth g)
link-length k = ap length k.named

suc_le : {m n : ℕ} → m ≤ n → suc m ≤ suc n
suc_le h = omega arith

abbrev pub names : List Frame → List Name
names fs = map (λ c. c.name) fs

module _ (L : List Frame) where
  abbrev pub twins : (f : Frame) (C : List Frame) → Ancestors L f C → List Frame
  twins f [] a = []
  twins f (g ∷ C) a = a.0.twin.frame ∷ twins g C a.1

  pub twins_in : (f : Frame) (C : List Frame) (a : Ancestors L f C) (x : Frame) → In x (twins f C a) → In x L
  twins_in f [] a x m = absurd (not-in-nil m)
  twins_in f (g ∷ C) a x m = elim (In-cons m) [ inl e ↦ Memᴰ.cast e a.0.twin.there_is | inr h ↦ twins_in g C a.1 x h ]

  twins_and_in : (f : Frame) (C : List Frame) → In f L → (a : Ancestors L f C) (x : Frame) → In x (f ∷ twins f C a) → In x L
  twins_and_in f C m a x h = elim (In-cons h) [ inl e ↦ Memᴰ.cast e m | inr t ↦ twins_in f C a x t ]

  -- ---- no more frames

  names_shorter : (f : Frame) (C : List Frame) → Ancestors L f C → (x : Name) → In x (names C) → length x < depth f
  names_shorter f [] a x m = absurd (not-in-nil m)
  names_shorter f (g ∷ C) a x m =
      elim (In-cons m) [ inl e ↦ omega (arith, ap length e, link-length a.0) | inr h ↦ omega (arith, names_shorter g C a.1 x h, link-length a.0) ]

  names_out : (f : Frame) (C : List Frame) → Ancestors L f C → among f.name (names C) ≡ false
  names_out f C a = elim (decided (among f.name (names C))) [ inl e ↦ absurd (let h = names_shorter f C a f.name (among→In f.name (names C) e) in omega (arith, h)) | inr e ↦ e ]

  names-distinct : (f : Frame) (C : List Frame) → Ancestors L f C → length (f ∷ C) ≤ distinct (names (f ∷ C))
  names-distinct f [] a = le_refl 1
  names-distinct f (g ∷ C) a = rw (distinct_out f.name (names (g ∷ C)) (names_out f (g ∷ C) a)) (suc_le (names-distinct g C a.1))

  twins-names : (f : Frame) (C : List Frame) (a : Ancestors L f C) → names (twins f C a) ≡ names C
  twins-names f [] a = refl
  twins-names f (g ∷ C) a = ap₂ ◌∷◌ a.0.twin.named (twins-names g C a.1)

  pub no_more_frames : (f : Frame) (C : List Frame) → In f L → Ancestors L f C → length (f ∷ C) ≤ length L
  no_more_frames f C m a =
      le_trans (names-distinct f C a) (rw (← twins-names f C a, ← length-map L (λ c. c.name)) (le_trans (distinct_mono (names (f ∷ twins f C a)) (names L) sub) (distinct_le_length (names L))))
    where
      sub : (x : Name) → In x (names (f ∷ twins f C a)) → In x (names L)
      sub x h =
          let u = In-unmap (λ (c : Frame). c.name) (f ∷ twins f C a) h in
          Memᴰ.cast (sym u.2) (In-map (λ (c : Frame). c.name) (twins_and_in f C m a u.0 u.1))

  -- ---- no more nodes

  low : (l i : ℕ) (f : Frame) (C : List Frame) → Ancestors L f C → length (last_of l i f) ≤ suc (depth f)
  low l i f [] a = rw (← append-nil f.history) (elim (last_extended l i 0 f.history [] a.1) [ inl e ↦ omega (arith, ap length e) | inr e ↦ omega (arith, e) ])
  low l i f (g ∷ C) a =
      elim (last_of_extended l i (depth f) a.0.extends)
      [ inl e ↦ omega (arith, ap length e, low l i g C a.1, link-length a.0) | inr e ↦ omega (arith, e) ]

  twins_low : (l i : ℕ) (f : Frame) (C : List Frame) (a : Ancestors L f C) (x : Frame) → In x (twins f C a) → length (last_of l i x) ≤ depth f
  twins_low l i f [] a x m = absurd (not-in-nil m)
  twins_low l i f (g ∷ C) a x m =
      elim (In-cons m) [
        | inl e ↦ rw e (elim (last_of_extended l i (depth g) a.0.twin.extends)
            [ inl d ↦ omega (arith, ap length d, low l i g C a.1, link-length a.0) | inr d ↦ omega (arith, d, link-length a.0) ])
        | inr h ↦ omega (arith, twins_low l i g C a.1 x h, link-length a.0)
      ]

  -- a last write that no frame further up the chain has is the frame's own, here and in its twin
  fresh : (l i : ℕ) (f t g : Frame) (C : List Frame) → Ancestors L f (g ∷ C) → Extends (depth f) f.history t.history
      → among (last_of l i f) (last_marks l i (g ∷ C)) ≡ false → length (last_of l i t) ≡ suc (depth f)
  fresh l i f t g C a k e = go (last_of_extended l i (depth f) a.0.extends) (last_of_extended l i (depth f) k)
    where
      go : (last_of l i f ≡ last_of l i g) ⊎ (length (last_of l i f) ≡ suc (depth f)) → (last_of l i t ≡ last_of l i f) ⊎ (length (last_of l i t) ≡ suc (depth f))
          → length (last_of l i t) ≡ suc (depth f)
      go x (inr d) = d
      go (inl b) (inl d) = absurd (true≢false (sym (In→among {x = last_of l i f} {l = last_marks l i (g ∷ C)} (here b)) ∙ e))
      go (inr b) (inl d) = ap length d ∙ b

  fresh_out : (l i : ℕ) (f t g : Frame) (C : List Frame) (a : Ancestors L f (g ∷ C)) → length (last_of l i t) ≡ suc (depth f)
      → among (last_of l i t) (last_marks l i (twins f (g ∷ C) a)) ≡ false
  fresh_out l i f t g C a h =
      elim (decided (among (last_of l i t) (last_marks l i (twins f (g ∷ C) a))))
      [ inl s ↦ absurd (impossible (marks_In l i (twins f (g ∷ C) a) (among→In (last_of l i t) (last_marks l i (twins f (g ∷ C) a)) s))) | inr s ↦ s ]
    where
      impossible : (x : Frame) × In x (twins f (g ∷ C) a) × (last_of l i x ≡ last_of l i t) → ⊥
      impossible u = omega (arith, h, ap length u.2, twins_low l i f (g ∷ C) a u.0 u.1)

  count : (l i : ℕ) (f t : Frame) (C : List Frame) (a : Ancestors L f C) → Extends (depth f) f.history t.history
      → distinct (last_marks l i (f ∷ C)) ≤ distinct (last_marks l i (t ∷ twins f C a))
  count l i f t [] a k = le_refl 1
  count l i f t (g ∷ C) a k =
      let others = last_marks l i (twins f (g ∷ C) a) in
      let ih = count l i g a.0.twin.frame C a.1 a.0.twin.extends in
      elim (decided (among (last_of l i f) (last_marks l i (g ∷ C)))) [
        | inl e ↦ rw (distinct_in (last_of l i f) (last_marks l i (g ∷ C)) e) (le_trans ih (distinct_cons_le (last_of l i t) others))
        | inr e ↦ rw (distinct_out (last_of l i f) (last_marks l i (g ∷ C)) e, distinct_out (last_of l i t) others (fresh_out l i f t g C a (fresh l i f t g C a k e))) (suc_le ih)
      ]

  pub no_more_nodes : (n : ℕ) (f : Frame) (C : List Frame) → In f L → Ancestors L f C → in_use n (f ∷ C) ≤ in_use n L
  no_more_nodes n f C m a =
      le_trans (in_use_mono n (f ∷ C) (f ∷ twins f C a) (λ l i. count l i f f C a (extends_same (depth f) f.history)))
      (in_use_within n (f ∷ twins f C a) L (λ x h. (x, twins_and_in f C m a x h, refl)))
