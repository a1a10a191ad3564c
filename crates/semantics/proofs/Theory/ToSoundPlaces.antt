-- The places of frames, counted: a frame's place is counted, a place counted once has one frame, and a sum over all places is one
-- over the frames.
use Rattle.std.specs.Prelude.{◌≡◌, ◌⊎◌, true, List, [], ◌∷◌, ◌++◌, ℕ, zero, suc, ◌+◌, ◌≤◌, ◌<◌, length, get_or}
use Rattle.std.proofs.Common.{sym, ap, ◌∙◌, inl, inr, arith}
use mathlib.Core.List.Memᴰ.{append_left as In-left}
use mathlib.Core.List.Memᴰ.{append_right as In-right}
use mathlib.Core.List.Memᴰ.{cases_cons as In-cons}
use mathlib.Core.List.Memᴰ.{map as In-map}
use mathlib.Core.List.Memᴰ.{not-nil as not-in-nil}
use mathlib.Core.List.Memᴰ.{of_map as In-unmap}
use mathlib.Core.List.{Memᴰ as In}
use Rattle.words.specs.Basics.{sum, joined, below, δ, count}
use Rattle.words.specs.Counting.{δ_same, when, when_zero, when_pos, count_nil, count_cons, sum_cong, sum_zero, sum_first}
use Rattle.model.specs.Machine.{Name, Frame}
use Rattle.semantics.proofs.Theory.Relation.{places_of}
use Rattle.semantics.proofs.Theory.FromSoundPlaces.{In-count, count_In, total, total-sum}

-- each number below N stands once in the list, or adds nothing
pub sum-total : (N : ℕ) (h : ℕ → ℕ) (xs : List ℕ) → below N xs ≡ true → ((i : ℕ) → i < N → (count i xs ≡ 1) ⊎ ((count i xs ≡ 0) × (h i ≡ 0))) → sum N h ≡ total h xs
sum-total N h xs b each =
    sum_cong N h (λ i. when (count i xs) (h i)) (λ i k. elim (each i k) [
      | inl e ↦ sym (when_pos (count i xs) (h i) (omega (arith, e)))
      | inr e ↦ e.1 ∙ sym (when_zero (count i xs) (h i) e.0)
    ])
    ∙ sym (total-sum N h xs b (λ i k. elim (each i k) [ inl e ↦ omega (arith, e) | inr e ↦ omega (arith, e.0) ]))

module _ (at : Name → ℕ) where
  pub place-count : (f : Frame) (L : List Frame) → In f L → 0 < count (at f.name) (places_of at L)
  place-count f L m = In-count (places_of at L) (In-map (λ (g : Frame). at g.name) m)

  pub place-frame : (p : ℕ) (L : List Frame) → 0 < count p (places_of at L) → (f : Frame) × In f L × (at f.name ≡ p)
  place-frame p L h = In-unmap (λ (g : Frame). at g.name) L (count_In p (places_of at L) h)

  -- two frames at one place that is counted once
  pub place_apart : (f g : Frame) (L : List Frame) → In f L → In g L → at f.name ≡ at g.name → count (at f.name) (places_of at L) ≤ 1 → f ≡ g
  place_apart f g [] mf mg e h = absurd (not-in-nil mf)
  place_apart f g (x ∷ L) mf mg e h =
      let k = count_cons (at f.name) (at x.name) (places_of at L) in
      let s = δ_same (at f.name) in
      elim (In-cons mf) [
        | inl a ↦ elim (In-cons mg) [
          | inl b ↦ a ∙ sym b
          | inr b ↦ absurd (omega (arith, k, s, ap (λ (z : Frame). δ (at f.name) (at z.name)) a, ap (λ z. count z (places_of at L)) e, place-count g L b))
        ]
        | inr a ↦ elim (In-cons mg) [
          | inl b ↦ absurd (omega (arith, k, s, ap (λ z. δ (at f.name) z) e, ap (λ (z : Frame). δ (at f.name) (at z.name)) b, place-count f L a))
          | inr b ↦ place_apart f g L a b e (omega (arith, k))
        ]
      ]

  pub count-both : (p : ℕ) (L K : List Frame) → count p (places_of at (L ++ K)) ≡ count p (places_of at L) + count p (places_of at K)
  count-both p [] K = omega (arith, count_nil p)
  count-both p (f ∷ L) K = omega (arith, count_cons p (at f.name) (places_of at (L ++ K)), count_cons p (at f.name) (places_of at L), count-both p L K)

  -- the lists one by one, and all of them joined
  pub count-joined : (p n : ℕ) (ds : List (List Frame)) → length ds ≤ n → sum n (λ w. count p (places_of at (get_or ds w []))) ≡ count p (places_of at (joined ds))
  count-joined p n [] h = sum_zero n (λ w. count p []) (λ w b. count_nil p) ∙ sym (count_nil p)
  count-joined p zero (d ∷ ds) h = absurd (omega arith)
  count-joined p (suc n) (d ∷ ds) h =
      sum_first n (λ w. count p (places_of at (get_or (d ∷ ds) w [])))
      ∙ omega (arith, count-joined p n ds (omega arith), count-both p d (joined ds))

pub in_joined : {A : Type 0} {x : A} (ds : List (List A)) (w : ℕ) → In x (get_or ds w []) → In x (joined ds)
in_joined [] w m = absurd (not-in-nil m)
in_joined (d ∷ ds) zero m = In-left (joined ds) m
in_joined (d ∷ ds) (suc w) m = In-right d (in_joined ds w m)
