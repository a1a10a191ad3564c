-- The names of a list that pass a test.
use Rattle.std.specs.Prelude.{◌≡◌, refl, Bool, true, false, cond, List, [], ◌∷◌, ◌++◌}
use Rattle.std.proofs.Common.{sym, ap, ap₂, ◌∙◌, inl, inr}
use mathlib.Core.List.Memᴰ.{cases_cons as In-cons}
use mathlib.Core.List.Memᴰ.{head as here}
use mathlib.Core.List.Memᴰ.{not-nil as not-in-nil}
use mathlib.Core.List.Memᴰ.{tail as there}
use mathlib.Core.List.{Memᴰ as In}
use Rattle.words.specs.Tests.{decided}
use Rattle.model.specs.Machine.{Name}

abbrev pub filter : (Name → Bool) → List Name → List Name
filter s [] = []
filter s (n ∷ ns) = cond (s n) (n ∷ filter s ns) (filter s ns)

pub in_filter : (s : Name → Bool) (ns : List Name) (n : Name) → In n (filter s ns) → In n ns × (s n ≡ true)
in_filter s [] n m = absurd (not-in-nil m)
in_filter s (x ∷ ns) n m =
    elim (decided (s x)) [
      | inl t ↦ elim (In-cons (rw t at m)) [ inl e ↦ (here e, ap s e ∙ t) | inr i ↦ (let r = in_filter s ns n i in (there r.0, r.1)) ]
      | inr t ↦ (let r = in_filter s ns n (rw t at m) in (there r.0, r.1))
    ]

pub to_filter : (s : Name → Bool) (ns : List Name) (n : Name) → In n ns → s n ≡ true → In n (filter s ns)
to_filter s [] n m h = absurd (not-in-nil m)
to_filter s (x ∷ ns) n m h =
    elim (In-cons m) [
      | inl e ↦ rw (ap s (sym e) ∙ h) (here e)
      | inr i ↦ elim (decided (s x)) [ inl t ↦ rw t (there (to_filter s ns n i h)) | inr t ↦ rw t (to_filter s ns n i h) ]
    ]

pub filter-append : (s : Name → Bool) (xs ys : List Name) → filter s (xs ++ ys) ≡ filter s xs ++ filter s ys
filter-append s [] ys = refl
filter-append s (x ∷ xs) ys = elim (decided (s x)) [ inl t ↦ rw t (ap (λ z. x ∷ z) (filter-append s xs ys)) | inr t ↦ rw t (filter-append s xs ys) ]

pub filter_same : (s t : Name → Bool) (ns : List Name) → ((n : Name) → In n ns → s n ≡ t n) → filter s ns ≡ filter t ns
filter_same s t [] h = refl
filter_same s t (n ∷ ns) h = ap₂ (λ b z. cond b (n ∷ z) z) (h n (here refl)) (filter_same s t ns (λ x m. h x (there m)))

pub filter-all : (s : Name → Bool) (ns : List Name) → ((n : Name) → In n ns → s n ≡ true) → filter s ns ≡ ns
filter-all s [] h = refl
filter-all s (n ∷ ns) h = rw (h n (here refl)) (ap (λ z. n ∷ z) (filter-all s ns (λ x m. h x (there m))))

pub filter_none : (s : Name → Bool) (ns : List Name) → ((n : Name) → In n ns → s n ≡ false) → filter s ns ≡ []
filter_none s [] h = refl
filter_none s (n ∷ ns) h = rw (h n (here refl)) (filter_none s ns (λ x m. h x (there m)))

-- one test after the other, in either order
pub filter_twice : (s t : Name → Bool) (ns : List Name) → filter s (filter t ns) ≡ filter t (filter s ns)
filter_twice s t [] = refl
filter_twice s t (n ∷ ns) =
    elim (decided (s n)) [
      | inl a ↦ elim (decided (t n)) [ inl b ↦ rw (a, b, a) (ap (λ z. n ∷ z) (filter_twice s t ns)) | inr b ↦ rw (a, b) (filter_twice s t ns) ]
      | inr a ↦ elim (decided (t n)) [ inl b ↦ rw (a, b, a) (filter_twice s t ns) | inr b ↦ rw (a, b) (filter_twice s t ns) ]
    ]
