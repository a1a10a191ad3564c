-- Equality and membership of lists of numbers, and how many different ones a list has.
use Rattle.std.specs.Prelude.{◌≡◌, ℕ, suc, ◌<◌, ◌≤◌, Bool, true, false, cond, ◌≢◌, ◌⊎◌, List, [], ◌∷◌, length, ◌==◌, refl}
use Rattle.std.proofs.Common.{sym, ap₂, ◌∙◌, inl, inr, le_refl, le_trans, arith, eqb→eq}
use mathlib.Core.List.Memᴰ
use mathlib.Core.List.Memᴰ.{cases_cons as In-cons}
use mathlib.Core.List.Memᴰ.{head as here}
use mathlib.Core.List.Memᴰ.{not-nil as not-in-nil}
use mathlib.Core.List.Memᴰ.{tail as there}
use mathlib.Core.List.{Memᴰ as In}
use Rattle.std.proofs.Math.Dec.{eqb_refl}
use Rattle.words.specs.Basics.{same, among, distinct}
use Rattle.words.specs.Tests.{decided, true→T, T→true, true≢false, both}

pub same_eq : (x y : List ℕ) → same x y ≡ true → x ≡ y
same_eq [] [] e = refl
same_eq [] (y ∷ ys) e = absurd (true≢false (sym e))
same_eq (x ∷ xs) [] e = absurd (true≢false (sym e))
same_eq (x ∷ xs) (y ∷ ys) e =
    let p = both (x == y) (same xs ys) e in
    ap₂ ◌∷◌ (eqb→eq x y (true→T p.0)) (same_eq xs ys p.1)

pub same_refl : (x : List ℕ) → same x x ≡ true
same_refl [] = refl
same_refl (x ∷ xs) = rw (T→true (x == x) (eqb_refl x), same_refl xs)

pub same_of : {x y : List ℕ} → x ≡ y → same x y ≡ true
same_of {x} e = rw (← e) (same_refl x)

pub same_ne : {x y : List ℕ} → same x y ≡ false → x ≢ y
same_ne f e = true≢false (sym (same_of e) ∙ f)

pub same_differ : {x y : List ℕ} → x ≢ y → same x y ≡ false
same_differ {x} {y} d = elim (decided (same x y)) [ inl e ↦ absurd (d (same_eq x y e)) | inr e ↦ e ]

-- ---- membership, and how many different ones

pub among→In : (x : List ℕ) (l : List (List ℕ)) → among x l ≡ true → In x l
among→In x [] e = absurd (true≢false (sym e))
among→In x (y ∷ l) e = elim (decided (same x y)) [ inl s ↦ here (same_eq x y s) | inr s ↦ there (among→In x l (rw s at e)) ]

pub In→among : {x : List ℕ} {l : List (List ℕ)} → In x l → among x l ≡ true
In→among (here e) = rw (same_of e)
In→among {x} (there {x = y} m) = elim (decided (same x y)) [ inl s ↦ rw s | inr s ↦ rw s (In→among m) ]

pub distinct_in : (x : List ℕ) (l : List (List ℕ)) → among x l ≡ true → distinct (x ∷ l) ≡ distinct l
distinct_in x l e = rw e

pub distinct_out : (x : List ℕ) (l : List (List ℕ)) → among x l ≡ false → distinct (x ∷ l) ≡ suc (distinct l)
distinct_out x l e = rw e

pub distinct_cons_le : (x : List ℕ) (l : List (List ℕ)) → distinct l ≤ distinct (x ∷ l)
distinct_cons_le x l = elim (decided (among x l)) [ inl e ↦ omega (arith, distinct_in x l e) | inr e ↦ omega (arith, distinct_out x l e) ]

pub distinct_positive : (x : List ℕ) (l : List (List ℕ)) → 0 < distinct (x ∷ l)
distinct_positive x [] = omega arith
distinct_positive x (y ∷ l) = omega (arith, distinct_cons_le x (y ∷ l), distinct_positive y l)

pub distinct_cons_upper : (x : List ℕ) (l : List (List ℕ)) → distinct (x ∷ l) ≤ suc (distinct l)
distinct_cons_upper x l = elim (decided (among x l)) [ inl e ↦ omega (arith, distinct_in x l e) | inr e ↦ omega (arith, distinct_out x l e) ]

pub distinct_le_length : (l : List (List ℕ)) → distinct l ≤ length l
distinct_le_length [] = le_refl 0
distinct_le_length (x ∷ l) =
    let h = distinct_le_length l in
    elim (decided (among x l)) [ inl e ↦ omega (arith, distinct_in x l e, h) | inr e ↦ omega (arith, distinct_out x l e, h) ]

abbrev without : List ℕ → List (List ℕ) → List (List ℕ)
without x [] = []
without x (y ∷ l) = cond (same x y) (without x l) (y ∷ without x l)

without-same : (x y : List ℕ) (l : List (List ℕ)) → same x y ≡ true → without x (y ∷ l) ≡ without x l
without-same x y l e = rw e

without_other : (x y : List ℕ) (l : List (List ℕ)) → same x y ≡ false → without x (y ∷ l) ≡ y ∷ without x l
without_other x y l e = rw e

In-without : {x z : List ℕ} {l : List (List ℕ)} → x ≢ z → In z l → In z (without x l)
In-without {x} {z} d (here {x = y} {xs = l} e) = rw (without_other x y l (same_differ (λ p. d (p ∙ sym e)))) (here e)
In-without {x} {z} d (there {x = y} {xs = l} m) =
    elim (decided (same x y)) [ inl s ↦ rw (without-same x y l s) (In-without d m) | inr s ↦ rw (without_other x y l s) (there (In-without d m)) ]

among-without : (x z : List ℕ) (l : List (List ℕ)) → same x z ≡ false → among z (without x l) ≡ among z l
among-without x z [] f = refl
among-without x z (y ∷ l) f =
    elim (decided (same x y)) [ inl s ↦ rw (without-same x y l s, among-without x z l f, ← same_eq x y s, same_differ (λ p. same_ne f (sym p))) | inr s ↦ rw (without_other x y l s, among-without x z l f) ]

cond_le : (b : Bool) {m n : ℕ} → m ≤ n → cond b m (suc m) ≤ cond b n (suc n)
cond_le true h = h
cond_le false h = omega arith

distinct-without_le : (x : List ℕ) (l : List (List ℕ)) → distinct (without x l) ≤ distinct l
distinct-without_le x [] = le_refl 0
distinct-without_le x (y ∷ l) =
    let h = distinct-without_le x l in
    elim (decided (same x y)) [
      | inl s ↦ rw (without-same x y l s) (le_trans h (distinct_cons_le y l))
      | inr s ↦ rw (without_other x y l s, among-without x y l s) (cond_le (among y l) h)
    ]

-- taking one out that is there takes one off
distinct-without_lt : {x : List ℕ} (l : List (List ℕ)) → In x l → distinct (without x l) < distinct l
distinct-without_lt [] m = absurd (not-in-nil m)
distinct-without_lt {x} (y ∷ l) m =
    elim (decided (same x y)) [
      | inl s ↦ rw (without-same x y l s)
          (elim (decided (among y l)) [
            | inl a ↦ rw (distinct_in y l a) (distinct-without_lt l (rw (← same_eq x y s) at (among→In y l a)))
            | inr a ↦ rw (distinct_out y l a) (omega (arith, distinct-without_le x l))
          ])
      | inr s ↦ rw (without_other x y l s, among-without x y l s) (cond_lt (among y l) (distinct-without_lt l (later s (In-cons m))))
    ]
  where
    cond_lt : (b : Bool) {a c : ℕ} → a < c → cond b a (suc a) < cond b c (suc c)
    cond_lt true h = h
    cond_lt false h = omega arith

    later : same x y ≡ false → (x ≡ y) ⊎ In x l → In x l
    later s (inl e) = absurd (same_ne s e)
    later s (inr h) = h

-- more members, at least as many different ones
pub distinct_mono : (l m : List (List ℕ)) → ((x : List ℕ) → In x l → In x m) → distinct l ≤ distinct m
distinct_mono [] m sub = omega arith
distinct_mono (x ∷ l) m sub =
    elim (decided (among x l)) [
      | inl a ↦ rw (distinct_in x l a) (distinct_mono l m (λ z h. sub z (there h)))
      | inr a ↦ rw (distinct_out x l a)
          (le_trans (suc_le (distinct_mono l (without x m) (λ z h. In-without (λ e. true≢false (sym (In→among (Memᴰ.cast e h)) ∙ a)) (sub z (there h))))) (distinct-without_lt m (sub x (here refl))))
    ]
  where
    suc_le : {a b : ℕ} → a ≤ b → suc a ≤ suc b
    suc_le h = omega arith
