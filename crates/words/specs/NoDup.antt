-- Lists without repetition: two with the same members are equally long; lists joined by index; repetitions taken out.
use Rattle.std.specs.Prelude.{◌≡◌, ℕ, zero, suc, ◌<◌, ◌≤◌, cond, ◌⊎◌, ◌↔◌, List, [], ◌∷◌, ◌++◌, map, length, ◌≢◌}
use Rattle.std.proofs.Math.Path.{refl, sym, ap}
use Rattle.std.proofs.Common.{◌∙◌, arith, length-append}
use Rattle.std.proofs.Math.Logic.{inl, inr}
use mathlib.Core.List.Memᴰ.{append_cases as In-append}
use mathlib.Core.List.Memᴰ.{cases_cons as In-cons}
use mathlib.Core.List.Memᴰ.{head as here}
use mathlib.Core.List.Memᴰ.{not-nil as not-in-nil}
use mathlib.Core.List.Memᴰ.{tail as there}
use mathlib.Core.List.{Memᴰ as In}
use mathlib.Core.List.Memᴰ
use Rattle.std.proofs.Math.Decide.{ℕ_discrete}
use Rattle.words.specs.Basics.{sum, among, distinct}
use Rattle.words.specs.Tests.{decided, true≢false}
use Rattle.words.specs.Distinct.{among→In, In→among}

module _ {A : Type 0} where
  abbrev pub NoDup : List A → Type 0
  NoDup [] = Unit {0}
  NoDup (x ∷ xs) = (In x xs → ⊥) × NoDup xs

  -- the list without that place
  cut : {a : A} {ys : List A} → In a ys → List A
  cut (here {xs = ys} e) = ys
  cut (there {x = y} m) = y ∷ cut m

  length_cut : {a : A} {ys : List A} (m : In a ys) → length ys ≡ suc (length (cut m))
  unfolding cut
  length_cut (here e) = refl
  length_cut (there m) = ap suc (length_cut m)

  In-cut : {a b : A} {ys : List A} (m : In a ys) → (b ≢ a) → In b ys → In b (cut m)
  unfolding cut
  In-cut (here e) o k = elim (In-cons k) [ inl f ↦ absurd (o (f ∙ sym e)) | inr q ↦ q ]
  In-cut (there m) o k = elim (In-cons k) [ inl f ↦ here f | inr q ↦ there (In-cut m o q) ]

  pub length_le : (xs ys : List A) → NoDup xs → ((a : A) → In a xs → In a ys) → length xs ≤ length ys
  length_le [] ys d h = omega arith
  length_le (x ∷ xs) ys d h =
      let m = h x (here refl) in
      omega (arith, length_cut m, length_le xs (cut m) d.1 (λ a k. In-cut m (λ e. d.0 (Memᴰ.cast (sym e) k)) (h a (there k))))

  -- the same members, the same length
  pub length_eq : (xs ys : List A) → NoDup xs → NoDup ys → ((a : A) → In a xs ↔ In a ys) → length xs ≡ length ys
  length_eq xs ys d e h = omega (arith, length_le xs ys d (λ a. (h a).0), length_le ys xs e (λ a. (h a).1))

  pub nodup_append : (xs ys : List A) → NoDup xs → NoDup ys → ((a : A) → In a xs → In a ys → ⊥) → NoDup (xs ++ ys)
  nodup_append [] ys d e h = e
  nodup_append (x ∷ xs) ys d e h = (
    (λ m. elim (In-append xs m) [ inl k ↦ d.0 k | inr k ↦ h x (here refl) k ]),
    nodup_append xs ys d.1 e (λ a p. h a (there p)),
  )

pub nodup_map : {A B : Type 0} (f : A → B) (xs : List A) → ((a b : A) → In a xs → In b xs → f a ≡ f b → a ≡ b) → NoDup xs → NoDup (map f xs)
nodup_map f [] h d = tt
nodup_map f (x ∷ xs) h d = (
  λ m. (let r = Memᴰ.of_map f xs m in d.0 (Memᴰ.cast (sym (h r.0 x (there r.1) (here refl) r.2)) r.1)),
  nodup_map f xs (λ a b p q. h a b (there p) (there q)) d.1,
)

-- ---- f 0 ++ .. ++ f (k - 1)

module _ {A : Type 0} where
  abbrev pub collect : ℕ → (ℕ → List A) → List A
  collect zero f = []
  collect (suc k) f = collect k f ++ f k

  pub length-collect : (k : ℕ) (f : ℕ → List A) → length (collect k f) ≡ sum k (λ i. length (f i))
  length-collect zero f = refl
  length-collect (suc k) f = omega (arith, length-append (collect k f) (f k), length-collect k f)

  pub In-collect : (k : ℕ) (f : ℕ → List A) (i : ℕ) {a : A} → i < k → In a (f i) → In a (collect k f)
  In-collect zero f i b m = absurd (omega arith)
  In-collect (suc k) f i {a} b m = elim (ℕ_discrete i k) [
    | yes e ↦ Memᴰ.append_right (collect k f) (rw e at m)
    | no e ↦ Memᴰ.append_left (f k) (In-collect k f i (omega arith) m)
  ]

  pub collect_In : (k : ℕ) (f : ℕ → List A) {a : A} → In a (collect k f) → (i : ℕ) × (i < k) × In a (f i)
  collect_In zero f m = absurd (not-in-nil m)
  collect_In (suc k) f m = elim (In-append (collect k f) m) [
    | inl q ↦ (let r = collect_In k f q in (r.0, omega (arith, r.1), r.2))
    | inr q ↦ (k, omega arith, q)
  ]

  pub nodup_collect : (k : ℕ) (f : ℕ → List A) → ((i : ℕ) → i < k → NoDup (f i)) → ((i j : ℕ) (a : A) → In a (f i) → In a (f j) → i ≡ j) → NoDup (collect k f)
  nodup_collect zero f d h = tt
  nodup_collect (suc k) f d h = nodup_append (collect k f) (f k) (nodup_collect k f (λ i b. d i (omega arith)) h) (d k (omega arith))
      (λ a p q. (let r = collect_In k f p in omega (arith, r.1, h r.0 k a r.2 q)))

-- ---- the different ones of a list of lists

abbrev pub dedup : List (List ℕ) → List (List ℕ)
dedup [] = []
dedup (x ∷ xs) = let r = dedup xs in let r' = x ∷ r in cond (among x xs) r r'

dedup_in : (x : List ℕ) (xs : List (List ℕ)) → In x xs → dedup (x ∷ xs) ≡ dedup xs
dedup_in x xs m = rw (In→among m)

dedup_out : (x : List ℕ) (xs : List (List ℕ)) → (In x xs → ⊥) → dedup (x ∷ xs) ≡ x ∷ dedup xs
dedup_out x xs o = elim (decided (among x xs)) [ inl e ↦ absurd (o (among→In x xs e)) | inr e ↦ rw e ]

-- x is among the others, or it is new
again : (x : List ℕ) (xs : List (List ℕ)) → In x xs ⊎ (In x xs → ⊥)
again x xs = elim (decided (among x xs)) [ inl e ↦ inl (among→In x xs e) | inr e ↦ inr (λ m. true≢false (sym (In→among m) ∙ e)) ]

pub In-dedup : (xs : List (List ℕ)) (a : List ℕ) → In a xs → In a (dedup xs)
In-dedup [] a m = m
In-dedup (x ∷ xs) a m = elim (again x xs) [
  | inl k ↦ rw (dedup_in x xs k) (elim (In-cons m) [ inl e ↦ Memᴰ.cast e (In-dedup xs x k) | inr q ↦ In-dedup xs a q ])
  | inr k ↦ rw (dedup_out x xs k) (elim (In-cons m) [ inl e ↦ here e | inr q ↦ there (In-dedup xs a q) ])
]

pub dedup_In : (xs : List (List ℕ)) (a : List ℕ) → In a (dedup xs) → In a xs
dedup_In [] a m = m
dedup_In (x ∷ xs) a m = elim (again x xs) [
  | inl k ↦ there (dedup_In xs a (rw (dedup_in x xs k) at m))
  | inr k ↦ elim (In-cons (rw (dedup_out x xs k) at m)) [ inl e ↦ here e | inr q ↦ there (dedup_In xs a q) ]
]

pub nodup_dedup : (xs : List (List ℕ)) → NoDup (dedup xs)
nodup_dedup [] = tt
nodup_dedup (x ∷ xs) = elim (again x xs) [
  | inl k ↦ rw (dedup_in x xs k) (nodup_dedup xs)
  | inr k ↦ rw (dedup_out x xs k) ((λ m. k (dedup_In xs x m)), nodup_dedup xs)
]

pub length-dedup : (xs : List (List ℕ)) → length (dedup xs) ≡ distinct xs
length-dedup [] = refl
length-dedup (x ∷ xs) = elim (decided (among x xs)) [
  | inl e ↦ rw e (length-dedup xs)
  | inr e ↦ rw e (ap suc (length-dedup xs))
]
