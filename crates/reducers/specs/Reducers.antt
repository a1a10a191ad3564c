-- Document 02's R-5: "Three reducers: 0, the sum modulo 4,294,967,296; 1, the minimum; 2, the affine map, multiply then add, modulo
-- 4,294,967,296, earlier map applied first." Of each the identity and the join of two views, the earlier one on the left. Definitions only.
use Rattle.std.specs.Prelude.{◌≡◌, ◌<◌, Result, MatchResult, cond, List, [], ◌∷◌, map, ℕ, zero, suc, ◌/◌, ◌%◌, eqb, ltb}
use Rattle.words.specs.Basics.{none, plus, times}
use Rattle.reducers.specs.declared.Sum.{Sum}
use Rattle.reducers.specs.declared.Min.{Min}
use Rattle.reducers.specs.declared.Affine.{Affine}
use Rattle.reducers.specs.declared.View.{View}
use Rattle.reducers.specs.declared.Reducer.{Reducer}
use Rattle.reducers.specs.declared.Reducer.TheVariants as reducer
use Rattle.reducers.specs.declared.UnknownReducer.{UnknownReducer}

-- ---- the sum

abbrev pub identity_sum : Sum
identity_sum = record { value = 0 }

abbrev pub join_sum : Sum → Sum → Sum
join_sum a b = record { value = plus a.value b.value }

-- ---- the minimum

abbrev pub identity_min : Min
identity_min = record { value = none }

abbrev pub join_min : Min → Min → Min
join_min a b = cond (ltb b.value a.value) b a

-- ---- the affine map

abbrev pub identity_affine : Affine
identity_affine = record { multiplier = 1; addend = 0 }

-- multiply by a's and add a's, then multiply by b's and add b's
abbrev pub join_affine : Affine → Affine → Affine
join_affine a b = record { multiplier = times a.multiplier b.multiplier; addend = plus (times a.addend b.multiplier) b.addend }

-- ---- a value folded

abbrev pub folded_sum : ℕ → Sum
folded_sum v = record { value = v }

abbrev pub folded_min : ℕ → Min
folded_min v = record { value = v }

-- "For reducer 2 the value divided by 65,536 is the multiplier and its remainder the addend."
abbrev pub folded_affine : ℕ → Affine
folded_affine v = record { multiplier = v / 65536; addend = v % 65536 }

-- ---- views

abbrev pub identity_view : View
identity_view = record { sum = identity_sum; min = identity_min; affine = identity_affine }

abbrev pub join_view : View → View → View
join_view a b = record { sum = join_sum a.sum b.sum; min = join_min a.min b.min; affine = join_affine a.affine b.affine }

-- a view with one part changed
abbrev pub with_sum : View → Sum → View
with_sum w a = record { sum = a; min = w.min; affine = w.affine }

abbrev pub with_min : View → Min → View
with_min w a = record { sum = w.sum; min = a; affine = w.affine }

abbrev pub with_affine : View → Affine → View
with_affine w a = record { sum = w.sum; min = w.min; affine = a }

-- the value v folded into reducer r; a number that names no reducer folds nothing
unfoldable pub fold_view : View → ℕ → ℕ → View
fold_view w zero v = with_sum w (join_sum w.sum (folded_sum v))
fold_view w (suc zero) v = with_min w (join_min w.min (folded_min v))
fold_view w (suc (suc zero)) v = with_affine w (join_affine w.affine (folded_affine v))
fold_view w (suc (suc (suc r))) v = w

-- the words of a view: "the sum, the minimum, the multiplier and the addend"
abbrev pub view_words : View → List ℕ
view_words w = w.sum.value ∷ w.min.value ∷ w.affine.multiplier ∷ w.affine.addend ∷ []

-- a view of zeros, as free frame places have it
abbrev pub zero_view : View
zero_view = record { sum = record { value = 0 }; min = record { value = 0 }; affine = record { multiplier = 0; addend = 0 } }

-- ---- "the identity joined with the values folded into its reducer", in this order

abbrev pub joined_from : {A : Type 0} → (A → A → A) → A → List A → A
joined_from join a [] = a
joined_from join a (x ∷ xs) = joined_from join (join a x) xs

abbrev pub total_sum : List ℕ → Sum
total_sum vs = joined_from join_sum identity_sum (map folded_sum vs)

abbrev pub total_min : List ℕ → Min
total_min vs = joined_from join_min identity_min (map folded_min vs)

abbrev pub total_affine : List ℕ → Affine
total_affine vs = joined_from join_affine identity_affine (map folded_affine vs)

-- ---- the view of a list of (reducer, value), folded in this order

-- the values folded into reducer r
abbrev pub values_into : ℕ → List (ℕ × ℕ) → List ℕ
values_into r [] = []
values_into r (p ∷ l) = let vs = values_into r l in let vs' = p.1 ∷ vs in cond (eqb p.0 r) vs' vs

abbrev pub view_from : View → List (ℕ × ℕ) → View
view_from w [] = w
view_from w (p ∷ l) = view_from (fold_view w p.0 p.1) l

abbrev pub view_of : List (ℕ × ℕ) → View
view_of l = view_from identity_view l

-- ---- the reducers' numbers

abbrev pub number : Reducer → ℕ
number (reducer.Sum) = 0
number (reducer.Min) = 1
number (reducer.Affine) = 2

-- the reducer with this number, or an error with a number that no reducer has
abbrev pub Numbers : ℕ → Result Reducer UnknownReducer → Type 0
Numbers n r = MatchResult r (λ reducer. number reducer ≡ n) (λ e. (e.0 ≡ n) × (2 < n))
