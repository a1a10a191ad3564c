-- Examples.
use Rattle.std.specs.Prelude.{◌≡◌, refl, List, [], ◌∷◌, ℕ}
use Rattle.reducers.specs.declared.Affine.{Affine}
use Rattle.reducers.specs.Reducers.{identity_sum, join_sum, folded_sum, identity_min, join_min, folded_min, identity_affine, join_affine, folded_affine, join_view, fold_view, view_words, values_into, view_of}

-- "modulo 4,294,967,296"
sums : join_sum (folded_sum 4294967290) (folded_sum 10) ≡ folded_sum 4
sums = refl

minima : join_min (folded_min 7) (folded_min 3) ≡ folded_min 3
minima = refl

least : join_min identity_min (folded_min 4294967295) ≡ folded_min 4294967295
least = refl

abbrev affine : ℕ → ℕ → Affine
affine m d = record { multiplier = m; addend = d }

-- "earlier map applied first": 2 x + 1, then 3 x + 4, is 3 (2 x + 1) + 4
composed : join_affine (affine 2 1) (affine 3 4) ≡ affine 6 7
composed = refl

composed_otherwise : join_affine (affine 3 4) (affine 2 1) ≡ affine 6 9
composed_otherwise = refl

-- "the value divided by 65,536 is the multiplier and its remainder the addend"
folded : folded_affine 131073 ≡ affine 2 1
folded = refl

wraps : join_affine (affine 65536 3) (affine 65536 5) ≡ affine 0 196613
wraps = refl

-- the identities that Main begins with: document 01's example gains "reduced 0 4294967295 1 0"
begun : view_words (view_of []) ≡ 0 ∷ 4294967295 ∷ 1 ∷ 0 ∷ []
begun = refl

-- two values into each reducer; 3 and 4,294,967,295 name none
abbrev values : List (ℕ × ℕ)
values = (0, 5) ∷ (2, 131073) ∷ (1, 9) ∷ (0, 4294967295) ∷ (2, 196612) ∷ (1, 8) ∷ (3, 1) ∷ (4294967295, 1) ∷ []

view : view_words (view_of values) ≡ 4 ∷ 8 ∷ 6 ∷ 7 ∷ []
unfolding fold_view
view = refl

into_sum : values_into 0 values ≡ 5 ∷ 4294967295 ∷ []
into_sum = refl

into_affine : values_into 2 values ≡ 131073 ∷ 196612 ∷ []
into_affine = refl

-- in two parts, the earlier on the left
joined : view_words (join_view (view_of ((0, 5) ∷ (2, 131073) ∷ [])) (view_of ((2, 196612) ∷ (1, 8) ∷ []))) ≡ 5 ∷ 8 ∷ 6 ∷ 7 ∷ []
unfolding fold_view
joined = refl

neutral_affine : join_affine identity_affine (join_affine (affine 6 7) identity_affine) ≡ affine 6 7
neutral_affine = refl

neutral_sum : join_sum identity_sum (join_sum (folded_sum 12) identity_sum) ≡ folded_sum 12
neutral_sum = refl
