-- The view of a list of (reducer, value): one list after another is joined, and each reducer's part is "the identity joined with the values folded
-- into its reducer".
use Rattle.std.specs.Prelude.{◌≡◌, refl, false, cond, List, [], ◌∷◌, ◌++◌, map, ℕ, zero, suc, ◌*◌, ◌<◌, eqb, ltb}
use Rattle.std.proofs.Common.{sym, ap, ap₂, ◌∙◌, inl, inr, zero-mul, one-mul, arith, ne_eqb}
use Rattle.words.specs.Basics.{none, plus, times}
use Rattle.words.specs.Tests.{decided, lt_of, nltb_of, ge_of}
use Rattle.reducers.specs.declared.Sum.{Sum}
use Rattle.reducers.specs.declared.Min.{Min}
use Rattle.reducers.specs.declared.Affine.{Affine}
use Rattle.reducers.specs.declared.View.{View}
use Rattle.reducers.specs.Reducers.{identity_sum, identity_min, identity_affine, join_sum, join_min, join_affine, folded_sum, folded_min, folded_affine, identity_view, join_view, fold_view, joined_from, total_sum, total_min, total_affine, values_into, view_from, view_of}
use Rattle.reducers.specs.Law.{MinWord, ViewWord}
use Rattle.reducers.specs.Theory.Modulo.{mul_mod_mod}
use Rattle.reducers.proofs.Theory.Laws.{sum_law, min_law, affine_law, view_law, view_eq}

-- ---- values of any size: the identity joined on the left reduces one to a word, which a join on its left does not see

sum-value : (a : Sum) (v : ℕ) → join_sum a (join_sum identity_sum (folded_sum v)) ≡ join_sum a (folded_sum v)
sum-value a v = ap folded_sum (omega arith)

min_word : (a : Min) (v : ℕ) → MinWord a → MinWord (join_min a (folded_min v))
min_word a v p = elim (decided (ltb v a.value)) [ inl e ↦ rw e (omega (arith, lt_of {a = v} {b = a.value} e)) | inr e ↦ rw e p ]

min_value : (a : Min) (v : ℕ) → MinWord a → join_min a (join_min identity_min (folded_min v)) ≡ join_min a (folded_min v)
min_value a v p = elim (decided (ltb v none)) [
  | inl e ↦ rw e
  | inr e ↦ rw (e, nltb_of {a = none} {b = a.value} (omega arith), nltb_of {a = v} {b = a.value} (omega (arith, ge_of {a = v} {b = none} e)))
]

affine_value : (a : Affine) (v : ℕ) → join_affine a (join_affine identity_affine (folded_affine v)) ≡ join_affine a (folded_affine v)
affine_value a v = ap₂ (λ (m d : ℕ). record { multiplier = m; addend = d }) (product a.multiplier) (ap₂ plus (product a.addend) constant ∙ omega arith)
  where
    b : Affine
    b = folded_affine v

    product : (x : ℕ) → times x (times 1 b.multiplier) ≡ times x b.multiplier
    product x = mul_mod_mod 4294967296 x (1 * b.multiplier) ∙ ap (times x) (one-mul b.multiplier)

    constant : plus (times 0 b.multiplier) b.addend ≡ b.addend
    constant = rw (zero-mul b.multiplier) (omega arith)

-- ---- words

-- of any value: sums and products are taken modulo 4,294,967,296, and a minimum is at most what it was
pub fold_word : (w : View) (r v : ℕ) → ViewWord w → ViewWord (fold_view w r v)
unfolding fold_view
fold_word w zero v p = (omega arith, p.1, p.2)
fold_word w (suc zero) v p = (p.0, min_word w.min v p.1, p.2)
fold_word w (suc (suc zero)) v p = (p.0, p.1, (omega arith, omega arith))
fold_word w (suc (suc (suc r))) v p = p

pub from_word : (w : View) (l : List (ℕ × ℕ)) → ViewWord w → ViewWord (view_from w l)
from_word w [] p = p
from_word w (x ∷ l) p = from_word (fold_view w x.0 x.1) l (fold_word w x.0 x.1 p)

pub view_word_lem : (l : List (ℕ × ℕ)) → ViewWord (view_of l)
view_word_lem l = from_word identity_view l view_law.identity_word

-- ---- one list after another

pub from_append : (w : View) (a b : List (ℕ × ℕ)) → view_from w (a ++ b) ≡ view_from (view_from w a) b
from_append w [] b = refl
from_append w (x ∷ a) b = from_append (fold_view w x.0 x.1) a b

-- one more value
pub view_snoc : (l : List (ℕ × ℕ)) (r v : ℕ) → view_of (l ++ ((r, v) ∷ [])) ≡ fold_view (view_of l) r v
view_snoc l r v = from_append identity_view l ((r, v) ∷ [])

-- a value folded is the view of that value, joined on the right
pub fold_join : (w : View) (r v : ℕ) → ViewWord w → fold_view w r v ≡ join_view w (fold_view identity_view r v)
unfolding fold_view
fold_join w zero v p = sym (view_eq (sum-value w.sum v) (min_law.right w.min p.1) (affine_law.right w.affine p.2))
fold_join w (suc zero) v p = sym (view_eq (sum_law.right w.sum p.0) (min_value w.min v p.1) (affine_law.right w.affine p.2))
fold_join w (suc (suc zero)) v p = sym (view_eq (sum_law.right w.sum p.0) (min_law.right w.min p.1) (affine_value w.affine v))
fold_join w (suc (suc (suc r))) v p = sym (view_law.right w p)

pub from_join : (w : View) (l : List (ℕ × ℕ)) → ViewWord w → view_from w l ≡ join_view w (view_of l)
from_join w [] p = sym (view_law.right w p)
from_join w (x ∷ l) p =
    let one = fold_view identity_view x.0 x.1 in
    let one_word : ViewWord one = fold_word identity_view x.0 x.1 view_law.identity_word in
    from_join (fold_view w x.0 x.1) l (fold_word w x.0 x.1 p)
    ∙ ap (λ (u : View). join_view u (view_of l)) (fold_join w x.0 x.1 p)
    ∙ view_law.grouping w one (view_of l) p one_word (view_word_lem l)
    ∙ ap (join_view w) (sym (from_join one l one_word))

pub view_append : (a b : List (ℕ × ℕ)) → view_of (a ++ b) ≡ join_view (view_of a) (view_of b)
view_append a b = from_append identity_view a b ∙ from_join (view_of a) b (view_word_lem a)

-- ---- the total of each reducer: "the identity joined with the values folded into its reducer"

-- a part of the view that changes with the values folded into reducer k, and with no others
module _ {A : Type 0} (part : View → A) (join : A → A → A) (folded : ℕ → A) (k : ℕ) (step : (w : View) (r v : ℕ) → part (fold_view w r v) ≡ cond (eqb r k) (join (part w) (folded v)) (part w)) where
  part_from : (w : View) (l : List (ℕ × ℕ)) → part (view_from w l) ≡ joined_from join (part w) (map folded (values_into k l))
  part_from w [] = refl
  part_from w (x ∷ l) = part_from (fold_view w x.0 x.1) l ∙ elim (decided (eqb x.0 k)) [
    | inl e ↦ rw (step w x.0 x.1, e)
    | inr e ↦ rw (step w x.0 x.1, e)
  ]

-- a number from 3 on is none of 0, 1 and 2
no_reducer : (k r : ℕ) → k < 3 → eqb (suc (suc (suc r))) k ≡ false
no_reducer k r h = ne_eqb (suc (suc (suc r))) k (λ e. omega arith)

sum_step : (w : View) (r v : ℕ) → (fold_view w r v).sum ≡ cond (eqb r 0) (join_sum w.sum (folded_sum v)) w.sum
unfolding fold_view
sum_step w zero v = refl
sum_step w (suc zero) v = refl
sum_step w (suc (suc zero)) v = refl
sum_step w (suc (suc (suc r))) v = rw (no_reducer 0 r (omega arith))

min_step : (w : View) (r v : ℕ) → (fold_view w r v).min ≡ cond (eqb r 1) (join_min w.min (folded_min v)) w.min
unfolding fold_view
min_step w zero v = refl
min_step w (suc zero) v = refl
min_step w (suc (suc zero)) v = refl
min_step w (suc (suc (suc r))) v = rw (no_reducer 1 r (omega arith))

affine_step : (w : View) (r v : ℕ) → (fold_view w r v).affine ≡ cond (eqb r 2) (join_affine w.affine (folded_affine v)) w.affine
unfolding fold_view
affine_step w zero v = refl
affine_step w (suc zero) v = refl
affine_step w (suc (suc zero)) v = refl
affine_step w (suc (suc (suc r))) v = rw (no_reducer 2 r (omega arith))

pub sum-total : (l : List (ℕ × ℕ)) → (view_of l).sum ≡ total_sum (values_into 0 l)
sum-total l = part_from (λ (w : View). w.sum) join_sum folded_sum 0 sum_step identity_view l

pub min_total : (l : List (ℕ × ℕ)) → (view_of l).min ≡ total_min (values_into 1 l)
min_total l = part_from (λ (w : View). w.min) join_min folded_min 1 min_step identity_view l

pub affine_total : (l : List (ℕ × ℕ)) → (view_of l).affine ≡ total_affine (values_into 2 l)
affine_total l = part_from (λ (w : View). w.affine) join_affine folded_affine 2 affine_step identity_view l
