-- Membership and permutations of lists, and of lists joined.
use Rattle.std.specs.Prelude.{◌≡◌, ℕ, zero, suc, ◌<◌, List, [], ◌∷◌, ◌++◌, length, replicate, slice_set, refl}
use Rattle.std.proofs.Common.{ap, ◌∙◌, arith}
use mathlib.Core.List.Memᴰ.{head as here}
use mathlib.Core.List.Memᴰ.{tail as there}
use mathlib.Core.List.{Memᴰ as In}
use mathlib.Core.List.Permᴰ
use mathlib.Core.List.{Permᴰ}
use Rattle.words.specs.Basics.{joined}

pub In-perm : {A : Type 0} {x : A} {l m : List A} → Permᴰ l m → In x l → In x m
In-perm Permᴰ.nil h = h
In-perm (Permᴰ.cons e p) (here d) = here (d ∙ e)
In-perm (Permᴰ.cons e p) (there h) = there (In-perm p h)
In-perm (Permᴰ.swap e e') (here d) = there (here (d ∙ e))
In-perm (Permᴰ.swap e e') (there (here d)) = here (d ∙ e')
In-perm (Permᴰ.swap e e') (there (there h)) = there (there h)
In-perm (Permᴰ.trans p q) h = In-perm q (In-perm p h)

pub perm_length : {A : Type 0} {l m : List A} → Permᴰ l m → length l ≡ length m
perm_length Permᴰ.nil = refl
perm_length (Permᴰ.cons e p) = ap suc (perm_length p)
perm_length (Permᴰ.swap e e') = refl
perm_length (Permᴰ.trans p q) = perm_length p ∙ perm_length q

pub perm_swap : {A : Type 0} (a b c : List A) → Permᴰ (a ++ (b ++ c)) (b ++ (a ++ c))
perm_swap [] b c = Permᴰ.refl (b ++ c)
perm_swap (x ∷ a) b c = Permᴰ.trans (Permᴰ.cons refl (perm_swap a b c)) (Permᴰ.symm (Permᴰ.middle x b (a ++ c)))

-- one of the lists put in another's place
pub joined-set : {A : Type 0} (ds : List (List A)) (w : ℕ) (d : List A) → w < length ds → Permᴰ (joined (slice_set ds w d)) (d ++ joined (slice_set ds w []))
joined-set [] w d h = absurd (omega arith)
joined-set (c ∷ ds) zero d h = Permᴰ.refl (d ++ joined ds)
joined-set (c ∷ ds) (suc w) d h = Permᴰ.trans (Permᴰ.append_left c (joined-set ds w d (omega arith))) (perm_swap c d (joined (slice_set ds w [])))

pub joined_empty : {A : Type 0} (n : ℕ) → ◌≡◌ {A = List A} (joined (replicate n [])) []
joined_empty zero = refl
joined_empty (suc n) = joined_empty n
