-- The shape of a deque: each frame is a child of the one above it, and a frame that is no top has only the child below it.
use Rattle.std.specs.Prelude.{◌≡◌, refl, ◌≢◌, ◌⊎◌, Bool, true, false, ℕ, zero, suc, ◌<◌, length, get_or, set}
use Rattle.std.proofs.Common.{sym, ap, ◌∙◌, subst, inl, inr, get_or-set_same, get_or-set_other}
use mathlib.Core.List.Memᴰ.{append_left as In-left}
use mathlib.Core.List.Memᴰ.{append_right as In-right}
use mathlib.Core.List.Memᴰ.{cases_cons as In-cons}
use mathlib.Core.List.Memᴰ.{head as here}
use mathlib.Core.List.Memᴰ.{not-nil as not-in-nil}
use mathlib.Core.List.Memᴰ.{tail as there}
use mathlib.Core.List.{Memᴰ as In}
use mathlib.Core.List.{List, [], ◌∷◌, ◌++◌, tail-eq_of_cons-eq}
use Rattle.std.proofs.Math.Decide.{ℕ_discrete}
use Rattle.words.specs.Basics.{joined}
use Rattle.words.specs.Tests.{decided}
use Rattle.model.specs.Machine.{Name, Frame, Machine, live, deque, top, below_top, has_child, those, others}
use Rattle.model.specs.Steps.{Action, spawn, return, sync, read, write, fold, after_spawn}
use Rattle.model.proofs.Theory.LiveRun.{successors, Disjoint}
use Rattle.model.proofs.Theory.Effects.{in_those}

-- "Each frame in a deque is a child of the one above it."
abbrev pub Linked : List Frame → Type 0
Linked [] = Unit {0}
Linked (f ∷ []) = Unit {0}
Linked (f ∷ g ∷ d) = ((k : ℕ) × (f.name ≡ k ∷ g.name)) × Linked (g ∷ d)

-- "A frame that is not a top has only the child below it, if any." Of the frames of L, a child of such a frame has the name of
-- the one below it; of the bottom, a name that P allows
abbrev pub OnlyChild : List Frame → (Name → Type 0) → List Frame → Type 0
OnlyChild L P [] = Unit {0}
OnlyChild L P (g ∷ []) = Unit {0}
OnlyChild L P (g ∷ h ∷ d) = ((c : Frame) → In c L → (k : ℕ) → c.name ≡ k ∷ g.name → P c.name) × OnlyChild L (λ r. r ≡ g.name) (h ∷ d)

abbrev pub nothing : Name → Type 0
nothing r = ⊥

-- the deque d among the live frames L
abbrev pub DequeShape : List Frame → List Frame → Type 0
DequeShape L d = Linked d × OnlyChild L nothing d

pub record DequeInvariant (M : Machine) : Type 0 where
  pub shape : (v : ℕ) → DequeShape (live M) (deque M v)
  -- only suspended frames wait as returning
  pub active : (v : ℕ) (f : Frame) → In f (deque M v) → f.returning ≡ false
  -- "suspended with a live child"
  pub waits : (f : Frame) → In f M.suspended → has_child f.name (live M) ≡ true

-- ---- lists

pub linked_head : (f f' : Frame) (d : List Frame) → f'.name ≡ f.name → Linked (f ∷ d) → Linked (f' ∷ d)
linked_head f f' [] e l = tt
linked_head f f' (g ∷ d) e l = ((l.0.0, e ∙ l.0.1), l.1)

pub linked_tail : (f : Frame) (d : List Frame) → Linked (f ∷ d) → Linked d
linked_tail f [] l = tt
linked_tail f (g ∷ d) l = l.1

pub linked-below : (d : List Frame) → Linked d → Linked (below_top d)
linked-below [] l = tt
linked-below (f ∷ []) l = tt
linked-below (f ∷ g ∷ []) l = tt
linked-below (f ∷ g ∷ h ∷ d) l = (l.0, linked-below (g ∷ h ∷ d) l.1)

pub shape_top : (L d : List Frame) → DequeShape L (top d)
shape_top L [] = (tt, tt)
shape_top L (f ∷ []) = (tt, tt)
shape_top L (f ∷ g ∷ d) = shape_top L (g ∷ d)

pub only_below_lem : (L : List Frame) (P : Name → Type 0) (d : List Frame) → OnlyChild L P d → OnlyChild L P (below_top d)
only_below_lem L P [] s = tt
only_below_lem L P (f ∷ []) s = tt
only_below_lem L P (f ∷ g ∷ []) s = tt
only_below_lem L P (f ∷ g ∷ h ∷ d) s = (s.0, only_below_lem L (λ r. r ≡ f.name) (g ∷ h ∷ d) s.1)

-- a frame of the second list has the name of one of the first, or is no child of the deque's frames
abbrev Known : List Frame → List Frame → List Frame → Type 0
Known L L' d = (c : Frame) → In c L' → ((b : Frame) × In b L × (b.name ≡ c.name)) ⊎ ((g : Frame) → In g d → (k : ℕ) → c.name ≢ k ∷ g.name)

pub only_mono : (L L' : List Frame) (P : Name → Type 0) (d : List Frame) → Known L L' d → OnlyChild L P d → OnlyChild L' P d
only_mono L L' P [] n s = tt
only_mono L L' P (g ∷ []) n s = tt
only_mono L L' P (g ∷ h ∷ d) n s = (
  (λ c m k e. elim (n c m) [ inl b ↦ subst P b.2 (s.0 b.0 b.1 k (b.2 ∙ e)) | inr o ↦ absurd (o g (here refl) k e) ]),
  only_mono L L' (λ r. r ≡ g.name) (h ∷ d) (λ c m. elim (n c m) [ inl b ↦ inl b | inr o ↦ inr (λ x i. o x (there i)) ]) s.1,
)

only_weaken : (L : List Frame) (P Q : Name → Type 0) (g : Frame) (d : List Frame) → ((c : Frame) → In c L → (k : ℕ) → c.name ≡ k ∷ g.name → P c.name → Q c.name) → OnlyChild L P (g ∷ d) → OnlyChild L Q (g ∷ d)
only_weaken L P Q g [] h s = tt
only_weaken L P Q g (x ∷ d) h s = ((λ c m k e. h c m k e (s.0 c m k e)), s.1)

pub only_renamed : (L : List Frame) (P : Name → Type 0) (f f' : Frame) (d : List Frame) → f'.name ≡ f.name → OnlyChild L P (f ∷ d) → OnlyChild L P (f' ∷ d)
only_renamed L P f f' [] e s = tt
only_renamed L P f f' (g ∷ d) e s = ((λ c m k z. s.0 c m k (z ∙ ap (λ x. k ∷ x) e)), subst (λ z. OnlyChild L (λ r. r ≡ z) (g ∷ d)) (sym e) s.1)

in_deque_lem : {A : Type 0} {h : A} (ds : List (List A)) (v : ℕ) → In h (get_or ds v []) → In h (joined ds)
in_deque_lem [] v m = absurd (not-in-nil m)
in_deque_lem (d ∷ ds) zero m = In-left (joined ds) m
in_deque_lem (d ∷ ds) (suc v) m = In-right d (in_deque_lem ds v m)

pub in_joined : {A : Type 0} {h : A} (ds : List (List A)) (w v : ℕ) → v ≢ w → In h (get_or ds v []) → In h (joined (set ds w []))
in_joined [] w v ne m = absurd (not-in-nil m)
in_joined (d ∷ ds) zero zero ne m = absurd (ne refl)
in_joined (d ∷ ds) zero (suc v) ne m = in_deque_lem ds v m
in_joined (d ∷ ds) (suc w) zero ne m = In-left (joined (set ds w [])) m
in_joined (d ∷ ds) (suc w) (suc v) ne m = In-right d (in_joined ds w v (λ e. ne (ap suc e)) m)

pub shape_set : (L : List Frame) (ds : List (List Frame)) (w : ℕ) (D : List Frame) → w < length ds → DequeShape L D → ((v : ℕ) → v ≢ w → DequeShape L (get_or ds v [])) → (v : ℕ) → DequeShape L (get_or (set ds w D) v [])
shape_set L ds w D lt g others v =
    elim (ℕ_discrete v w) [
      | yes e ↦ subst (DequeShape L) (sym (ap (λ z. get_or (set ds w D) z []) e ∙ get_or-set_same ds w D [] lt)) g
      | no ne ↦ subst (DequeShape L) (sym (get_or-set_other ds w v D [] ne)) (others v ne)
    ]

-- ---- names are used once

pub disjoint_left : (a b : List Frame) → Disjoint (a ++ b) → Disjoint a
disjoint_left [] b c = tt
disjoint_left (f ∷ a) b c = ((λ g m r o o'. c.0 g (In-left b m) r o o'), disjoint_left a b c.1)

pub disjoint_right : (a b : List Frame) → Disjoint (a ++ b) → Disjoint b
disjoint_right [] b c = c
disjoint_right (f ∷ a) b c = disjoint_right a b c.1

pub disjoint_apart : (a b : List Frame) → Disjoint (a ++ b) → (g f : Frame) → In g a → In f b → g.name ≢ f.name
disjoint_apart [] b c g f mg mf e = not-in-nil mg
disjoint_apart (x ∷ a) b c g f mg mf e =
    elim (In-cons mg) [ inl d ↦ c.0 f (In-right a mf) x.name (inl refl) (inl (ap (λ z. z.name) (sym d) ∙ e)) | inr i ↦ disjoint_apart a b c.1 g f i mf e ]

-- a name has one frame
pub one_named : (L : List Frame) → Disjoint L → (f g : Frame) → In f L → In g L → f.name ≡ g.name → f ≡ g
one_named [] c f g mf mg e = absurd (not-in-nil mf)
one_named (x ∷ L) c f g mf mg e = elim (In-cons mf) [
  | inl df ↦ elim (In-cons mg) [ inl dg ↦ df ∙ sym dg | inr ig ↦ absurd (c.0 g ig x.name (inl refl) (inl (ap (λ z. z.name) (sym df) ∙ e))) ]
  | inr if' ↦ elim (In-cons mg) [ inl dg ↦ absurd (c.0 f if' x.name (inl refl) (inl (ap (λ z. z.name) (sym dg) ∙ sym e))) | inr ig ↦ one_named L c.1 f g if' ig e ]
]

pub in_others : (t : Frame → Bool) (l : List Frame) (f : Frame) → In f (others t l) → In f l × (t f ≡ false)
in_others t [] f m = absurd (not-in-nil m)
in_others t (g ∷ l) f m =
    elim (decided (t g)) [
      | inl s ↦ (let r = in_others t l f (rw s at m) in (there r.0, r.1))
      | inr s ↦ elim (In-cons (rw s at m)) [ inl e ↦ (here e, ap t e ∙ s) | inr i ↦ (let r = in_others t l f i in (there r.0, r.1)) ]
    ]

pub to_those : (t : Frame → Bool) (l : List Frame) (f : Frame) → In f l → t f ≡ true → In f (those t l)
to_those t [] f m e = absurd (not-in-nil m)
to_those t (g ∷ l) f m e =
    elim (In-cons m) [
      | inl d ↦ rw (ap t (sym d) ∙ e) (here d)
      | inr i ↦ elim (decided (t g)) [ inl s ↦ rw s (there (to_those t l f i e)) | inr s ↦ rw s (to_those t l f i e) ]
    ]

pub to_others : (t : Frame → Bool) (l : List Frame) (f : Frame) → In f l → t f ≡ false → In f (others t l)
to_others t [] f m e = absurd (not-in-nil m)
to_others t (g ∷ l) f m e =
    elim (In-cons m) [
      | inl d ↦ rw (ap t (sym d) ∙ e) (here d)
      | inr i ↦ elim (decided (t g)) [ inl s ↦ rw s (to_others t l f i e) | inr s ↦ rw s (there (to_others t l f i e)) ]
    ]

-- at most one frame has a name
pub shape_those : (L : List Frame) (t : Frame → Bool) (p : Name) (l : List Frame) → ((f : Frame) → t f ≡ true → f.name ≡ p) → Disjoint l → DequeShape L (those t l)
shape_those L t p [] n c = (tt, tt)
shape_those L t p (f ∷ l) n c =
    elim (decided (t f)) [
      | inl s ↦ rw s (single (those t l) (λ g m. let r = in_those t l g m in c.0 g r.0 p (inl (sym (n f s))) (inl (sym (n g r.1)))))
      | inr s ↦ rw s (shape_those L t p l n c.1)
    ]
  where
    single : (m : List Frame) → ((g : Frame) → In g m → ⊥) → DequeShape L (f ∷ m)
    single [] h = (tt, tt)
    single (g ∷ m) h = absurd (h g (here refl))

-- ---- what a step does to the deque of its worker

pub successors-names : (q : Frame) (a : Action) (c : Frame) → In c (successors q a) → (c.name ≡ q.name) ⊎ ((a ≡ spawn) × (c.name ≡ suc q.spawned ∷ q.name))
successors-names q spawn c (here e) = inr (refl, ap (λ z. z.name) e)
successors-names q spawn c (there (here e)) = inl (ap (λ z. z.name) e)
successors-names q return c (here e) = inl (ap (λ z. z.name) e)
successors-names q sync c (here e) = inl (ap (λ z. z.name) e)
successors-names q (read x) c (here e) = inl (ap (λ z. z.name) e)
successors-names q (fold x y) c (here e) = inl (ap (λ z. z.name) e)
successors-names q (write x v) c (here e) = inl (ap (λ z. z.name) e)
successors-names q spawn c (there (there x9)) = elim x9 [ ]
successors-names q return c (there x6) = elim x6 [ ]
successors-names q sync c (there x7) = elim x7 [ ]
successors-names q (read x) c (there x9) = elim x9 [ ]
successors-names q (write x v) c (there x10) = elim x10 [ ]
successors-names q (fold x y) c (there x11) = elim x11 [ ]

pub only_spawn : (L L' : List Frame) (q : Frame) (d : List Frame) → ((c : Frame) → In c L' → ((b : Frame) × In b L × (b.name ≡ c.name)) ⊎ (c.name ≡ suc q.spawned ∷ q.name))
    → ((x : Frame) → In x d → x.name ≢ q.name) → OnlyChild L nothing (q ∷ d) → OnlyChild L' (λ r. r ≡ suc q.spawned ∷ q.name) (after_spawn q ∷ d)
only_spawn L L' q [] known apart s = tt
only_spawn L L' q (g ∷ d) known apart s = (
  (λ c m k e. elim (known c m) [ inl b ↦ absurd (s.0 b.0 b.1 k (b.2 ∙ e)) | inr n ↦ n ]),
  only_mono L L' (λ r. r ≡ q.name) (g ∷ d) (λ c m. elim (known c m) [ inl b ↦ inl b | inr n ↦ inr (λ x i k e. apart x i (sym (tail-eq_of_cons-eq (sym n ∙ e)))) ]) s.1,
)

pub only_return : (L L' : List Frame) (q : Frame) (d : List Frame) → ((c : Frame) → In c L' → (b : Frame) × In b L × (b.name ≡ c.name))
    → ((c : Frame) → In c L' → c.name ≢ q.name) → OnlyChild L nothing (q ∷ d) → OnlyChild L' nothing d
only_return L L' q [] known apart s = tt
only_return L L' q (g ∷ []) known apart s = tt
only_return L L' q (g ∷ h ∷ d) known apart s =
    only_weaken L' (λ r. r ≡ q.name) nothing g (h ∷ d) (λ c m k e n. apart c m n) (only_mono L L' (λ r. r ≡ q.name) (g ∷ h ∷ d) (λ c m. inl (known c m)) s.1)
