-- A run without its deques: the live frames, in any order, and what each step puts in the place of the frame that takes it.
use Rattle.std.specs.Prelude.{◌≡◌, refl, true, false, ℕ, ◌≤◌, ◌<◌, length}
use Rattle.std.proofs.Common.{sym, ap, ◌∙◌, inl, inr}
use mathlib.Core.List.Memᴰ.{cases_cons as In-cons}
use mathlib.Core.List.Memᴰ.{head as here}
use mathlib.Core.List.Memᴰ.{tail as there}
use mathlib.Core.List.{Memᴰ as In}
use mathlib.Core.List.Permᴰ
use mathlib.Core.List.{List, [], ◌∷◌, ◌++◌, Permᴰ}
use Rattle.words.specs.Tests.{true≢false}
use Rattle.words.specs.Lists.{In-perm}
use Rattle.model.specs.Machine.{Name, Frame, depth, has_child, in_use}
use Rattle.model.specs.Steps.{Action, spawn, return, sync, read, write, fold, reducers, child, after_spawn, as_returning, written}
use Rattle.model.specs.Run.{Entry, entry}
use Rattle.model.proofs.Theory.Names.{owns, owns_weaker, owns-child, owns_apart}
use Rattle.model.proofs.Theory.Extends.{Extends, extends_same, extends_written}

-- what stands in the place of q after its step
abbrev pub successors : Frame → Action → List Frame
successors q spawn = child q ∷ after_spawn q ∷ []
successors q return = as_returning q ∷ []
successors q sync = q ∷ []
successors q (read x) = q ∷ []
successors q (fold x y) = q ∷ []
successors q (write x v) = written q x v ∷ []

-- one of them stands for q itself
pub record Successor (q : Frame) (a : Action) : Type 0 where
  pub frame : Frame
  pub new : In frame (successors q a)
  pub named : frame.name ≡ q.name
  pub extends : Extends (depth q) q.history frame.history

pub successor : (q : Frame) (a : Action) → Successor q a
successor q spawn = record { frame = after_spawn q; new = there (here refl); named = refl; extends = extends_same (depth q) q.history }
successor q return = record { frame = as_returning q; new = here refl; named = refl; extends = extends_same (depth q) q.history }
successor q sync = record { frame = q; new = here refl; named = refl; extends = extends_same (depth q) q.history }
successor q (read x) = record { frame = q; new = here refl; named = refl; extends = extends_same (depth q) q.history }
successor q (fold x y) = record { frame = q; new = here refl; named = refl; extends = extends_same (depth q) q.history }
successor q (write x v) = record { frame = written q x v; new = here refl; named = refl; extends = extends_written q x v }

-- what the tests 13 to 16 and 20 leave to be known of an accepted step of q, a live frame beside R
abbrev pub Allowed : ℕ → ℕ → ℕ → Frame → List Frame → Action → Type 0
Allowed n nodes places q R spawn = length (q ∷ R) < places
Allowed n nodes places q R return = Unit {0}
Allowed n nodes places q R sync = Unit {0}
Allowed n nodes places q R (read x) = x < n
Allowed n nodes places q R (fold r x) = r < reducers
Allowed n nodes places q R (write x v) = (x < n) × (in_use n (written q x v ∷ R) ≤ nodes)

-- q, one of the frames q and R, ends: it has returned, and has no live child
abbrev pub Ends : Frame → List Frame → Type 0
Ends q R = (q.returning ≡ true) × (has_child q.name (q ∷ R) ≡ false)

-- from the live frames L the steps es, each allowed, lead to no frame; the frames' order does not matter. A return only marks
-- its frame, which ends later, without a step
pub data LiveRun (n nodes places : ℕ) : List Frame → List Entry → Type 0 where
  ended : LiveRun n nodes places [] []
  dropped : {L : List Frame} {es : List Entry} (q : Frame) (R : List Frame) → Permᴰ L (q ∷ R) → Ends q R → LiveRun n nodes places R es → LiveRun n nodes places L es
  moved : {L L' : List Frame} {es : List Entry} → Permᴰ L L' → LiveRun n nodes places L' es → LiveRun n nodes places L es
  acted : {L L' : List Frame} {es : List Entry} (q : Frame) (a : Action) (R : List Frame)
      → Permᴰ L (q ∷ R) → q.returning ≡ false → Allowed n nodes places q R a → Permᴰ (successors q a ++ R) L' → LiveRun n nodes places L' es → LiveRun n nodes places L (entry q a ∷ es)

-- ---- frames that end, one after the other

pub data Settles : List Frame → List Frame → Type 0 where
  settled : {L L' : List Frame} → Permᴰ L L' → Settles L L'
  drops : {L L' : List Frame} (q : Frame) (R : List Frame) → Permᴰ L (q ∷ R) → Ends q R → Settles R L' → Settles L L'

pub settles_perm : {L L' L'' : List Frame} → Permᴰ L L' → Settles L' L'' → Settles L L''
settles_perm p (settled p') = settled (Permᴰ.trans p p')
settles_perm p (drops q R p' e k) = drops q R (Permᴰ.trans p p') e k

pub settles_run : {n nodes places : ℕ} {L L' : List Frame} {es : List Entry} → Settles L L' → LiveRun n nodes places L' es → LiveRun n nodes places L es
settles_run (settled p) g = moved p g
settles_run (drops q R p e k) g = dropped q R p e (settles_run k g)

-- what does not depend on the frames' order, and stays where one ends
pub settles_kept : (P : List Frame → Type 0) → ((L L' : List Frame) → Permᴰ L L' → P L → P L') → ((q : Frame) (R : List Frame) → Ends q R → P (q ∷ R) → P R)
    → {L L' : List Frame} → Settles L L' → P L → P L'
settles_kept P perm drop (settled {L = L} {L' = L'} p) i = perm L L' p i
settles_kept P perm drop (drops {L = L} q R p e k) i = settles_kept P perm drop k (drop q R e (perm L (q ∷ R) p i))

-- ---- no two live frames own a name: so names are unique, now and later

abbrev pub Owns : Frame → Name → Type 0
Owns f r = owns f.name f.spawned r

abbrev pub Apart : Frame → List Frame → Type 0
Apart f L = (g : Frame) → In g L → (r : Name) → Owns f r → Owns g r → ⊥

abbrev pub Disjoint : List Frame → Type 0
Disjoint [] = Unit {0}
Disjoint (f ∷ L) = Apart f L × Disjoint L

pub disjoint_perm : {L L' : List Frame} → Permᴰ L L' → Disjoint L → Disjoint L'
disjoint_perm Permᴰ.nil c = c
disjoint_perm (Permᴰ.cons e p) c = ((λ g m r o o'. c.0 g (In-perm (Permᴰ.symm p) m) r (rw e o) o'), disjoint_perm p c.1)
disjoint_perm (Permᴰ.swap {a = a} {b = b} {a' = a'} {b' = b'} e e') c = (
  (λ g m r o o'. elim (In-cons m) [ inl d ↦ c.0 b (here refl) r (rw (e, ← d) o') (rw e' o) | inr h ↦ c.1.0 g h r (rw e' o) o' ]),
  ((λ g m r o o'. c.0 g (there m) r (rw e o) o'), c.1.1),
)
disjoint_perm (Permᴰ.trans p q) c = disjoint_perm q (disjoint_perm p c)

-- what takes a frame's place owns only what it owned
pub successors_owned : (q : Frame) (a : Action) (g : Frame) (r : Name) → In g (successors q a) → Owns g r → Owns q r
successors_owned q spawn g r (here e) o = owns-child q.name q.spawned r (rw e at o)
successors_owned q spawn g r (there (here e)) o = owns_weaker q.name q.spawned r (rw e at o)
successors_owned q return g r (here e) o = rw e at o
successors_owned q sync g r (here e) o = rw e at o
successors_owned q (read x) g r (here e) o = rw e at o
successors_owned q (fold x y) g r (here e) o = rw e at o
successors_owned q (write x v) g r (here e) o = rw e at o
successors_owned q spawn g r (there (there x11)) o = elim x11 [ ]
successors_owned q return g r (there x7) o = elim x7 [ ]
successors_owned q sync g r (there x8) o = elim x8 [ ]
successors_owned q (read x) g r (there x10) o = elim x10 [ ]
successors_owned q (write x v) g r (there x11) o = elim x11 [ ]
successors_owned q (fold x y) g r (there x12) o = elim x12 [ ]

pub disjoint_acted : (q : Frame) (a : Action) (R : List Frame) → Disjoint (q ∷ R) → Disjoint (successors q a ++ R)
disjoint_acted q spawn R c = (
  (λ g m r o o'. elim (In-cons m) [ inl e ↦ owns_apart q.name q.spawned r o (rw e at o') | inr h ↦ c.0 g h r (owns-child q.name q.spawned r o) o' ]),
  ((λ g m r o o'. c.0 g m r (owns_weaker q.name q.spawned r o) o'), c.1),
)
disjoint_acted q return R c = c
disjoint_acted q sync R c = c
disjoint_acted q (read x) R c = c
disjoint_acted q (fold x y) R c = c
disjoint_acted q (write x v) R c = c

-- ---- backward along a LiveRun whose frames own disjoint names

module _ (n nodes places : ℕ) (P : List Entry → List Frame → Type 0) where
  -- a property that does not depend on the frames' order, and that holds before a step if it holds after it
  pub backward : P [] [] → ((L L' : List Frame) (es : List Entry) → Permᴰ L L' → P es L' → P es L)
      → ((L : List Frame) (es : List Entry) (q : Frame) (R : List Frame) → Permᴰ L (q ∷ R) → Ends q R → P es R → P es L)
      → ((L L' : List Frame) (es : List Entry) (q : Frame) (a : Action) (R : List Frame) → Permᴰ L (q ∷ R) → q.returning ≡ false → Allowed n nodes places q R a → Permᴰ (successors q a ++ R) L'
      → LiveRun n nodes places L' es → Disjoint (q ∷ R) → P es L' → P (entry q a ∷ es) L)
      → {L : List Frame} {es : List Entry} → LiveRun n nodes places L es → Disjoint L → P es L
  backward none move drop act ended c = none
  backward none move drop act (moved {L = L} {L' = L'} {es = es} p g) c = move L L' es p (backward none move drop act g (disjoint_perm p c))
  backward none move drop act (dropped {L = L} {es = es} q R p e g) c = drop L es q R p e (backward none move drop act g (disjoint_perm p c).1)
  backward none move drop act (acted {L = L} {L' = L'} {es = es} q a R p on ok p' g) c =
      let cq = disjoint_perm p c in
      act L L' es q a R p on ok p' g cq (backward none move drop act g (disjoint_perm p' (disjoint_acted q a R cq)))

-- a frame that has returned takes no step, and none of its children is still to come
pub gone_returned : (q f : Frame) → f ≡ as_returning q → f.returning ≡ false → ⊥
gone_returned q f e h = true≢false (ap (λ z. z.returning) (sym e) ∙ h)
