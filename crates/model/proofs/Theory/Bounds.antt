-- At most as many frames live as there are places; each has a value for each splitter, and its writes were to splitters below n.
use Rattle.std.specs.Prelude.{◌≡◌, refl, ℕ, ◌≤◌, ◌<◌, length}
use Rattle.std.proofs.Common.{sym, ◌∙◌, subst, inl, inr, arith, length-set}
use mathlib.Core.List.Memᴰ.{append_cases as In-cases}
use mathlib.Core.List.Memᴰ.{cases_cons as In-cons}
use mathlib.Core.List.Memᴰ.{eq_of_singleton as In-one}
use mathlib.Core.List.Memᴰ.{head as here}
use mathlib.Core.List.Memᴰ.{not-nil as not-in-nil}
use mathlib.Core.List.Memᴰ.{tail as there}
use mathlib.Core.List.{Memᴰ as In}
use mathlib.Core.List.Permᴰ
use mathlib.Core.List.{List, ◌∷◌, ◌++◌, Permᴰ}
use Rattle.words.specs.Lists.{In-perm, perm_length}
use Rattle.model.specs.History.{Event}
use Rattle.model.specs.Machine.{Frame, Machine, live, start}
use Rattle.model.specs.Steps.{Action, spawn, return, sync, read, write, fold, Turn, written, after_turn}
use Rattle.model.proofs.Theory.LiveRun.{successors, Allowed}
use Rattle.model.proofs.Theory.Effects.{Passes, live-start}
use Rattle.model.proofs.Theory.RunSteps.{live_kept}

pub record Sized (n : ℕ) (f : Frame) : Type 0 where
  pub values : length f.values ≡ n
  pub writes : (v : Event) → In v f.history → v.splitter < n

abbrev pub Bounded : ℕ → ℕ → List Frame → Type 0
Bounded n places L = (length L ≤ places) × ((f : Frame) → In f L → Sized n f)

bounded_perm : (n places : ℕ) {L L' : List Frame} → Permᴰ L L' → Bounded n places L → Bounded n places L'
bounded_perm n places p b = (omega (arith, b.0, perm_length p), λ f m. b.1 f (In-perm (Permᴰ.symm p) m))

sized_written : (n : ℕ) (q : Frame) (x v : ℕ) → x < n → Sized n q → Sized n (written q x v)
sized_written n q x v h k = record {
  values = length-set q.values x v ∙ k.values;
  writes = λ e m. elim (In-cons m) [ inl d ↦ rw d h | inr i ↦ k.writes e i ];
}

sized_successor : (n nodes places : ℕ) (q : Frame) (R : List Frame) (a : Action) → Allowed n nodes places q R a → Sized n q → (f : Frame) → In f (successors q a) → Sized n f
sized_successor n nodes places q R spawn ok k f (here e) = rw e (record { values = k.values; writes = k.writes })
sized_successor n nodes places q R spawn ok k f (there (here e)) = rw e (record { values = k.values; writes = k.writes })
sized_successor n nodes places q R return ok k f (here e) = rw e (record { values = k.values; writes = k.writes })
sized_successor n nodes places q R sync ok k f (here e) = rw e k
sized_successor n nodes places q R (read x) ok k f (here e) = rw e k
sized_successor n nodes places q R (fold x y) ok k f (here e) = rw e k
sized_successor n nodes places q R (write x v) ok k f (here e) = rw e (sized_written n q x v ok.0 k)
sized_successor n nodes places q R spawn ok k f (there (there x11)) = elim x11 [ ]
sized_successor n nodes places q R return ok k f (there x8) = elim x8 [ ]
sized_successor n nodes places q R sync ok k f (there x9) = elim x9 [ ]
sized_successor n nodes places q R (read x) ok k f (there x11) = elim x11 [ ]
sized_successor n nodes places q R (write x v) ok k f (there x12) = elim x12 [ ]
sized_successor n nodes places q R (fold x y) ok k f (there x13) = elim x13 [ ]

few_acted : (n nodes places : ℕ) (q : Frame) (a : Action) (R : List Frame) → Allowed n nodes places q R a → length (q ∷ R) ≤ places → length (successors q a ++ R) ≤ places
few_acted n nodes places q spawn R ok h = ok
few_acted n nodes places q return R ok h = h
few_acted n nodes places q sync R ok h = h
few_acted n nodes places q (read x) R ok h = h
few_acted n nodes places q (fold x y) R ok h = h
few_acted n nodes places q (write x v) R ok h = h

bounded_acted : (n nodes places : ℕ) (q : Frame) (a : Action) (R : List Frame) → Allowed n nodes places q R a → Bounded n places (q ∷ R) → Bounded n places (successors q a ++ R)
bounded_acted n nodes places q a R ok b = (
  few_acted n nodes places q a R ok b.0,
  λ f m. elim (In-cases (successors q a) m) [ inl i ↦ sized_successor n nodes places q R a ok (b.1 q (here refl)) f i | inr i ↦ b.1 f (there i) ],
)

pub bounded_turn : (M : Machine) (t : Turn) → Passes M t → Bounded M.splitters M.places (live M) → Bounded M.splitters M.places (live (after_turn M t))
bounded_turn M = live_kept (Bounded M.splitters M.places) M (λ L L'. bounded_perm M.splitters M.places) (λ q a R p. bounded_acted M.splitters M.nodes M.places q a R) (λ q R e b. (omega (arith, b.0), λ f m. b.1 f (there m)))

pub bounded_start : (w : ℕ) (vs : List ℕ) (nodes places : ℕ) → 1 ≤ places → Bounded (length vs) places (live (start w vs nodes places))
bounded_start w vs nodes places h = subst (Bounded (length vs) places) (sym (live-start w vs nodes places)) (
  omega arith,
  λ f m. rw (In-one m) (record { values = refl; writes = λ v i. absurd (not-in-nil i) }),
)
