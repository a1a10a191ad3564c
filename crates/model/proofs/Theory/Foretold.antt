-- A frame's clock at its end, foretold by its clock, its children's and the steps that are left. Neither a step nor a frame's end
-- alters what is foretold of Main.
use Rattle.std.specs.Prelude.{◌≡◌, refl, ◌≢◌, Bool, true, false, cond, not, ◌&&◌, List, [], ◌∷◌, ◌++◌, map, ℕ, suc, max}
use Rattle.std.proofs.Common.{sym, ap, ap₂, ◌∙◌, inl, inr, arith}
use mathlib.Core.List.Memᴰ
use mathlib.Core.List.Memᴰ.{cases_cons as In-cons}
use mathlib.Core.List.Memᴰ.{head as here}
use mathlib.Core.List.Memᴰ.{map as In-map}
use mathlib.Core.List.Memᴰ.{tail as there}
use mathlib.Core.List.{Memᴰ as In}
use Rattle.words.specs.Basics.{same}
use Rattle.words.specs.Tests.{decided}
use Rattle.words.specs.Distinct.{same_eq, same_ne, same_refl, same_of, same_differ}
use Rattle.words.specs.NoDup.{NoDup}
use Rattle.model.specs.Machine.{Name, Frame, Machine, live, is_empty, is_child, has_frame}
use Rattle.model.specs.Steps.{Action, spawn, return, sync, read, write, fold, child}
use Rattle.model.specs.Run.{Entry, entry, entries_of}
use Rattle.model.specs.Clocks.{Clock, ticked, passed, waiting, moved, clocks_moved, Final, best, heard, final_clock, woken, settle}
use Rattle.model.proofs.Theory.Totals.{counted, counted_other, counted-child, counted_own}
use Rattle.model.proofs.Theory.SettleClocks.{listening, best-append, best_yes, best_not, best_zero, clock_names, woken_name}
use Rattle.model.proofs.Theory.TraceFold.{Algebra, combine, along_trace, along_skip, along_mine, along_none}

-- ---- a frame's clock at its end, from its clock, the latest of its ended children's and the steps that are left

abbrev pub Ahead : Type 0
Ahead = ℕ → ℕ → ℕ

abbrev pub ahead_of : Action → Ahead → Ahead
ahead_of spawn on c l = on c l
ahead_of return on c l = on c l
ahead_of sync on c l = on (suc (max c l)) l
ahead_of (read x) on c l = on (suc c) l
ahead_of (write x v) on c l = on (suc c) l
ahead_of (fold r x) on c l = on (suc c) l

abbrev pub span_algebra : Algebra Ahead
span_algebra = record { none = λ c l. max c l; at_spawn = λ inner after c l. after (suc c) (max l (inner (suc c) 0)); at_other = ahead_of }

abbrev pub final : List Entry → Name → ℕ → Ahead
final es p k = along_trace span_algebra es p k

-- a sync that waits passes first
abbrev pub foretold : (Name → ℕ) → List Entry → Clock → ℕ
foretold s es c = final es c.name (suc (s c.name)) (cond c.waits (suc (max c.clock c.latest)) c.clock) c.latest

-- the frames in their order, each hearing those before it
abbrev pub foretell : (Name → ℕ) → List Entry → List Final → List Clock → List Final
foretell s es P [] = P
foretell s es P (c ∷ cs) = foretell s es ((c.name, foretold s es (heard P c)) ∷ P) cs

-- for the frames cs, and for Main, the two lists are as good
abbrev Alike : List Final → List Final → List Clock → Type 0
Alike P P' cs = (best is_empty P ≡ best is_empty P') × ((c : Clock) → In c cs → best (is_child c.name) P ≡ best (is_child c.name) P')

best_cons : (t : Name → Bool) (f : Final) (P P' : List Final) → best t P ≡ best t P' → best t (f ∷ P) ≡ best t (f ∷ P')
best_cons t f P P' e = ap (λ m. cond (t f.0) (max f.1 m) m) e

foretell_alike : (s : Name → ℕ) (es : List Entry) (P P' : List Final) (cs : List Clock) → Alike P P' cs → best is_empty (foretell s es P cs) ≡ best is_empty (foretell s es P' cs)
foretell_alike s es P P' [] h = h.0
foretell_alike s es P P' (c ∷ cs) h =
    let x = ap (λ b. foretold s es (listening c (max c.latest b))) (h.1 c (here refl)) in
    ap (λ z. best is_empty (foretell s es ((c.name, z) ∷ P) cs)) x
    ∙ foretell_alike s es ((c.name, foretold s es (heard P' c)) ∷ P) ((c.name, foretold s es (heard P' c)) ∷ P') cs
    (best_cons is_empty (c.name, foretold s es (heard P' c)) P P' h.0, λ d m. best_cons (is_child d.name) (c.name, foretold s es (heard P' c)) P P' (h.1 d (there m)))

-- ---- frames that end, and syncs that pass

-- no live frame is a child of p
abbrev pub Childless : Machine → Name → Type 0
Childless M p = (r : Name) → has_frame r (live M) ≡ true → is_child p r ≡ false

-- what is known of c when M is the machine after a step, and es the trace that is left
pub record Ready (M : Machine) (es : List Entry) (c : Clock) : Type 0 where
  pub over : has_frame c.name (live M) ≡ false → (c.waits ≡ false) × (entries_of c.name es ≡ []) × Childless M c.name
  pub wakes : c.waits ≡ true → has_frame c.name M.suspended ≡ false → Childless M c.name

max_swap : (a b p : ℕ) → max a (max p b) ≡ max (max a b) p
max_swap a b p = omega arith

woken-same : (M : Machine) (s : Name → ℕ) (es : List Entry) (P D : List Final) (c : Clock) → (c.waits ≡ true → has_frame c.name M.suspended ≡ false → best (is_child c.name) P ≡ 0)
    → foretold s es (heard (P ++ D) c) ≡ foretold s es (heard P (woken M.suspended (heard D c)))
woken-same M s es P D c h = ap (λ b. foretold s es (listening c (max c.latest b))) (best-append (is_child c.name) P D) ∙ by_cases c.waits (has_frame c.name M.suspended) h
  where
    p : ℕ
    p = best (is_child c.name) P

    b : ℕ
    b = best (is_child c.name) D

    ahead : ℕ → ℕ → ℕ
    ahead = final es c.name (suc (s c.name))

    Goal : Bool → Bool → Type 0
    Goal w h = ahead (cond w (suc (max c.clock (max c.latest (max p b)))) c.clock) (max c.latest (max p b))
        ≡ foretold s es (heard P (cond (w && not h) (record { name = c.name; clock = suc (max c.clock (max c.latest b)); latest = max c.latest b; waits = false })
        (record { name = c.name; clock = c.clock; latest = max c.latest b; waits = w })))

    quiet : (w : Bool) → ahead (cond w (suc (max c.clock (max c.latest (max p b)))) c.clock) (max c.latest (max p b)) ≡ ahead (cond w (suc (max c.clock (max (max c.latest b) p))) c.clock) (max (max c.latest b) p)
    quiet w = ap (λ l. ahead (cond w (suc (max c.clock l)) c.clock) l) (max_swap c.latest b p)

    by_cases : (w h' : Bool) → (w ≡ true → h' ≡ false → p ≡ 0) → Goal w h'
    by_cases false h' z = quiet false
    by_cases true true z = quiet true
    by_cases true false z =
        let e : p ≡ 0 = z refl refl in
        ap₂ ahead (let x : suc (max c.clock (max c.latest (max p b))) ≡ suc (max c.clock (max c.latest b)) = omega (arith, e) in x) (max_swap c.latest b p)

over_same : (s : Name → ℕ) (es : List Entry) (P D : List Final) (c : Clock) → c.waits ≡ false → entries_of c.name es ≡ [] → best (is_child c.name) P ≡ 0
    → foretold s es (heard (P ++ D) c) ≡ final_clock (heard D c)
over_same s es P D c w n z =
    ap (λ b. foretold s es (listening c (max c.latest b))) (best-append (is_child c.name) P D)
    ∙ ap (λ x. final es c.name (suc (s c.name)) (cond x (suc (max c.clock l)) c.clock) l) w
    ∙ ap (λ (f : Ahead). f c.clock l) (along_none span_algebra es c.name (suc (s c.name)) n)
    ∙ (let x : max c.clock l ≡ final_clock (heard D c) = omega (arith, z) in x)
  where
    l : ℕ
    l = max c.latest (max (best (is_child c.name) P) (best (is_child c.name) D))

abbrev AllLive : Machine → List Final → Type 0
AllLive M P = (f : Final) → In f P → has_frame f.0 (live M) ≡ true

childless_zero : (M : Machine) (p : Name) (P : List Final) → AllLive M P → Childless M p → best (is_child p) P ≡ 0
childless_zero M p P a h = best_zero (is_child p) P (λ f m. h f.0 (a f m))

best_shift : (t : Name → Bool) (n : Name) (x : ℕ) (P D : List Final) → best t ((n, x) ∷ (P ++ D)) ≡ best t (P ++ ((n, x) ∷ D))
best_shift t n x P D =
    let a = best-append t P D in
    let b = best-append t P ((n, x) ∷ D) in
    elim (decided (t n)) [
      | inl e ↦ best_yes t n x (P ++ D) e ∙ (let c = best_yes t n x D e in omega (arith, a, b, c))
      | inr e ↦ best_not t n x (P ++ D) e ∙ (let c = best_not t n x D e in omega (arith, a, b, c))
    ]

pub settle-foretold : (M : Machine) (s : Name → ℕ) (es : List Entry) (P D : List Final) (cs : List Clock) → AllLive M P → ((c : Clock) → In c cs → Ready M es c)
    → best is_empty (foretell s es (P ++ D) cs) ≡ max (best is_empty (foretell s es P (map (woken M.suspended) (settle (live M) D cs).0))) (best is_empty (settle (live M) D cs).1)
settle-foretold M s es P D [] a r = best-append is_empty P D
settle-foretold M s es P D (c ∷ cs) a r =
    elim (decided (has_frame c.name (live M))) [
      | inl t ↦ rw t (
          settle-foretold M s es ((c.name, foretold s es (heard (P ++ D) c)) ∷ P) D cs (λ f m. elim (In-cons m) [ inl e ↦ ap (λ (z : Final). has_frame z.0 (live M)) e ∙ t | inr i ↦ a f i ]) (λ d m. r d (there m))
          ∙ ap₂ (λ n z. max (best is_empty (foretell s es ((n, z) ∷ P) (map (woken M.suspended) (settle (live M) D cs).0))) (best is_empty (settle (live M) D cs).1)) (sym (woken_name M.suspended (heard D c)))
          (woken-same M s es P D c (λ w h. childless_zero M c.name P a ((r c (here refl)).wakes w h))))
      | inr t ↦ rw t (let o = (r c (here refl)).over t in
          let x = final_clock (heard D c) in
          ap (λ z. best is_empty (foretell s es ((c.name, z) ∷ (P ++ D)) cs)) (over_same s es P D c o.0 o.1 (childless_zero M c.name P a o.2))
          ∙ foretell_alike s es ((c.name, x) ∷ (P ++ D)) (P ++ ((c.name, x) ∷ D)) cs (best_shift is_empty c.name x P D, λ d m. best_shift (is_child d.name) c.name x P D)
          ∙ settle-foretold M s es P ((c.name, x) ∷ D) cs a (λ d m. r d (there m)))
    ]

-- ---- a step of q

foretold_skip : (q : Frame) (a : Action) (s : Name → ℕ) (es : List Entry) (c : Clock) → c.name ≢ q.name → c.name ≢ (child q).name → foretold s (entry q a ∷ es) c ≡ foretold (counted q a s) es c
foretold_skip q a s es c n k =
    ap (λ (f : Ahead). f (cond c.waits (suc (max c.clock c.latest)) c.clock) c.latest)
    (along_skip span_algebra (entry q a) es c.name (suc (s c.name)) (same_differ (λ e. n (sym e))) ∙ ap (λ z. final es c.name (suc z)) (sym (counted_other q a s c.name n k)))

foretell_skip : (q : Frame) (a : Action) (s : Name → ℕ) (es : List Entry) (P : List Final) (cs : List Clock) → (In q.name (clock_names cs) → ⊥) → (In (child q).name (clock_names cs) → ⊥) → foretell s (entry q a ∷ es) P cs ≡ foretell (counted q a s) es P cs
foretell_skip q a s es P [] n k = refl
foretell_skip q a s es P (c ∷ cs) n k =
    ap (λ z. foretell s (entry q a ∷ es) ((c.name, z) ∷ P) cs) (foretold_skip q a s es (heard P c) (λ e. n (here (sym e))) (λ e. k (here (sym e))))
    ∙ foretell_skip q a s es ((c.name, foretold (counted q a s) es (heard P c)) ∷ P) cs (λ m. n (there m)) (λ m. k (there m))

-- q's clock at its end, before its step
foretold_mine : (q : Frame) (a : Action) (s : Name → ℕ) (es : List Entry) (c : Clock) → c.name ≡ q.name → s q.name ≡ q.spawned → c.waits ≡ false
    → foretold s (entry q a ∷ es) c ≡ combine span_algebra a (final es (child q).name 1) (final es q.name (suc (suc q.spawned))) (final es q.name (suc q.spawned)) c.clock c.latest
foretold_mine q a s es c n k w =
    ap (λ x. final (entry q a ∷ es) c.name (suc (s c.name)) (cond x (suc (max c.clock c.latest)) c.clock) c.latest) w
    ∙ ap (λ (f : Ahead). f c.clock c.latest) (ap (λ z. final (entry q a ∷ es) z (suc (s z))) n ∙ ap (λ z. final (entry q a ∷ es) q.name (suc z)) k ∙ along_mine span_algebra (entry q a) es q.name (suc q.spawned) (same_refl q.name))

-- after it, where it did not spawn
foretold_own : (q : Frame) (a : Action) (s : Name → ℕ) (es : List Entry) (x l : ℕ) (p : Name) → p ≡ q.name → s q.name ≡ q.spawned → ((r : Name) → counted q a s r ≡ s r)
    → final es q.name (suc q.spawned) x l ≡ final es p (suc (counted q a s p)) x l
foretold_own q a s es x l p n k e = ap (λ (f : Ahead). f x l) (sym (ap (λ z. final es z (suc (counted q a s z))) n ∙ ap (λ z. final es q.name (suc z)) (e q.name ∙ k)))

module _ (q : Frame) (busy : Bool) (s : Name → ℕ) (es : List Entry) (own : s q.name ≡ q.spawned) where
  -- what is known of those before q in the order, and of the others
  pub record Around (P : List Final) (cs : List Clock) : Type 0 where
    pub no_grandchild : best (is_child (child q).name) P ≡ 0
    pub no_grandchildren : (c : Clock) → In c cs → is_child (child q).name c.name ≡ false
    pub alone : busy ≡ false → best (is_child q.name) P ≡ 0
    pub alone_all : busy ≡ false → (c : Clock) → In c cs → is_child q.name c.name ≡ false
    pub unique : NoDup (clock_names cs)
    pub fresh : In (child q).name (clock_names cs) → ⊥
    pub own_awake : (c : Clock) → In c cs → c.name ≡ q.name → c.waits ≡ false

  abbrev Same : Action → List Final → List Clock → Type 0
  Same a P cs = best is_empty (foretell s (entry q a ∷ es) P cs) ≡ best is_empty (foretell (counted q a s) es P (clocks_moved q a busy cs))

  -- q's own clock, c, and the frames after it
  module _ (P : List Final) (c : Clock) (cs : List Clock) (r : Around P (c ∷ cs)) (n : c.name ≡ q.name) where
    abbrev h : Clock
    h = heard P c

    others-fresh : In q.name (clock_names cs) → ⊥
    others-fresh m = r.unique.0 (Memᴰ.cast n m)

    child-fresh : In (child q).name (clock_names cs) → ⊥
    child-fresh m = r.fresh (there m)

    -- one clock in the place of c
    plain : (a : Action) (c' : Clock) → c'.name ≡ c.name → foretold s (entry q a ∷ es) h ≡ foretold (counted q a s) es (heard P c')
        → best is_empty (foretell s (entry q a ∷ es) P (c ∷ cs)) ≡ best is_empty (foretell (counted q a s) es P (c' ∷ cs))
    plain a c' e x =
        ap (λ z. best is_empty (foretell s (entry q a ∷ es) ((c.name, z) ∷ P) cs)) x
        ∙ ap (best is_empty) (foretell_skip q a s es ((c.name, foretold (counted q a s) es (heard P c')) ∷ P) cs others-fresh child-fresh)
        ∙ ap (λ z. best is_empty (foretell (counted q a s) es ((z, foretold (counted q a s) es (heard P c')) ∷ P) cs)) (sym e)

    mine : (a : Action) → foretold s (entry q a ∷ es) h ≡ combine span_algebra a (final es (child q).name 1) (final es q.name (suc (suc q.spawned))) (final es q.name (suc q.spawned)) c.clock h.latest
    mine a = foretold_mine q a s es h n own (r.own_awake c (here refl) n)

    awake_here : (a : Action) (x : ℕ) → final es c.name (suc (counted q a s c.name)) x h.latest ≡ final es c.name (suc (counted q a s c.name)) (cond c.waits (suc (max x h.latest)) x) h.latest
    awake_here a x = ap (λ w. final es c.name (suc (counted q a s c.name)) (cond w (suc (max x h.latest)) x) h.latest) (sym (r.own_awake c (here refl) n))

    same-spawn : best is_empty (foretell s (entry q spawn ∷ es) P (c ∷ cs)) ≡ best is_empty (foretell (counted q spawn s) es P (moved q spawn busy c ++ cs))
    same-spawn =
        ap (best is_empty) (foretell_skip q spawn s es ((c.name, X) ∷ P) cs others-fresh child-fresh)
        ∙ foretell_alike s' es ((c.name, X) ∷ P) ((c.name, X) ∷ kid ∷ P) cs (
          best_cons is_empty (c.name, X) P (kid ∷ P) refl,
          λ d m. best_cons (is_child d.name) (c.name, X) P (kid ∷ P) (sym (best_not (is_child d.name) kid.0 kid.1 P (same_differ (λ e. others-fresh (Memᴰ.cast e (In-map (λ (z : Clock). z.name) m)))))),
        )
        ∙ ap (λ z. best is_empty (foretell s' es ((c.name, z) ∷ kid ∷ P) cs)) same_x
      where
        s' : Name → ℕ
        s' = counted q spawn s

        born : Clock
        born = record { name = (child q).name; clock = suc c.clock; latest = 0; waits = false }

        kid : Final
        kid = ((child q).name, foretold s' es (heard P born))

        X : ℕ
        X = foretold s (entry q spawn ∷ es) h

        kid_is : final es (child q).name 1 (suc c.clock) 0 ≡ kid.1
        kid_is = ap₂ (λ k l. final es (child q).name (suc k) (suc c.clock) l) (sym (counted-child q s)) (let z = r.no_grandchild in let x : 0 ≡ max 0 (best (is_child (child q).name) P) = omega (arith, z) in x)

        listens : max h.latest kid.1 ≡ max c.latest (best (is_child c.name) (kid ∷ P))
        listens =
            (let x : max (max c.latest (best (is_child c.name) P)) kid.1 ≡ max c.latest (max kid.1 (best (is_child c.name) P)) = omega arith in x)
            ∙ ap (max c.latest) (sym (best_yes (is_child c.name) kid.0 kid.1 P (same_of (sym n))))

        same_x : X ≡ foretold s' es (heard (kid ∷ P) (ticked c))
        same_x =
            mine spawn
            ∙ ap (λ z. final es q.name (suc (suc q.spawned)) (suc c.clock) (max h.latest z)) kid_is
            ∙ ap (λ z. final es q.name (suc (suc q.spawned)) (suc c.clock) z) listens
            ∙ ap (λ (f : Ahead). f (suc c.clock) (max c.latest (best (is_child c.name) (kid ∷ P)))) (sym (ap (λ z. final es z (suc (s' z))) n ∙ ap (λ z. final es q.name (suc z)) (counted_own q s)))
            ∙ ap (λ w. final es c.name (suc (s' c.name)) (cond w (suc (max (suc c.clock) (max c.latest (best (is_child c.name) (kid ∷ P))))) (suc c.clock)) (max c.latest (best (is_child c.name) (kid ∷ P)))) (sym (r.own_awake c (here refl) n))

    same_here : (a : Action) → best is_empty (foretell s (entry q a ∷ es) P (c ∷ cs)) ≡ best is_empty (foretell (counted q a s) es P (moved q a busy c ++ cs))
    same_here spawn = same-spawn
    same_here return = plain return c refl (mine return ∙ foretold_own q return s es c.clock h.latest c.name n own (λ z. refl) ∙ awake_here return c.clock)
    same_here sync = by_busy busy refl
      where
        by_busy : (b : Bool) → busy ≡ b → best is_empty (foretell s (entry q sync ∷ es) P (c ∷ cs)) ≡ best is_empty (foretell (counted q sync s) es P (moved q sync b c ++ cs))
        by_busy true e = plain sync (waiting c) refl (mine sync ∙ foretold_own q sync s es (suc (max c.clock h.latest)) h.latest c.name n own (λ z. refl))
        by_busy false e = plain sync (passed c) refl (
            mine sync
            ∙ foretold_own q sync s es (suc (max c.clock h.latest)) h.latest c.name n own (λ z. refl)
            ∙ ap (λ z. final es c.name (suc (s c.name)) (suc (max c.clock z)) h.latest) (let z : best (is_child c.name) P ≡ 0 = ap (λ y. best (is_child y) P) n ∙ r.alone e in let x : max c.latest (best (is_child c.name) P) ≡ c.latest = omega (arith, z) in x))
    same_here (read x) = plain (read x) (ticked c) refl (mine (read x) ∙ foretold_own q (read x) s es (suc c.clock) h.latest c.name n own (λ z. refl) ∙ awake_here (read x) (suc c.clock))
    same_here (write x v) = plain (write x v) (ticked c) refl (mine (write x v) ∙ foretold_own q (write x v) s es (suc c.clock) h.latest c.name n own (λ z. refl) ∙ awake_here (write x v) (suc c.clock))
    same_here (fold x v) = plain (fold x v) (ticked c) refl (mine (fold x v) ∙ foretold_own q (fold x v) s es (suc c.clock) h.latest c.name n own (λ z. refl) ∙ awake_here (fold x v) (suc c.clock))

  pub moved_same : (a : Action) (P : List Final) (cs : List Clock) → Around P cs → Same a P cs
  moved_same a P [] r = refl
  moved_same a P (c ∷ cs) r =
      elim (decided (same c.name q.name)) [
        | inl t ↦ rw t (same_here P c cs r (same_eq c.name q.name t) a)
        | inr t ↦ rw t (
            ap (λ z. best is_empty (foretell s (entry q a ∷ es) ((c.name, z) ∷ P) cs)) (foretold_skip q a s es (heard P c) (same_ne t) (λ e. r.fresh (here (sym e))))
            ∙ moved_same a ((c.name, after) ∷ P) cs (record {
              no_grandchild = best_not (is_child (child q).name) c.name after P (r.no_grandchildren c (here refl)) ∙ r.no_grandchild;
              no_grandchildren = λ d m. r.no_grandchildren d (there m);
              alone = λ b. best_not (is_child q.name) c.name after P (r.alone_all b c (here refl)) ∙ r.alone b;
              alone_all = λ b d m. r.alone_all b d (there m);
              unique = r.unique.1;
              fresh = λ m. r.fresh (there m);
              own_awake = λ d m. r.own_awake d (there m);
            }))
      ]
    where
      after : ℕ
      after = foretold (counted q a s) es (heard P c)
