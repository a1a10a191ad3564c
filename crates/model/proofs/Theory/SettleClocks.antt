-- The clocks of frames that end: of several at once, one after the other; and the syncs that then pass.
use Rattle.std.specs.Prelude.{◌≡◌, refl, Bool, true, false, cond, not, ◌&&◌, List, [], ◌∷◌, ◌++◌, map, ℕ, max}
use Rattle.std.proofs.Common.{sym, ap, ap₂, ◌∙◌, subst, inl, inr, arith}
use mathlib.Core.List.Memᴰ.{cases_cons as In-cons}
use mathlib.Core.List.Memᴰ.{head as here}
use mathlib.Core.List.Memᴰ.{not-nil as not-in-nil}
use mathlib.Core.List.Memᴰ.{tail as there}
use mathlib.Core.List.{Memᴰ as In}
use Rattle.std.proofs.lemmas.List.{map-append}
use Rattle.words.specs.Basics.{same}
use Rattle.words.specs.Tests.{true≢false, decided}
use Rattle.words.specs.Distinct.{same_eq}
use Rattle.model.specs.Machine.{Name, Frame, is_empty, is_child, has_frame}
use Rattle.model.specs.Clocks.{Clock, passed, Final, best, heard, final_clock, woken, settle_by, settle}
use Rattle.model.proofs.Theory.Filter.{filter}
use Rattle.model.proofs.Theory.FrameTree.{Rooted}
use Rattle.model.proofs.Theory.MainEnds.{In-hasFrame, has_frame_In}
use Rattle.model.proofs.Theory.ViewNames.{first_named}

-- every clock's frame stays
abbrev pub AllGoOn : (Name → Bool) → List Clock → Type 0
AllGoOn s cs = (c : Clock) → In c cs → s c.name ≡ true

-- the clock c at the head of those
abbrev pub with_clock : Clock → List Clock × List Final → List Clock × List Final
with_clock c r = (c ∷ r.0, r.1)

-- with this latest
abbrev pub listening : Clock → ℕ → Clock
listening c l = record { name = c.name; clock = c.clock; latest = l; waits = c.waits }

settle_stays : (s : Name → Bool) (ended : List Final) (c : Clock) (cs : List Clock) → s c.name ≡ true → settle_by s ended (c ∷ cs) ≡ with_clock (heard ended c) (settle_by s ended cs)
settle_stays s ended c cs t = rw t

settle_ends : (s : Name → Bool) (ended : List Final) (c : Clock) (cs : List Clock) → s c.name ≡ false → settle_by s ended (c ∷ cs) ≡ settle_by s ((c.name, final_clock (heard ended c)) ∷ ended) cs
settle_ends s ended c cs t = rw t

-- ---- the latest of a list

pub best-append : (t : Name → Bool) (fs gs : List Final) → best t (fs ++ gs) ≡ max (best t fs) (best t gs)
best-append t [] gs = omega arith
best-append t (f ∷ fs) gs = elim (decided (t f.0)) [ inl e ↦ rw e (omega (arith, best-append t fs gs)) | inr e ↦ rw e (best-append t fs gs) ]

pub best_yes : (t : Name → Bool) (n : Name) (x : ℕ) (fs : List Final) → t n ≡ true → best t ((n, x) ∷ fs) ≡ max x (best t fs)
best_yes t n x fs e = rw e

pub best_not : (t : Name → Bool) (n : Name) (x : ℕ) (fs : List Final) → t n ≡ false → best t ((n, x) ∷ fs) ≡ best t fs
best_not t n x fs e = rw e

pub best_zero : (t : Name → Bool) (fs : List Final) → ((f : Final) → In f fs → t f.0 ≡ false) → best t fs ≡ 0
best_zero t [] h = refl
best_zero t (f ∷ fs) h = best_not t f.0 f.1 fs (h f (here refl)) ∙ best_zero t fs (λ g m. h g (there m))

-- ---- what a clock hears

pub heard-none : (c : Clock) → heard [] c ≡ c
heard-none c = ap (listening c) (let e : max c.latest 0 ≡ c.latest = omega arith in e)

-- of one frame that has ended: its parent hears it, and the others do not
pub heard-child : (n : Name) (x : ℕ) (c : Clock) → is_child c.name n ≡ true → heard ((n, x) ∷ []) c ≡ listening c (max c.latest x)
heard-child n x c e = ap (listening c) (ap (max c.latest) (best_yes (is_child c.name) n x [] e ∙ (let z : max x 0 ≡ x = omega arith in z)))

pub heard_other : (n : Name) (x : ℕ) (c : Clock) → is_child c.name n ≡ false → heard ((n, x) ∷ []) c ≡ c
heard_other n x c e = ap (λ b. listening c (max c.latest b)) (best_not (is_child c.name) n x [] e) ∙ heard-none c

-- ---- only the names of the clocks matter

pub settle-same : (s t : Name → Bool) (ended : List Final) (cs : List Clock) → ((c : Clock) → In c cs → s c.name ≡ t c.name) → settle_by s ended cs ≡ settle_by t ended cs
settle-same s t ended [] h = refl
settle-same s t ended (c ∷ cs) h =
    let on = heard ended c in
    let more : List Final = (c.name, final_clock on) ∷ ended in
    ap (λ b. cond b (with_clock on (settle_by s ended cs)) (settle_by s more cs)) (h c (here refl))
    ∙ ap₂ (λ y z. cond (t c.name) (with_clock on y) z) (settle-same s t ended cs (λ x m. h x (there m))) (settle-same s t more cs (λ x m. h x (there m)))

-- ---- none, or one of them, ends

-- those that have ended are heard by all
pub settle-all : (s : Name → Bool) (ended : List Final) (cs : List Clock) → AllGoOn s cs → settle_by s ended cs ≡ (map (heard ended) cs, ended)
settle-all s ended [] h = refl
settle-all s ended (c ∷ cs) h = settle_stays s ended c cs (h c (here refl)) ∙ ap (with_clock (heard ended c)) (settle-all s ended cs (λ x m. h x (there m)))

all-heard-none : (cs : List Clock) → map (heard []) cs ≡ cs
all-heard-none [] = refl
all-heard-none (c ∷ cs) = ap₂ ◌∷◌ (heard-none c) (all-heard-none cs)

pub settle-none : (s : Name → Bool) (cs : List Clock) → AllGoOn s cs → settle_by s [] cs ≡ (cs, [])
settle-none s cs h = settle-all s [] cs h ∙ ap (λ l. (l, [])) (all-heard-none cs)

-- those before it stay as they are
settle_before : (s : Name → Bool) (us vs : List Clock) → AllGoOn s us → settle_by s [] (us ++ vs) ≡ (us ++ (settle_by s [] vs).0, (settle_by s [] vs).1)
settle_before s [] vs h = refl
settle_before s (u ∷ us) vs h = settle_stays s [] u (us ++ vs) (h u (here refl)) ∙ ap₂ with_clock (heard-none u) (settle_before s us vs (λ x m. h x (there m)))

-- the frame of k ends: "the latest of its own and its ended children's"; of those after it its parent hears it
pub settle_one : (s : Name → Bool) (us vs : List Clock) (k : Clock) → AllGoOn s us → s k.name ≡ false → AllGoOn s vs
    → settle_by s [] (us ++ (k ∷ vs)) ≡ (us ++ map (heard ((k.name, final_clock k) ∷ [])) vs, (k.name, final_clock k) ∷ [])
settle_one s us vs k hu e hv =
    settle_before s us (k ∷ vs) hu
    ∙ ap (λ r. (us ++ r.0, r.1)) (settle_ends s [] k vs e ∙ ap (λ z. settle_by s ((k.name, final_clock z) ∷ []) vs) (heard-none k) ∙ settle-all s ((k.name, final_clock k) ∷ []) vs hv)

-- Main stays, so that no final clock is Main's
pub settle-main : (s : Name → Bool) (ended : List Final) (cs : List Clock) → s [] ≡ true → best is_empty (settle_by s ended cs).1 ≡ best is_empty ended
settle-main s ended [] h = refl
settle-main s ended (c ∷ cs) h =
    elim (decided (s c.name)) [
      | inl t ↦ rw t (settle-main s ended cs h)
      | inr t ↦ rw t (settle-main s ((c.name, final_clock (heard ended c)) ∷ ended) cs h ∙ best_not is_empty c.name (final_clock (heard ended c)) ended (another c.name t))
    ]
  where
    another : (n : Name) → s n ≡ false → is_empty n ≡ false
    another [] t = absurd (true≢false (sym h ∙ t))
    another (k ∷ n) t = refl

-- ---- those that end in one test, and then those in another

-- the frames that stay in the first test stay with their parents
module _ (s t : Name → Bool) (rooted : (k : ℕ) (p : Name) → s (k ∷ p) ≡ true → s p ≡ true) where
  -- a frame that ends in the first test has no child that ends later
  deaf : (p : Name) (fs : List Final) → ((f : Final) → In f fs → s f.0 ≡ true) → s p ≡ false → best (is_child p) fs ≡ 0
  deaf p fs h e = best_zero (is_child p) fs (λ f m. none f.0 (h f m))
    where
      none : (n : Name) → s n ≡ true → is_child p n ≡ false
      none [] u = refl
      none (k ∷ n) u = elim (decided (same n p)) [ inl d ↦ absurd (true≢false (sym (rooted k n u) ∙ ap s (same_eq n p d) ∙ e)) | inr d ↦ d ]

  -- `fs` have ended, of them `fs₁` in the first test and `fs₂` in the second
  record Split (fs fs₁ fs₂ : List Final) : Type 0 where
    alike : (u : Name → Bool) → best u fs ≡ max (best u fs₁) (best u fs₂)
    stayed : (f : Final) → In f fs₂ → s f.0 ≡ true

  split_cons : (n : Name) (x : ℕ) (fs gs hs : List Final) (u : Name → Bool) → best u fs ≡ max (best u gs) (best u hs) → best u ((n, x) ∷ fs) ≡ max (best u ((n, x) ∷ gs)) (best u hs)
  split_cons n x fs gs hs u e = elim (decided (u n)) [
    | inl h ↦ (let a = best_yes u n x fs h in let b = best_yes u n x gs h in omega (arith, a, b, e))
    | inr h ↦ (let a = best_not u n x fs h in let b = best_not u n x gs h in omega (arith, a, b, e))
  ]

  split_first : (n : Name) (x : ℕ) (fs fs₁ fs₂ : List Final) → Split fs fs₁ fs₂ → Split ((n, x) ∷ fs) ((n, x) ∷ fs₁) fs₂
  split_first n x fs fs₁ fs₂ k = record { alike = λ u. split_cons n x fs fs₁ fs₂ u (k.alike u); stayed = k.stayed }

  split_second : (n : Name) (x : ℕ) (fs fs₁ fs₂ : List Final) → s n ≡ true → Split fs fs₁ fs₂ → Split ((n, x) ∷ fs) fs₁ ((n, x) ∷ fs₂)
  split_second n x fs fs₁ fs₂ h k = record {
    alike = λ u. (let e = k.alike u in let d : best u fs ≡ max (best u fs₂) (best u fs₁) = omega (arith, e) in let c = split_cons n x fs fs₂ fs₁ u d in omega (arith, c));
    stayed = λ f m. elim (In-cons m) [ inl e ↦ ap (λ (z : Final). s z.0) e ∙ h | inr i ↦ k.stayed f i ];
  }

  abbrev Both : List Final → List Final → List Final → List Clock → Type 0
  Both fs fs₁ fs₂ cs =
      let once = settle_by (λ n. s n && t n) fs cs in
      let first = settle_by s fs₁ cs in
      let second = settle_by t fs₂ first.0 in
      (once.0 ≡ second.0) × ((u : Name → Bool) → best u once.1 ≡ max (best u first.1) (best u second.1))

  settle-both_from : (fs fs₁ fs₂ : List Final) (cs : List Clock) → Split fs fs₁ fs₂ → Both fs fs₁ fs₂ cs
  settle-both_from fs fs₁ fs₂ [] k = (refl, k.alike)
  settle-both_from fs fs₁ fs₂ (c ∷ cs) k =
      elim (decided (s c.name)) [
        | inl a ↦ elim (decided (t c.name)) [
          | inl b ↦ rw (a, b) (let r = settle-both_from fs fs₁ fs₂ cs k in (ap₂ ◌∷◌ heard_twice r.0, r.1))
          | inr b ↦ rw (a, b)
              (subst (λ z. Both ((c.name, final_clock z) ∷ fs) fs₁ ((c.name, later) ∷ fs₂) cs) (sym heard_twice)
              (settle-both_from ((c.name, later) ∷ fs) fs₁ ((c.name, later) ∷ fs₂) cs (split_second c.name later fs fs₁ fs₂ a k)))
        ]
        | inr a ↦ rw a
            (subst (λ z. Both ((c.name, final_clock z) ∷ fs) ((c.name, now) ∷ fs₁) fs₂ cs) (sym (heard-first a))
            (settle-both_from ((c.name, now) ∷ fs) ((c.name, now) ∷ fs₁) fs₂ cs (split_first c.name now fs fs₁ fs₂ k)))
      ]
    where
      child : Name → Bool
      child = is_child c.name

      now : ℕ
      now = final_clock (heard fs₁ c)

      later : ℕ
      later = final_clock (heard fs₂ (heard fs₁ c))

      heard_twice : heard fs c ≡ heard fs₂ (heard fs₁ c)
      heard_twice = ap (listening c) (let e = k.alike child in let z : max c.latest (best child fs) ≡ max (max c.latest (best child fs₁)) (best child fs₂) = omega (arith, e) in z)

      heard-first : s c.name ≡ false → heard fs c ≡ heard fs₁ c
      heard-first a = ap (listening c) (let e = k.alike child in let d = deaf c.name fs₂ k.stayed a in let z : max c.latest (best child fs) ≡ max c.latest (best child fs₁) = omega (arith, e, d) in z)

  pub settle-both : (cs : List Clock) → Both [] [] [] cs
  settle-both cs = settle-both_from [] [] [] cs (record { alike = λ u. (let e : 0 ≡ max 0 0 = omega arith in e); stayed = λ f m. absurd (not-in-nil m) })

-- ---- the frames R live, and of them L still live then

pub settled_in_turn : (R L : List Frame) (cs : List Clock) → Rooted R → ((c : Clock) → In c cs → has_frame c.name L ≡ true → has_frame c.name R ≡ true)
    → ((settle L [] cs).0 ≡ (settle L [] (settle R [] cs).0).0) × (best is_empty (settle L [] cs).1 ≡ max (best is_empty (settle R [] cs).1) (best is_empty (settle L [] (settle R [] cs).0).1))
settled_in_turn R L cs rooted h =
    let e = settle-same (λ n. has_frame n L) (λ n. has_frame n R && has_frame n L) [] cs (λ c m. within (has_frame c.name R) (has_frame c.name L) (h c m)) in
    let r = settle-both (λ n. has_frame n R) (λ n. has_frame n L) parent_too cs in
    (ap (λ z. z.0) e ∙ r.0, ap (λ z. best is_empty z.1) e ∙ r.1 is_empty)
  where
    within : (a b : Bool) → (b ≡ true → a ≡ true) → b ≡ a && b
    within true b i = refl
    within false true i = sym (i refl)
    within false false i = refl

    parent_too : (k : ℕ) (p : Name) → has_frame (k ∷ p) R ≡ true → has_frame p R ≡ true
    parent_too k p u = let x = has_frame_In (k ∷ p) R u in let y = rooted x.0 x.1 k p x.2 in In-hasFrame p R y.0 y.1 y.2

-- ---- syncs that pass

-- each that waits is of a frame that is suspended
abbrev pub AllAsleep : List Frame → List Clock → Type 0
AllAsleep fs cs = (c : Clock) → In c cs → c.waits ≡ true → has_frame c.name fs ≡ true

pub woken_not : (fs : List Frame) (c : Clock) → (c.waits ≡ true → has_frame c.name fs ≡ true) → woken fs c ≡ c
woken_not fs c h = elim (decided c.waits) [ inl e ↦ rw (e, h e) | inr e ↦ rw e ]

pub woken_yes : (fs : List Frame) (c : Clock) → c.waits ≡ true → has_frame c.name fs ≡ false → woken fs c ≡ passed c
woken_yes fs c e h = rw (e, h)

pub woken-none : (fs : List Frame) (cs : List Clock) → AllAsleep fs cs → map (woken fs) cs ≡ cs
woken-none fs [] h = refl
woken-none fs (c ∷ cs) h = ap₂ ◌∷◌ (woken_not fs c (h c (here refl))) (woken-none fs cs (λ x m. h x (there m)))

-- "counted when it passes"
pub woken_one : (fs : List Frame) (us vs : List Clock) (k : Clock) → AllAsleep fs us → k.waits ≡ true → has_frame k.name fs ≡ false → AllAsleep fs vs → map (woken fs) (us ++ (k ∷ vs)) ≡ us ++ (passed k ∷ vs)
woken_one fs us vs k hu e n hv = map-append (woken fs) us (k ∷ vs) ∙ ap₂ ◌++◌ (woken-none fs us hu) (ap₂ ◌∷◌ (woken_yes fs k e n) (woken-none fs vs hv))

-- ---- which clocks are left

pub in_settled : (s : Name → Bool) (ended : List Final) (cs : List Clock) (u : Clock) → In u (settle_by s ended cs).0 → (c : Clock) × In c cs × (fs : List Final) × (u ≡ heard fs c) × (s c.name ≡ true)
in_settled s ended [] u m = absurd (not-in-nil m)
in_settled s ended (c ∷ cs) u m =
    elim (decided (s c.name)) [
      | inl t ↦ elim (In-cons (rw t at m)) [ inl e ↦ (c, here refl, ended, e, t) | inr i ↦ (let r = in_settled s ended cs u i in (r.0, there r.1, r.2, r.3, r.4)) ]
      | inr t ↦ (let r = in_settled s ((c.name, final_clock (heard ended c)) ∷ ended) cs u (rw t at m) in (r.0, there r.1, r.2, r.3, r.4))
    ]

abbrev pub clock_names : List Clock → List Name
clock_names cs = map (λ c. c.name) cs

pub clock_names_settled : (s : Name → Bool) (ended : List Final) (cs : List Clock) → clock_names (settle_by s ended cs).0 ≡ filter s (clock_names cs)
clock_names_settled s ended [] = refl
clock_names_settled s ended (c ∷ cs) =
    elim (decided (s c.name)) [
      | inl t ↦ rw t (ap (λ z. c.name ∷ z) (clock_names_settled s ended cs))
      | inr t ↦ rw t (clock_names_settled s ((c.name, final_clock (heard ended c)) ∷ ended) cs)
    ]

pub woken_name : (fs : List Frame) (c : Clock) → (woken fs c).name ≡ c.name
woken_name fs c = elim (decided (c.waits && not (has_frame c.name fs))) [ inl e ↦ rw e | inr e ↦ rw e ]

pub clock_names-woken : (fs : List Frame) (cs : List Clock) → clock_names (map (woken fs) cs) ≡ clock_names cs
clock_names-woken fs [] = refl
clock_names-woken fs (c ∷ cs) = ap₂ ◌∷◌ (woken_name fs c) (clock_names-woken fs cs)

-- the first clock of a name
pub clock_at : (cs : List Clock) (n : Name) → In n (clock_names cs) → (us : List Clock) × (c : Clock) × (vs : List Clock) × (cs ≡ us ++ (c ∷ vs)) × (c.name ≡ n) × (In n (clock_names us) → ⊥)
clock_at = first_named (λ (c : Clock). c.name)
