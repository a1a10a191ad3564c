-- What an accepted turn does to the live frames.
use Rattle.std.specs.Prelude.{◌≡◌, refl, ◌≢◌, Bool, true, false, not, ◌||◌, ℕ, suc, ◌-◌, ◌≤◌, ◌<◌, length, set, ltb}
use Rattle.std.proofs.Common.{sym, ap, ◌∙◌, subst, inl, inr, arith, length-set, get_or-set_same, get_or-set_other}
use mathlib.Core.List.Memᴰ.{cases_cons as In-cons}
use mathlib.Core.List.Memᴰ.{head as here}
use mathlib.Core.List.Memᴰ.{not-nil as not-in-nil}
use mathlib.Core.List.Memᴰ.{tail as there}
use mathlib.Core.List.{Memᴰ as In}
use mathlib.Core.List.Permᴰ
use mathlib.Core.List.{List, [], ◌∷◌, ◌++◌, append_assoc, Permᴰ}
use Rattle.std.proofs.Math.ListN.{get_or-eq_default}
use Rattle.std.proofs.lemmas.List.{set-get_or}
use Rattle.words.specs.Basics.{joined}
use Rattle.words.specs.Tests.{true≢false, decided, both, neither, lt_of, not-false, ge_of}
use Rattle.words.specs.Distinct.{same_eq}
use Rattle.words.specs.Lists.{perm_swap, perm_length, joined-set, joined_empty}
use Rattle.model.specs.Machine.{Name, Frame, Machine, live, deque, with_deque, is_empty, top, below_top, is_child, has_child, those, others, in_use, main, start}
use Rattle.model.specs.Steps.{Action, spawn, return, sync, read, write, fold, reducers, Turn, acting, stealing, first_true, no_worker, not_below, action_tests, turn_tests, child, after_spawn, as_returning, written, after_write, suspend, waits_in_return, waits_at_sync, leave, resume, upward, after_end, after_action, after_steal}
use Rattle.model.proofs.Theory.Histories.{in_use_perm}
use Rattle.model.proofs.Theory.LiveRun.{successors, Allowed, Settles, settled, drops, settles_perm}
use Rattle.model.proofs.Theory.Children.{has_child_perm}

-- ---- what is not refused

-- none of the tests holds
abbrev pub NoneTrue : List (Bool × ℕ) → Type 0
NoneTrue ts = first_true 0 ts ≡ 0

-- no test refuses the turn
abbrev pub Passes : Machine → Turn → Type 0
Passes M t = NoneTrue (turn_tests M t)

none_true : (b : Bool) (k : ℕ) (ts : List (Bool × ℕ)) → NoneTrue ((b, suc k) ∷ ts) → (b ≡ false) × NoneTrue ts
none_true true k ts h = absurd (omega arith)
none_true false k ts h = (refl, h)

-- ---- the frames apart from one deque

abbrev pub rest : Machine → ℕ → List Frame
rest M w = M.suspended ++ joined (set M.deques w [])

pub live_with : (M : Machine) (w : ℕ) (d : List Frame) → w < length M.deques → Permᴰ (live (with_deque M w d)) (d ++ rest M w)
live_with M w d h = Permᴰ.trans (Permᴰ.append_left M.suspended (joined-set M.deques w d h)) (perm_swap M.suspended d (joined (set M.deques w [])))

pub live_at_lem : (M : Machine) (w : ℕ) (d : List Frame) → w < length M.deques → deque M w ≡ d → Permᴰ (live M) (d ++ rest M w)
live_at_lem M w d h e = subst (λ z. Permᴰ (M.suspended ++ joined z) (d ++ rest M w)) (ap (set M.deques w) (sym e) ∙ set-get_or M.deques w []) (live_with M w d h)

pub live-start : (w : ℕ) (vs : List ℕ) (nodes places : ℕ) → live (start w vs nodes places) ≡ main vs ∷ []
live-start w vs nodes places = ap (λ z. main vs ∷ z) (joined_empty (w - 1))

-- ---- what the tests leave to be known

pub tests_allow : (M : Machine) (w : ℕ) (q : Frame) (d : List Frame) (a : Action) → w < length M.deques → Permᴰ (live M) (q ∷ (d ++ rest M w)) → NoneTrue (action_tests M w (q ∷ d) a) → Allowed M.splitters M.nodes M.places q (d ++ rest M w) a
tests_allow M w q d spawn lt p h = subst (λ z. z < M.places) (perm_length p) (lt_of (not-false _ (none_true (not_below (length (live M)) M.places) 12 [] h).0))
tests_allow M w q d return lt p h = tt
tests_allow M w q d sync lt p h = tt
tests_allow M w q d (read x) lt p h = lt_of (not-false _ (none_true (not_below x M.splitters) 14 [] h).0)
tests_allow M w q d (fold r x) lt p h = lt_of (not-false _ (none_true (not_below r reducers) 19 [] h).0)
tests_allow M w q d (write x v) lt p h =
    let many = ltb M.nodes (in_use M.splitters (live (after_write M w q d x v))) in
    let h₁ = none_true (not_below x M.splitters) 14 ((many, 16) ∷ []) h in
    (lt_of (not-false _ h₁.0), subst (λ z. z ≤ M.nodes) (in_use_perm M.splitters (live_with M w (written q x v ∷ d) lt)) (ge_of (none_true many 15 [] h₁.1).0))

pub perm_those : (t : Frame → Bool) (l J : List Frame) → Permᴰ (l ++ J) (those t l ++ (others t l ++ J))
perm_those t [] J = Permᴰ.refl J
perm_those t (f ∷ l) J =
    elim (decided (t f)) [
      | inl e ↦ rw e (Permᴰ.cons refl (perm_those t l J))
      | inr e ↦ rw e (Permᴰ.trans (Permᴰ.cons refl (perm_those t l J)) (Permᴰ.symm (Permᴰ.middle f (those t l) (others t l ++ J))))
    ]

pub in_those : (t : Frame → Bool) (l : List Frame) (f : Frame) → In f (those t l) → In f l × (t f ≡ true)
in_those t [] f m = absurd (not-in-nil m)
in_those t (g ∷ l) f m =
    elim (decided (t g)) [
      | inl s ↦ elim (In-cons (rw s at m)) [ inl e ↦ (here e, ap t e ∙ s) | inr i ↦ (let r = in_those t l f i in (there r.0, r.1)) ]
      | inr s ↦ (let r = in_those t l f (rw s at m) in (there r.0, r.1))
    ]

-- ---- a step's effect

suspend-live : (M : Machine) (w : ℕ) (q : Frame) (d : List Frame) → w < length M.deques → Permᴰ (live (suspend M w q d)) (q ∷ (d ++ rest M w))
suspend-live M w q d h = Permᴰ.cons refl (live_with M w d h)

-- a step that is no return
abbrev is_return : Action → Bool
is_return spawn = false
is_return return = true
is_return sync = false
is_return (read x) = false
is_return (fold x y) = false
is_return (write x v) = false

pub other_action : {a : Action} → a ≡ return → is_return a ≡ false → ⊥
other_action e h = true≢false (ap is_return (sym e) ∙ h)

pub action_live : (M : Machine) (w : ℕ) (q : Frame) (d : List Frame) (a : Action) → a ≢ return → w < length M.deques → deque M w ≡ q ∷ d
    → Permᴰ (live (after_action M w (q ∷ d) a)) (successors q a ++ (d ++ rest M w))
action_live M w q d spawn ne h e = live_with M w (child q ∷ after_spawn q ∷ d) h
action_live M w q d return ne h e = absurd (ne refl)
action_live M w q d sync ne h e =
    elim (decided (has_child q.name (live M))) [ inl s ↦ rw s (suspend-live M w q d h) | inr s ↦ rw s (live_at_lem M w (q ∷ d) h e) ]
action_live M w q d (read x) ne h e = live_at_lem M w (q ∷ d) h e
action_live M w q d (fold x y) ne h e = live_at_lem M w (q ∷ d) h e
action_live M w q d (write x v) ne h e = live_with M w (written q x v ∷ d) h

-- ---- a return's effect

-- frames of one name that have returned and have no live child end, one after the other
pub returned : (p : Name) (l : List Frame) (f : Frame) → In f (those (waits_in_return p) l) → (f.name ≡ p) × (f.returning ≡ true)
returned p l f m = let x = both _ _ (in_those (waits_in_return p) l f m).1 in (same_eq f.name p x.0, x.1)

drops_all : (p : Name) (D R L' : List Frame) → ((f : Frame) → In f D → (f.name ≡ p) × (f.returning ≡ true)) → has_child p (D ++ R) ≡ false → Settles R L' → Settles (D ++ R) L'
drops_all p [] R L' all h k = k
drops_all p (f ∷ D) R L' all h k =
    let a = all f (here refl) in
    drops f (D ++ R) (Permᴰ.refl (f ∷ (D ++ R))) (a.1, subst (λ z. has_child z (f ∷ (D ++ R)) ≡ false) (sym a.0) h) (drops_all p D R L' (λ g m. all g (there m)) (neither (is_child p f.name) (has_child p (D ++ R)) h).1 k)

pub resume-live : (M : Machine) (w : ℕ) (p : Name) → w < length M.deques → deque M w ≡ [] → Permᴰ (live M) (live (resume M w p))
resume-live M w p h e =
    let t = waits_at_sync p in
    Permᴰ.trans (live_at_lem M w [] h e)
    (Permᴰ.trans (perm_those t M.suspended (joined (set M.deques w [])))
    (Permᴰ.trans (perm_swap (those t M.suspended) (others t M.suspended) (joined (set M.deques w [])))
    (Permᴰ.append_left (others t M.suspended) (Permᴰ.symm (joined-set M.deques w (those t M.suspended) h)))))

pub upward-live : (M : Machine) (w : ℕ) (r : Name) → w < length M.deques → deque M w ≡ [] → Settles (live M) (live (upward M w r))
upward-live M w [] h e = settled (Permᴰ.refl (live M))
upward-live M w (k ∷ p) h e =
    elim (decided (has_child p (live M))) [
      | inl c ↦ rw c (settled (Permᴰ.refl (live M)))
      | inr c ↦ rw c (elim (decided (is_empty (those (waits_in_return p) M.suspended))) [
        | inl s ↦ rw s (settled (resume-live M w p h e))
        | inr s ↦ rw s (settles_perm (perm_those (waits_in_return p) M.suspended (joined M.deques))
            (drops_all p (those (waits_in_return p) M.suspended) (live (leave M p)) (live (upward (leave M p) w p)) (returned p M.suspended)
            (has_child_perm p (perm_those (waits_in_return p) M.suspended (joined M.deques)) c) (upward-live (leave M p) w p h e)))
      ])
    ]

end_live : (M : Machine) (w : ℕ) (q : Frame) (d : List Frame) → w < length M.deques → Settles (d ++ rest M w) (live (after_end M w q d))
end_live M w q [] h = upward-live (with_deque M w []) w q.name (rw (length-set M.deques w []) h) (get_or-set_same M.deques w [] [] h)
end_live M w q (g ∷ d) h = settled (Permᴰ.symm (live_with M w (g ∷ d) h))

pub return_live : (M : Machine) (w : ℕ) (q : Frame) (d : List Frame) → w < length M.deques → deque M w ≡ q ∷ d → Settles (successors q return ++ (d ++ rest M w)) (live (after_action M w (q ∷ d) return))
return_live M w q d h e =
    elim (decided (has_child q.name (live M))) [
      | inl c ↦ rw c (settled (Permᴰ.symm (suspend-live M w (as_returning q) d h)))
      | inr c ↦ rw c (drops (as_returning q) (d ++ rest M w) (Permᴰ.refl (as_returning q ∷ (d ++ rest M w))) (refl, has_child_perm q.name (live_at_lem M w (q ∷ d) h e) c) (end_live M w q d h))
    ]

turn_live : (M : Machine) (w : ℕ) (q : Frame) (d : List Frame) (a : Action) → w < length M.deques → deque M w ≡ q ∷ d → Settles (successors q a ++ (d ++ rest M w)) (live (after_action M w (q ∷ d) a))
turn_live M w q d return h e = return_live M w q d h e
turn_live M w q d spawn h e = settled (Permᴰ.symm (action_live M w q d spawn (λ z. other_action z refl) h e))
turn_live M w q d sync h e = settled (Permᴰ.symm (action_live M w q d sync (λ z. other_action z refl) h e))
turn_live M w q d (read x) h e = settled (Permᴰ.symm (action_live M w q d (read x) (λ z. other_action z refl) h e))
turn_live M w q d (fold x y) h e = settled (Permᴰ.symm (action_live M w q d (fold x y) (λ z. other_action z refl) h e))
turn_live M w q d (write x v) h e = settled (Permᴰ.symm (action_live M w q d (write x v) (λ z. other_action z refl) h e))

-- ---- a steal moves a frame

pub below_top-top : (l : List Frame) → below_top l ++ top l ≡ l
below_top-top [] = refl
below_top-top (x ∷ []) = refl
below_top-top (x ∷ y ∷ l) = ap (λ z. x ∷ z) (below_top-top (y ∷ l))

pub is_empty_nil : (l : List Frame) → is_empty l ≡ true → l ≡ []
is_empty_nil [] h = refl
is_empty_nil (x ∷ l) h = absurd (true≢false (sym h))

pub there_is_worker : (M : Machine) (v : ℕ) → 0 < length (deque M v) → v < length M.deques
there_is_worker M v h =
    elim (decided (ltb v (length M.deques))) [ inl e ↦ lt_of e | inr e ↦ absurd (omega (arith, h, ap length (get_or-eq_default M.deques [] {n = v} (ge_of e)))) ]

steal-live : (M : Machine) (w v : ℕ) → w < length M.deques → deque M w ≡ [] → 1 < length (deque M v) → Permᴰ (live M) (live (after_steal M w v))
steal-live M w v hw ew hv =
    Permᴰ.trans (live_at_lem M v (deque M v) vd refl)
    (Permᴰ.symm (Permᴰ.trans (live_with M₁ w (top (deque M v)) w₁)
    (Permᴰ.trans (Permᴰ.append_left (top (deque M v)) (subst (λ z. Permᴰ z (below_top (deque M v) ++ rest M v)) idle (live_with M v (below_top (deque M v)) vd)))
    (Permᴰ.trans (perm_swap (top (deque M v)) (below_top (deque M v)) (rest M v))
    (subst (λ z. Permᴰ z (deque M v ++ rest M v)) whole (Permᴰ.refl (deque M v ++ rest M v)))))))
  where
    M₁ : Machine
    M₁ = with_deque M v (below_top (deque M v))

    vd : v < length M.deques
    vd = there_is_worker M v (omega arith)

    w₁ : w < length M₁.deques
    w₁ = rw (length-set M.deques v (below_top (deque M v))) hw

    apart : w ≢ v
    apart e = omega (arith, hv, ap length (subst (λ z. deque M z ≡ []) e ew))

    idle : live M₁ ≡ rest M₁ w
    idle = ap (λ z. M.suspended ++ joined z) (sym (set-get_or M₁.deques w []) ∙ ap (set M₁.deques w) (get_or-set_other M.deques v w (below_top (deque M v)) [] apart ∙ ew))

    whole : deque M v ++ rest M v ≡ below_top (deque M v) ++ (top (deque M v) ++ rest M v)
    whole = ap (λ z. z ++ rest M v) (sym (below_top-top (deque M v))) ∙ append_assoc (below_top (deque M v)) (top (deque M v)) (rest M v)

-- ---- an accepted turn

-- what an accepted step of a frame does to the live frames
pub record Acts (M : Machine) (w : ℕ) (a : Action) : Type 0 where
  pub actor : Frame
  pub above : List Frame
  pub at : deque M w ≡ actor ∷ above
  pub worker : w < length M.deques
  pub allowed : Allowed M.splitters M.nodes M.places actor (above ++ rest M w) a
  pub before : Permᴰ (live M) (actor ∷ (above ++ rest M w))
  pub after : Settles (successors actor a ++ (above ++ rest M w)) (live (after_action M w (deque M w) a))

pub acts : (M : Machine) (w : ℕ) (a : Action) → Passes M (acting w a) → Acts M w a
acts M w a h = go (deque M w) refl
  where
    own : List (Bool × ℕ)
    own = (is_empty (deque M w), 10) ∷ action_tests M w (deque M w) a

    h₁ : (no_worker M w ≡ false) × NoneTrue ((is_empty (live M), 9) ∷ own)
    h₁ = none_true (no_worker M w) 7 ((is_empty (live M), 9) ∷ own) h

    h₂ : (is_empty (deque M w) ≡ false) × NoneTrue (action_tests M w (deque M w) a)
    h₂ = none_true (is_empty (deque M w)) 9 (action_tests M w (deque M w) a) (none_true (is_empty (live M)) 8 own h₁.1).1

    lt : w < length M.deques
    lt = lt_of (not-false _ h₁.0)

    go : (d : List Frame) → deque M w ≡ d → Acts M w a
    go [] e = absurd (true≢false (subst (λ z. is_empty z ≡ false) e h₂.0))
    go (q ∷ d) e = record {
      actor = q;
      above = d;
      at = e;
      worker = lt;
      allowed = tests_allow M w q d a lt (live_at_lem M w (q ∷ d) lt e) (subst (λ z. NoneTrue (action_tests M w z a)) e h₂.1);
      before = live_at_lem M w (q ∷ d) lt e;
      after = subst (λ z. Settles (successors q a ++ (d ++ rest M w)) (live (after_action M w z a))) (sym e) (turn_live M w q d a lt e);
    }

pub record Steals (M : Machine) (w v : ℕ) : Type 0 where
  pub worker : w < length M.deques
  pub alive : is_empty (live M) ≡ false
  pub idle : deque M w ≡ []
  pub two : 1 < length (deque M v)
  pub same-frames : Permᴰ (live M) (live (after_steal M w v))

pub steals : (M : Machine) (w v : ℕ) → Passes M (stealing w v) → Steals M w v
steals M w v h = record { worker = lt; alive = h₂.0; idle = none_there; two = ge_of h₄; same-frames = steal-live M w v lt none_there (ge_of h₄) }
  where
    few : Bool
    few = no_worker M v || ltb (length (deque M v)) 2

    own : List (Bool × ℕ)
    own = (not (is_empty (deque M w)), 11) ∷ (few, 12) ∷ []

    h₁ : (no_worker M w ≡ false) × NoneTrue ((is_empty (live M), 9) ∷ own)
    h₁ = none_true (no_worker M w) 7 ((is_empty (live M), 9) ∷ own) h

    h₂ : (is_empty (live M) ≡ false) × NoneTrue own
    h₂ = none_true (is_empty (live M)) 8 own h₁.1

    h₃ : (not (is_empty (deque M w)) ≡ false) × NoneTrue ((few, 12) ∷ [])
    h₃ = none_true (not (is_empty (deque M w))) 10 ((few, 12) ∷ []) h₂.1

    h₄ : ltb (length (deque M v)) 2 ≡ false
    h₄ = (neither (no_worker M v) _ (none_true few 11 [] h₃.1).0).1

    lt : w < length M.deques
    lt = lt_of (not-false _ h₁.0)

    none_there : deque M w ≡ []
    none_there = is_empty_nil (deque M w) (not-false _ h₃.0)
