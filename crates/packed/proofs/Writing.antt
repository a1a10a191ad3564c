-- A write as the code runs it: a turn of each loop, and the ends. Over plain variables.
use mathlib.Core.Path.{◌≡◌, refl, sym, ap, ◌∙◌, subst}
use mathlib.Core.Logic.{◌≢◌}
use mathlib.Core.List.{List}
use Prim.Native.Nat.{ℕ, zero, suc, ◌-◌, ◌*◌, ◌<◌, ◌≤◌}
use native.Mathlib.Numerals.{sub-one}
use native.Mathlib.Omega.{arith}
use lib.ListN.{get_or, set}
use borrow.Author.Tests.{eq-eqb, ne_eqb, lt-ltb, le-ltb}
use Rattle.sizes.specs.Sizes.{bit}
use Rattle.pool.specs.Links.{Link}
use Rattle.packed.specs.Pool.{refcount, link_in, next_free, child, sibling, set_node, set_refcount, set_link, path_node, copy_path, renew, first_shared, write_from, write}
use Rattle.packed.specs.declared.found.Shared.{Shared}
use Rattle.packed.specs.Links.{PathIn, CopyIn, IsShared, IsAlone, WriteIn, Wrote}
use Rattle.packed.proofs.Theory.Halves.{link_in_is}
use Rattle.packed.proofs.Laws.{parts, path_step, path_end}
use Rattle.packed.proofs.Walk.{next_is, next_path}

-- ---- the branches of the definitions

module _ (ws : List ℕ) (above i x : ℕ) where
  first_here : (l : ℕ) → 1 < refcount ws i → first_shared l ws above i x ≡ (suc l, i, above)
  unfolding first_shared
  first_here zero h = rw (lt-ltb 1 (refcount ws i) h, first_shared)
  first_here (suc l) h = rw (lt-ltb 1 (refcount ws i) h, first_shared)

  first_none : refcount ws i ≤ 1 → first_shared zero ws above i x ≡ (0, i, above)
  unfolding first_shared
  first_none h = rw (le-ltb 1 (refcount ws i) h, first_shared)

  first_below : (l : ℕ) → refcount ws i ≤ 1 → first_shared (suc l) ws above i x ≡ first_shared l ws i (child ws i (bit l x)) x
  unfolding first_shared
  first_below l h = rw (le-ltb 1 (refcount ws i) h, first_shared)

module _ (i above h : ℕ) (ws : List ℕ) (free k root x v : ℕ) where
  from_root : (m : ℕ) → m ≡ h → write_from (suc m) i above h ws free k root x v ≡ (let p : List ℕ × ℕ = renew m ws free i x v in (p.0, p.1, k - suc m, free))
  unfolding write_from
  from_root m e = rw (eq-eqb m h e, write_from)

  from_below : (m : ℕ) → m ≢ h → write_from (suc m) i above h ws free k root x v ≡ (let p : List ℕ × ℕ = renew m ws free i x v in (set_link p.0 above (bit m x) free, p.1, k - suc m, root))
  unfolding write_from
  from_below m e = rw (ne_eqb m h e, write_from)

-- ---- the new path

pub copy_here : (N l : ℕ) (ws : List ℕ) (i old x : ℕ) → CopyIn N l ws i old x → i < N
unfolding CopyIn
copy_here N zero ws i old x C = C
copy_here N (suc l) ws i old x C = C.0

-- what a turn meets, and what it leaves for the next
pub copy_on : (N l : ℕ) (ws : List ℕ) (i old x : ℕ) → 0 < l → CopyIn N l ws i old x
    → (i < N) × (old < N) × Link N (sibling ws old (bit (l - 1) x))
    × CopyIn N (l - 1) (path_node ws i (bit (l - 1) x) (next_free ws i) (sibling ws old (bit (l - 1) x))) (next_free ws i) (child ws old (bit (l - 1) x)) x
unfolding CopyIn
copy_on N zero ws i old x h C = absurd (omega arith)
copy_on N (suc l) ws i old x h C = rw sub-one C

pub copy_next : (N l : ℕ) (ws : List ℕ) (i old x : ℕ) {next : ℕ} → 0 < l → CopyIn N l ws i old x → next ≡ next_free ws i → next < N
copy_next N l ws i old x h C e = subst (λ k. k < N) (sym e) (copy_here N (l - 1) _ _ _ x (copy_on N l ws i old x h C).3)

-- the copied node may be told by its half: the last one is not read
by_half : (N l : ℕ) (ws : List ℕ) (i old from x v : ℕ) {p : List ℕ × ℕ} → N < 4294967296 → link_in from ≡ old → CopyIn N l ws i old x × (copy_path l ws i old x v ≡ p) → CopyIn N l ws i from x × (copy_path l ws i from x v ≡ p)
unfolding CopyIn copy_path
by_half N zero ws i old from x v n e C = C
by_half N (suc l) ws i old from x v {p} n e C = subst (λ j. CopyIn N (suc l) ws i j x × (copy_path (suc l) ws i j x v ≡ p)) (sym (link_in_is from old e C.0.1 (omega arith))) C

pub copy_turn : (N l : ℕ) (ws : List ℕ) (i old x v down : ℕ) {next : ℕ} {w : List ℕ} → N < 4294967296 → 0 < l → CopyIn N l ws i old x →
    next ≡ next_free ws i → link_in down ≡ child ws old (bit (l - 1) x) → w ≡ path_node ws i (bit (l - 1) x) next (sibling ws old (bit (l - 1) x)) →
    CopyIn N (l - 1) w next down x × (copy_path (l - 1) w next down x v ≡ copy_path l ws i old x v)
copy_turn N l ws i old x v down b h C n d w = by_half N (l - 1) _ _ _ down x v b d (rw (w, n) ((copy_on N l ws i old x h C).3, path_step l ws i old x v h))

pub copy_end : (l : ℕ) (ws : List ℕ) (i old x v : ℕ) {n : ℕ} {w : List ℕ} {p : List ℕ × ℕ} → l ≤ 0 → w ≡ set_node ws i 1 v → n ≡ next_free ws i → copy_path l ws i old x v ≡ p → (w ≡ p.0) × (n ≡ p.1)
copy_end l ws i old x v h w n e = rw (w, n) (parts (path_end l ws i old x v h ∙ e))

pub renew_by : (l : ℕ) (ws : List ℕ) (free old x v : ℕ) {c n : ℕ} {w : List ℕ} → w ≡ (copy_path l ws free old x v).0 → n ≡ (copy_path l ws free old x v).1 → c ≡ get_or w (2 * old) 0 - 1
    → (set w (2 * old) c ≡ (renew l ws free old x v).0) × (n ≡ (renew l ws free old x v).1)
unfolding renew set_refcount refcount
renew_by l ws free old x v e n c = rw (c, e, n) (refl, refl)

-- ---- the way down

first_turn : (l : ℕ) (ws : List ℕ) (a i x : ℕ) → 0 < l → refcount ws i ≤ 1 → first_shared (l - 1) ws i (child ws i (bit (l - 1) x)) x ≡ first_shared l ws a i x
first_turn zero ws a i x h c = absurd (omega arith)
first_turn (suc l) ws a i x h c = rw sub-one (sym (first_below ws a i x l c))

-- the node i of level l has one holder, and the walk from here on finds p
pub record Walked (N l : ℕ) (ws : List ℕ) (x i : ℕ) (p : ℕ × ℕ × ℕ) : Type 0 where
  pub above : ℕ
  pub path : PathIn N ws l i x
  pub one : refcount ws i ≤ 1
  pub finds : first_shared l ws above i x ≡ p

-- the root
pub root_shared_lem : (h : ℕ) (ws : List ℕ) (root x : ℕ) {c : ℕ} → c ≡ refcount ws root → 1 < c → IsShared h (record { level = h; node = root; above = root }) (first_shared h ws root root x)
root_shared_lem h ws root x d c = rw (first_here ws root root x h (subst (λ k. 1 < k) d c)) (record { rest = refl; found = refl; linked = λ b. absurd (omega arith) })

pub root_alone : (N h : ℕ) (ws : List ℕ) (root x : ℕ) {c : ℕ} → PathIn N ws h root x → c ≡ refcount ws root → c ≤ 1 → Walked N h ws x root (first_shared h ws root root x)
root_alone N h ws root x P d c = record { above = root; path = P; one = subst (λ k. k ≤ 1) d c; finds = refl }

module _ {N l : ℕ} {ws : List ℕ} {x i : ℕ} {p : ℕ × ℕ × ℕ} (A : Walked N l ws x i p) (h : 0 < l) (n : N < 4294967296) (next : ℕ) (e : link_in next ≡ child ws i (bit (l - 1) x)) where
  below : first_shared (l - 1) ws i next x ≡ p
  below = ap (λ k. first_shared (l - 1) ws i k x) (next_is N l ws i x next A.path h n e) ∙ first_turn l ws A.above i x h A.one ∙ A.finds

  module _ {c : ℕ} (ec : c ≡ refcount ws next) where
    -- the next node has one holder too
    pub goes_on_lem : c ≤ 1 → Walked N (l - 1) ws x next p
    goes_on_lem b = record { above = i; path = next_path N l ws i x next A.path h n e; one = subst (λ k. k ≤ 1) ec b; finds = below }

    -- it has more
    pub next_shared : {k : ℕ} → 1 < c → IsShared k (record { level = l - 1; node = next; above = i }) p
    next_shared b = (let f = sym (first_here ws i next x (l - 1) (subst (λ k. 1 < k) ec b)) ∙ below in
        rw (sym f) (record { rest = refl; found = refl; linked = λ _. refl }))

-- the leaf
pub leaf_alone : {N l : ℕ} {ws : List ℕ} {x i : ℕ} {p : ℕ × ℕ × ℕ} → Walked N l ws x i p → l ≤ 0 → IsAlone i p
leaf_alone {N} {l} {ws} {x} {i} A b = (let f = sym (first_none ws A.above i x A.one) ∙ ap (λ k. first_shared k ws A.above i x) {x = 0} {y = l} (omega arith) ∙ A.finds in
    rw (sym f) (record { rest = refl; found = refl }))

-- ---- the write

wrote : {p q : List ℕ × ℕ × ℕ × ℕ} → p ≡ q → Wrote q p.0 p.1 p.2 p.3
wrote e = (ap (λ p. p.0) e, ap (λ p. p.1) e, ap (λ p. p.2) e, ap (λ p. p.3) e)

less_one : (k m : ℕ) → k - m - 1 ≡ k - suc m
less_one k m = omega arith

-- of a shared node
module _ (h : ℕ) (ws : List ℕ) (free k root x v : ℕ) {s : Shared} (f : IsShared h s (first_shared h ws root root x)) where
  abbrev m : ℕ
  m = s.level

  abbrev i : ℕ
  i = s.node

  abbrev p : ℕ × ℕ × ℕ
  p = first_shared h ws root root x

  rest_is : p.0 ≡ suc m
  rest_is = f.rest

  from : write_from (suc m) i p.2 h ws free k root x v ≡ write h ws free k root x v
  unfolding write
  from = rw (sym rest_is, f.found)

  module _ {N : ℕ} (W : WriteIn N h ws free x p) where
    pub level_in : m ≤ h
    level_in = omega (arith, rest_is, W.within)

    copies_in : CopyIn N m ws free i x
    copies_in =
        let e : p.0 - 1 ≡ m = omega (arith, rest_is) in
        subst (λ j. CopyIn N m ws free j x) (sym f.found) (subst (λ l. CopyIn N l ws free p.1 x) e (W.copies (omega (arith, rest_is))))

    pub free_in_lem : free < N
    free_in_lem = copy_here N m ws free i x copies_in

    pub above_in : m < h → s.above < N
    above_in l = omega (arith, f.linked l, W.above (omega (arith, rest_is)) (omega (arith, rest_is)))

  pub write_root : {w : List ℕ} {n : ℕ} → m ≡ h → (w ≡ (renew m ws free i x v).0) × (n ≡ (renew m ws free i x v).1) → Wrote (write h ws free k root x v) w n (k - m - 1) free
  write_root e r =
      let t = wrote (sym (from_root i p.2 h ws free k root x v m e) ∙ from) in
      rw (r.0, r.1) (t.0, t.1, less_one k m ∙ t.2, t.3)

  pub write_below : {w w' : List ℕ} {n : ℕ} → m < h → (w ≡ (renew m ws free i x v).0) × (n ≡ (renew m ws free i x v).1) → w' ≡ set_link w s.above (bit m x) free → Wrote (write h ws free k root x v) w' n (k - m - 1) root
  write_below {w = w} l r q =
      let t = wrote (sym (from_below i p.2 h ws free k root x v m (λ e. omega arith)) ∙ from) in
      let g : set_link w s.above (bit m x) free ≡ set_link w p.2 (bit m x) free = ap (λ j. set_link w j (bit m x) free) (f.linked l) in
      rw (q, g, r.0, r.1) (t.0, t.1, less_one k m ∙ t.2, t.3)
