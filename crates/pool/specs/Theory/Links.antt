-- Links in range: what every change of the pool keeps, and what a walk meets.
use Rattle.std.specs.Prelude.{◌≡◌, ◌≢◌, List, ℕ, zero, suc, ◌-◌, ◌≤◌, ◌<◌, length}
use Rattle.std.proofs.Common.{sym, subst, inl, inr, arith, sub-one, eq-eqb, ne_eqb}
use Rattle.std.proofs.Math.Decide.{ℕ_discrete, dec_le}
use Rattle.words.specs.Basics.{none, plus}
use Rattle.sizes.specs.Sizes.{bit}
use Rattle.pool.specs.Pool.{refcount, left, right, set_node, set_refcount, child, freed, release}
use Rattle.pool.specs.Links.{Link, LinksIn, PathIn}
use Rattle.pool.specs.Theory.Nodes.{SameContent, length-set_node, set_node_is, set_node_other, length-set_refcount, set_refcount-content}
use Rattle.pool.specs.Theory.Release.{release-none, release_held}

-- a link that is not none is a node
pub link_in_lem : {N i : ℕ} → Link N i → i ≢ none → i < N
link_in_lem (inl h) o = h
link_in_lem (inr e) o = absurd (o e)

-- ---- a walk

pub path_here : (N : ℕ) (ws : List ℕ) (l i x : ℕ) → PathIn N ws l i x → i < N
path_here N ws zero i x p = p
path_here N ws (suc l) i x p = p.0

pub path_on : (N : ℕ) (ws : List ℕ) (l i x : ℕ) → 0 < l → PathIn N ws l i x → PathIn N ws (l - 1) (child ws i (bit (l - 1) x)) x
path_on N ws zero i x h p = absurd (omega arith)
path_on N ws (suc l) i x h p = rw sub-one p.1

-- ---- a store

-- the same links
links-content : {N : ℕ} {ws ws' : List ℕ} → length ws' ≡ length ws → ((j : ℕ) → SameContent ws ws' j) → LinksIn N ws → LinksIn N ws'
links-content {N} n s L = record {
  room = omega (arith, L.room);
  lefts = λ j b. subst (Link N) (sym (s j).same_left) (L.lefts j b);
  rights = λ j b. subst (Link N) (sym (s j).same-right) (L.rights j b);
}

pub links-set_refcount : {N : ℕ} {ws : List ℕ} (i c : ℕ) → LinksIn N ws → LinksIn N (set_refcount ws i c)
links-set_refcount {ws = ws} i c L = links-content (length-set_refcount ws i c) (set_refcount-content ws i c) L

pub links-set_node : {N : ℕ} {ws : List ℕ} (i c l r v : ℕ) → Link N l → Link N r → LinksIn N ws → LinksIn N (set_node ws i c l r v)
links-set_node {N} {ws} i c l r v p q L = record {
  room = omega (arith, L.room, length-set_node ws i c l r v);
  lefts = λ j b. elim (ℕ_discrete j i) [
    | yes e ↦ subst (λ k. Link N (left (set_node ws i c l r v) k)) (sym e) (subst (Link N) (sym (set_node_is ws i c l r v (omega (arith, L.room))).left_is) p)
    | no o ↦ subst (Link N) (sym (set_node_other ws i j c l r v o).content.same_left) (L.lefts j b)
  ];
  rights = λ j b. elim (ℕ_discrete j i) [
    | yes e ↦ subst (λ k. Link N (right (set_node ws i c l r v) k)) (sym e) (subst (Link N) (sym (set_node_is ws i c l r v (omega (arith, L.room))).right_is) q)
    | no o ↦ subst (Link N) (sym (set_node_other ws i j c l r v o).content.same-right) (L.rights j b)
  ];
}

pub links-freed : {N : ℕ} {ws : List ℕ} (free i : ℕ) → 0 < N → Link N free → LinksIn N ws → LinksIn N (freed ws free i)
links-freed free i z f L = links-set_node i 0 free 0 0 f (inl z) L

-- ---- a release

-- the links of a pool and its first free node
abbrev pub ListIn : ℕ → List ℕ × ℕ × ℕ → Type 0
ListIn N p = LinksIn N p.0 × Link N p.1

-- the last holder lets go
last_leaf : (ws : List ℕ) (free k i : ℕ) → i ≢ none → refcount ws i ≤ 1 → release zero ws free k i ≡ (freed ws free i, i, plus k 1)
unfolding release
last_leaf ws free k i o h = rw (ne_eqb i none o, eq-eqb (refcount ws i - 1) 0 (omega arith), release)

last_inner : (l : ℕ) (ws : List ℕ) (free k i : ℕ) → i ≢ none → refcount ws i ≤ 1
    → release (suc l) ws free k i ≡ (let p : List ℕ × ℕ × ℕ = release l (freed ws free i) i (plus k 1) (left ws i) in release l p.0 p.1 p.2 (right ws i))
unfolding release
last_inner l ws free k i o h = rw (ne_eqb i none o, eq-eqb (refcount ws i - 1) 0 (omega arith), release)

-- a release, if it is right where the last holder goes
release_by : (N l : ℕ) (ws : List ℕ) (free k i : ℕ) → LinksIn N ws → Link N free → Link N i
    → (i ≢ none → i < N → refcount ws i ≤ 1 → ListIn N (release l ws free k i)) → ListIn N (release l ws free k i)
release_by N l ws free k i L f (inr e) z = subst (ListIn N) (sym (release-none l ws free k i e)) (L, f)
release_by N l ws free k i L f (inl b) z = elim (ℕ_discrete i none) [
  | yes e ↦ subst (ListIn N) (sym (release-none l ws free k i e)) (L, f)
  | no o ↦ elim (dec_le (refcount ws i) 1) [
    | yes h ↦ z o b h
    | no h ↦ subst (ListIn N) (sym (release_held l ws free k i o (omega arith))) (links-set_refcount i (refcount ws i - 1) L, f)
  ]
]

pub release-links : (N l : ℕ) (ws : List ℕ) (free k i : ℕ) → LinksIn N ws → 0 < N → Link N free → Link N i → ListIn N (release l ws free k i)
release-links N zero ws free k i L p f m = release_by N zero ws free k i L f m (λ o b h.
    subst (ListIn N) (sym (last_leaf ws free k i o h)) (links-freed free i p f L, inl b))
release-links N (suc l) ws free k i L p f m = release_by N (suc l) ws free k i L f m (λ o b h.
    let q : List ℕ × ℕ × ℕ = release l (freed ws free i) i (plus k 1) (left ws i) in
    let A = release-links N l (freed ws free i) i (plus k 1) (left ws i) (links-freed free i p f L) p (inl b) (L.lefts i b) in
    subst (ListIn N) (sym (last_inner l ws free k i o h)) (release-links N l q.0 q.1 q.2 (right ws i) A.0 p A.1 (L.rights i b)))
