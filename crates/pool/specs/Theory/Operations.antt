-- Spawn and return on a pool with live roots: a spawn retains a root, a return releases it. This and Write is all that a sound
-- pool gives that comes from elsewhere, with no history.
use Rattle.std.specs.Prelude.{◌≡◌, List, ◌∷◌, ℕ, ◌+◌, ◌*◌, ◌≤◌, ◌<◌, ◌^◌, length, drop}
use Rattle.std.proofs.Common.{sym, ap, ◌∙◌, subst, arith, mod-eq_of_lt}
use Rattle.std.proofs.Math.Decide.{ℕ_discrete}
use Rattle.words.specs.Basics.{none, count}
use Rattle.words.specs.Counting.{δ_same, δ_other, count_cons}
use Rattle.pool.specs.Pool.{refcount, value, read_at, retain, release}
use Rattle.pool.specs.Theory.Changes.{Keeps}
use Rattle.pool.specs.Theory.Invariant.{NodeAt, Invariant, used_out, inv_perm}
use Rattle.pool.specs.Theory.Release.{inv_release}
use Rattle.pool.specs.Theory.Retain.{inv_retain}
use Rattle.pool.specs.Theory.Walk.{walk, read_at-walk, Covers, covers_walk, walk_kept}

-- the pool of n splitters, with the roots E of the live frames
pub record Live (N H n : ℕ) (level size : ℕ → ℕ) (ws : List ℕ) (free : ℕ) (fs E : List ℕ) : Type 0 where
  pub inv : Invariant N H level size ws free fs none E
  pub roots : (e : ℕ) → 0 < count e E → NodeAt N level size H n e

-- every walk from root e to a splitter finds the same nodes, and reads the same
pub record SameTree (H n : ℕ) (ws ws' : List ℕ) (e : ℕ) : Type 0 where
  pub nodes : (k y : ℕ) → k ≤ H → y < n → walk k H ws' e y ≡ walk k H ws e y
  pub reads : (y : ℕ) → y < n → read_at H ws' e y ≡ read_at H ws e y

tree_sym : {H n : ℕ} {ws ws' : List ℕ} {e : ℕ} → SameTree H n ws ws' e → SameTree H n ws' ws e
tree_sym T = record { nodes = λ k y h b. sym (T.nodes k y h b); reads = λ y b. sym (T.reads y b) }

-- ---- what each operation gives

pub record Spawned (N H n : ℕ) (level size : ℕ → ℕ) (ws : List ℕ) (free : ℕ) (fs E : List ℕ) (root : ℕ) (ws' : List ℕ) : Type 0 where
  pub live : Live N H n level size ws' free fs (root ∷ E)
  pub same : (e : ℕ) → 0 < count e E → SameTree H n ws ws' e
  pub len : length ws' ≡ length ws
  pub rest : drop (4 * N) ws' ≡ drop (4 * N) ws

pub record Returned (N H n : ℕ) (level size : ℕ → ℕ) (ws : List ℕ) (E : List ℕ) (p : List ℕ × ℕ × ℕ) : Type 0 where
  pub fs' : List ℕ
  pub live : Live N H n level size p.0 p.1 fs' E
  pub counted : p.2 ≡ length fs'
  pub same : (e : ℕ) → 0 < count e E → SameTree H n ws p.0 e
  -- no node is in use that was not
  pub lowered : (j : ℕ) → j < N → refcount p.0 j ≤ refcount ws j
  pub len : length p.0 ≡ length ws
  pub rest : drop (4 * N) p.0 ≡ drop (4 * N) ws

module _ (N H n : ℕ) (small : N ≤ none) (cover : n ≤ 2 ^ H) where
  pub root_covers : {level size : ℕ → ℕ} {ws : List ℕ} {free : ℕ} {fs E : List ℕ} → Live N H n level size ws free fs E → (e y : ℕ) → 0 < count e E → y < n → Covers N level size ws H y e
  root_covers L e y p b =
      let F = L.roots e p in
      record { inside = F.inside; at_level = F.at_level; among = omega (arith, F.of_size, mod-eq_of_lt (in_cover y b)); in_use = used_out L.inv e F.inside (omega (arith, F.inside)) p }
    where
      in_cover : (y : ℕ) → y < n → y < 2 ^ H
      in_cover y b = omega arith

  -- trees of live roots stay in words that keep what is in use
  pub same-tree : {level size : ℕ → ℕ} {ws : List ℕ} {free : ℕ} {fs E : List ℕ} → Live N H n level size ws free fs E → (ws' : List ℕ) → Keeps N ws ws' → (e : ℕ) → 0 < count e E → SameTree H n ws ws' e
  same-tree {ws = ws} L ws' G e p = record {
    nodes = λ k y h b. walk_kept small L.inv ws' G k H y e (root_covers L e y p b);
    reads = λ y b.
        let W = covers_walk small L.inv 0 H y e (omega arith) (root_covers L e y p b) in
        read_at-walk H ws' e y ∙ ap (value ws') (walk_kept small L.inv ws' G 0 H y e (root_covers L e y p b)) ∙ (G _ W.inside W.in_use).same-value ∙ sym (read_at-walk H ws e y);
  }

  -- the order of the roots does not matter
  pub live_perm : {level size : ℕ → ℕ} {ws : List ℕ} {free : ℕ} {fs E : List ℕ} (E' : List ℕ) → ((i : ℕ) → count i E ≡ count i E') → Live N H n level size ws free fs E → Live N H n level size ws free fs E'
  live_perm E' h L = record { inv = inv_perm L.inv E' none (λ i b. omega (arith, h i)); roots = λ e q. L.roots e (omega (arith, h e)) }

  -- ---- spawn

  pub live-spawn : {level size : ℕ → ℕ} {ws : List ℕ} {free : ℕ} {fs E : List ℕ} → Live N H n level size ws free fs E → length E + N * 2 + 4 < 2 ^ 32 → (i : ℕ) → 0 < count i E
      → Spawned N H n level size ws free fs E i (retain ws i)
  live-spawn {level} {size} {ws} {free} {fs} {E} L few i p =
      let F = L.roots i p in
      let h = inv_retain L.inv i small F.inside (used_out L.inv i F.inside (omega (arith, F.inside)) p) (omega arith) in
      record { live = record { inv = h.0; roots = at }; same = same-tree L (retain ws i) h.1.keeps; len = h.1.len; rest = h.1.rest }
    where
      at : (e : ℕ) → 0 < count e (i ∷ E) → NodeAt N level size H n e
      at e q = elim (ℕ_discrete e i) [ yes r ↦ subst (NodeAt N level size H n) (sym r) (L.roots i p) | no r ↦ L.roots e (omega (arith, count_cons e i E, δ_other e i r)) ]

  -- ---- return

  pub live_return : {level size : ℕ → ℕ} {ws : List ℕ} {free : ℕ} {fs : List ℕ} (k i : ℕ) (E : List ℕ) → k ≡ length fs → Live N H n level size ws free fs (i ∷ E)
      → Returned N H n level size ws E (release H ws free k i)
  live_return {level} {size} {ws} {free} {fs} k i E c L =
      let F = L.roots i (omega (arith, count_cons i i E, δ_same i)) in
      let r = inv_release N H small level size H ws free k fs E i (λ _. (F.inside, F.at_level)) c L.inv in
      let L' : Live N H n level size (release H ws free k i).0 (release H ws free k i).1 r.fs E = record { inv = r.inv; roots = λ e q. L.roots e (omega (arith, count_cons e i E)) } in
      record {
        fs' = r.fs;
        live = L';
        counted = r.counted;
        same = λ e q. tree_sym (same-tree L' ws r.shrinks.keeps e q);
        lowered = r.shrinks.up;
        len = sym r.shrinks.len;
        rest = sym r.shrinks.rest;
      }
