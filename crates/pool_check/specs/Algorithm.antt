-- The check of the pool as the code runs it, for nodes that are read as R says. Definitions only; every one is total.
-- A word of the work slice w is 0 if the node was not visited; else the node's stamp, which has its level, plus 8192 times the links
-- counted to it.
use Rattle.std.specs.Prelude.{◌≡◌, Bool, true, false, cond, ◌&&◌, List, ℕ, zero, suc, ◌+◌, ◌-◌, ◌*◌, ◌/◌, ◌%◌, ◌^◌, ◌≤◌, ◌<◌, min, eqb, ltb, length, get_or, set, None, Some, Option}
use Rattle.words.specs.Basics.{none, plus, sum, all}
use Rattle.sizes.specs.Sizes.{height}
use Rattle.frames.specs.declared.Frame.{Frame}
use Rattle.frames.specs.Frames.{frame_at}
use Rattle.frames.specs.Widths.{max_places}
use Rattle.soundness.specs.Soundness.{lives, cleared}
use Rattle.pool_check.specs.Answer.{in_bounds, pool_checked}
use Rattle.pool_check.specs.Reading.{Reading}
use Rattle.pool_check.specs.declared.trees.Arrival.{Arrival}
use Rattle.pool_check.specs.declared.trees.Arrival.TheVariants.{Refused, Done, First}

-- 1 if node i was visited, else 0
abbrev pub mark : List ℕ → ℕ → ℕ
mark w i = min 1 (get_or w i 0)

abbrev pub links : List ℕ → ℕ → ℕ
links w i = get_or w i 0 / 8192

-- 1 if node i was not visited, else 0
abbrev pub fresh : List ℕ → ℕ → ℕ
fresh w i = 1 - mark w i

-- how a node stands in its trees: its level l, and the k splitters under it
abbrev pub stamp : ℕ → ℕ → ℕ
stamp l k = 512 * l + k

-- the second, if the first went well
abbrev pub and_then : List ℕ × Bool → (List ℕ → List ℕ × Bool) → List ℕ × Bool
and_then p f = elim p.1 [ true ↦ f p.0 | false ↦ (p.0, false) ]

-- node i visited for the first time, by one link
abbrev pub stamped : List ℕ → ℕ → ℕ → List ℕ
stamped w i s = set w i (s + 8192)

-- one link more to node i
abbrev pub linked : List ℕ → ℕ → List ℕ
linked w i = set w i (plus (get_or w i 0) 8192)

-- ---- the trees

module _ (R : Reading) where
  -- a link to node i, which is to stand at level l over k splitters. At the first visit it is stamped so, and f goes on; later the
  -- stamp must be the same: no node is reached on two levels
  abbrev pub meet : ℕ → List ℕ → ℕ → ℕ → ℕ → List ℕ → (List ℕ → List ℕ × Bool) → List ℕ × Bool
  meet N ws l k i w f =
      elim (ltb i N) [
        | true ↦ elim (eqb (get_or w i 0) 0) [
          | true ↦ elim (R.shaped ws l i) [ true ↦ f (stamped w i (stamp l k)) | false ↦ (stamped w i (stamp l k), false) ]
          | false ↦ (linked w i, eqb (get_or w i 0 % 8192) (stamp l k))
        ]
        | false ↦ (w, false)
      ]

  -- the children of node i, at level l, which stands over k splitters; v visits one
  abbrev pub children : List ℕ → ℕ → ℕ → ℕ → (ℕ → ℕ → List ℕ → List ℕ × Bool) → List ℕ → List ℕ × Bool
  children ws l k i v w =
      and_then (v (min k (2 ^ l)) (R.left ws i) w) (λ w'. elim (eqb (k - 2 ^ l) 0) [ true ↦ (w', eqb (R.right ws i) R.none) | false ↦ v (k - 2 ^ l) (R.right ws i) w' ])

  -- a link to node i, which is to be the root of a tree of level l over k splitters: the tree is walked at the first visit only
  unfoldable pub visit : ℕ → List ℕ → ℕ → ℕ → ℕ → List ℕ → List ℕ × Bool
  visit N ws zero k i w = meet N ws zero k i w (λ w'. (w', true))
  visit N ws (suc l) k i w = meet N ws (suc l) k i w (children ws l k i (visit N ws l))

  -- what such a first visit does below the node
  unfoldable pub below : ℕ → List ℕ → ℕ → ℕ → ℕ → List ℕ → List ℕ × Bool
  below N ws zero k i w = (w, true)
  below N ws (suc l) k i w = children ws l k i (visit N ws l) w

  -- the tree, of height h over n splitters, of the frame f, if it lives
  abbrev pub root_visited : ℕ → ℕ → ℕ → List ℕ → Frame → List ℕ → List ℕ × Bool
  root_visited n h N ws f w = elim (eqb f.live 1) [ true ↦ visit N ws h n f.root w | false ↦ (w, true) ]

  -- the tree of the frame at place p
  unfoldable pub visit_place : ℕ → ℕ → ℕ → List Frame → List ℕ → ℕ → List ℕ → List ℕ × Bool
  visit_place n h N fs ws p w = root_visited n h N ws (frame_at fs p) w

  -- those of the places below c
  unfoldable pub visit_places : ℕ → ℕ → ℕ → List Frame → List ℕ → ℕ → List ℕ → List ℕ × Bool
  visit_places n h N fs ws zero w = (w, true)
  visit_places n h N fs ws (suc c) w = and_then (visit_places n h N fs ws c w) (visit_place n h N fs ws c)

-- the visit when its node was met: f goes on below the node at its first visit
abbrev pub onward : Arrival → List ℕ → (List ℕ → List ℕ × Bool) → List ℕ × Bool
onward Refused w f = (w, false)
onward Done w f = (w, true)
onward First w f = f w

-- node i was met, with the answer r; the work slice was w and is w'
pub record Met (R : Reading) (N : ℕ) (ws : List ℕ) (l k i : ℕ) (w w' : List ℕ) (r : Arrival) : Type 0 where
  pub is : visit R N ws l k i w ≡ onward r w' (below R N ws l k i)
  pub first : r ≡ First → (i < N) × (0 < l)

-- pool and work slice have room for N nodes, and a stamp for a word
pub record Roomy (R : Reading) (N : ℕ) (ws w : List ℕ) (l k : ℕ) : Type 0 where
  pub pool : R.layout.words * N ≤ length ws
  pub work : N ≤ length w
  pub level : l ≤ 8
  pub part : k ≤ 256

-- from place `end` on no frame lives, so the visits may end there
abbrev pub DeadFrom : List Frame → ℕ → Type 0
DeadFrom fs end = (end ≤ length fs) × ((p : ℕ) → end ≤ p → p < length fs → lives fs p ≡ false)

-- ---- the nodes

-- the links counted to node i; none, if it was not visited
abbrev pub counted : List ℕ → ℕ → ℕ
counted w i = cond (eqb (mark w i) 1) (links w i) 0

-- how many were not visited
abbrev pub unvisited : ℕ → List ℕ → ℕ
unvisited N w = sum N (fresh w)

-- ---- nodes, free chain, and the whole

module _ (R : Reading) where
  -- the links counted to node i are its holders
  unfoldable pub node_right : List ℕ → List ℕ → ℕ → Bool
  node_right ws w i = eqb (R.holders ws i) (counted w i)

  -- the chain from node a on has just c nodes, all of them vacant
  unfoldable pub chain_from : ℕ → List ℕ → List ℕ → ℕ → ℕ → Bool
  chain_from N ws w zero a = eqb a none
  chain_from N ws w (suc c) a = ltb a N && (R.vacant ws w a && chain_from N ws w c (R.next_free ws a))

  -- the nodes and the free chain, after the trees
  unfoldable pub settle : ℕ → List ℕ → ℕ → List ℕ → Option ℕ
  settle N ws first w = cond (all N (node_right ws w) && chain_from N ws w (unvisited N w) first) (Some (unvisited N w)) None

  -- w begins with N zeros
  unfoldable pub run_check : ℕ → ℕ → ℕ → List Frame → List ℕ → List ℕ → List ℕ × Option ℕ
  run_check n N first fs ws w =
      elim (in_bounds R.layout n N ws w) [
        | true ↦
            let p : List ℕ × Bool = visit_places R n (height n) N fs ws (length fs) w in
            elim p.1 [ true ↦ (p.0, settle N ws first p.0) | false ↦ (p.0, None) ]
        | false ↦ (w, None)
      ]

-- the answer of the check, over a cleared work slice, is soundness
abbrev pub Answers : Reading → Type 0
Answers R =
    (n N first : ℕ) (fs : List Frame) (ws w : List ℕ) → length fs ≤ max_places
    → (run_check R n N first fs ws (cleared N w)).1 ≡ pool_checked R.layout n N first fs ws w
