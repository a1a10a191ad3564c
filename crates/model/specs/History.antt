-- Histories of writes, and the nodes that they keep in use. Definitions only.
use Rattle.std.specs.Prelude.{cond, List, [], ◌∷◌, map, ℕ, suc, ◌/◌, ◌^◌, eqb}
use Rattle.words.specs.Basics.{sum, distinct}
use Rattle.sizes.specs.Sizes.{height, width}

-- a write, named alike in every run with the same frames' steps: the number of writes before it in its frame's history,
-- then the name of its frame. The start, which counts as a write to every splitter, is []
abbrev pub Mark : Type 0
Mark = List ℕ

pub record Event : Type 0 where
  pub splitter : ℕ
  pub mark : Mark

-- document 01: "A frame's history is its parent's history up to its spawn, then its own writes"; the newest first. The
-- start stands below every history
abbrev pub History : Type 0
History = List Event

-- "the last write in that frame's history to a member of the group" g of level l
abbrev pub last_write : ℕ → ℕ → History → Mark
last_write l g [] = []
last_write l g (e ∷ es) = let r = last_write l g es in cond (eqb (e.splitter / 2 ^ l) g) e.mark r

-- "Nodes in use are the distinct triples, over all live frames, of a level l, a group (splitter number divided by 2^l,
-- rounded down) and the last write in that frame's history to a member of the group."
unfoldable pub nodes_in_use : ℕ → List History → ℕ
nodes_in_use n hs = sum (suc (height n)) (λ l. sum (width n l) (λ g. distinct (map (last_write l g) hs)))
