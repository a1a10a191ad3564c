-- Document 02's R-5: siblings, and the order of the live frames, "siblings eldest first and each, after all below it, before its parent". A frame's record
-- names its next younger live sibling. Definitions only.
use Rattle.std.specs.Prelude.{Bool, cond, ◌||◌, ◌&&◌, ◌≡◌, List, [], ◌∷◌, ℕ, zero, suc, ◌≤◌, ◌<◌, length, eqb, ltb}
use Rattle.words.specs.Basics.{none, plus, minus, count, Chain}
use Rattle.reducers.specs.declared.View.{View}
use Rattle.reducers.specs.Reducers.{join_view}
use Rattle.frames.specs.declared.Frame.{Frame}
use Rattle.frames.specs.Widths.{max_places}
use Rattle.frames.specs.Frames.{frame_at, set_frame, with_view, with_younger}

-- a list's first element, or d
abbrev pub head_or : ℕ → List ℕ → ℕ
head_or d [] = d
head_or d (x ∷ xs) = x

-- c is a live child of the frame at q
abbrev pub live_child : List Frame → ℕ → ℕ → Bool
live_child fs q c = eqb (frame_at fs c).live 1 && eqb (frame_at fs c).parent q

-- the next younger sibling
abbrev pub younger : List Frame → ℕ → ℕ
younger fs c = (frame_at fs c).younger

-- the links from c on go through k live children of q and end there
unfoldable pub chained : ℕ → List Frame → ℕ → ℕ → Bool
chained zero fs q c = eqb c none
chained (suc k) fs q c = ltb c (length fs) && (live_child fs q c && chained k fs q (younger fs c))

-- cs are the live children of q, each once, in the order of the links, the eldest first; no place is none
pub record Children (fs : List Frame) (q : ℕ) (cs : List ℕ) : Type 0 where
  pub few : length fs ≤ max_places
  pub chain : Chain (younger fs) (length fs) (head_or none cs) cs
  pub each : (c : ℕ) → c < length fs → count c cs ≡ cond (live_child fs q c) 1 0

-- c is a live child of q that names x as its next younger sibling
abbrev pub names : List Frame → ℕ → ℕ → ℕ → Bool
names fs q x c = live_child fs q c && eqb (younger fs c) x

-- of the n places from c on: the first live child of q that names x as its next younger sibling names y instead (in a sound state there is one at most)
unfoldable pub relink_from : ℕ → List Frame → ℕ → ℕ → ℕ → ℕ → List Frame
relink_from zero fs q x y c = fs
relink_from (suc n) fs q x y c = let later = relink_from n fs q x y (suc c) in cond (names fs q x c) (set_frame fs c (with_younger (frame_at fs c) y)) later

abbrev pub relink : List Frame → ℕ → ℕ → ℕ → List Frame
relink fs q x y = relink_from (length fs) fs q x y 0

-- the sum e and, if c is a live child of q, its place less the one that it names
abbrev pub eldest_at : List Frame → ℕ → ℕ → ℕ → ℕ
eldest_at fs q c e = cond (live_child fs q c) (minus (plus e c) (frame_at fs c).younger) e

-- the eldest live child of q: the places of the children less those that they name, the youngest naming none, which is -1; what is left is the
-- one that none of them names (Theory.Siblings shows this)
unfoldable pub eldest_to : ℕ → List Frame → ℕ → ℕ
eldest_to zero fs q = none
eldest_to (suc n) fs q = let e = eldest_to n fs q in eldest_at fs q n e

abbrev pub eldest : List Frame → ℕ → ℕ
eldest fs q = eldest_to (length fs) fs q

-- "each, after all below it": the first in the order of the frame at q and all below it, n generations down at most
unfoldable pub first_from : ℕ → List Frame → ℕ → ℕ
first_from zero fs q = q
first_from (suc n) fs q = let deeper = first_from n fs (eldest fs q) in cond (eqb (frame_at fs q).outstanding 0) q deeper

-- the frame at p, which is not Main, has no live sibling
abbrev pub only_child : List Frame → ℕ → Bool
only_child fs p = eqb (frame_at fs (frame_at fs p).parent).outstanding 1

-- "the next one's in that order", after the frame at p, which has no live child: its parent if it has no younger live sibling, or else the first of its
-- next younger sibling and all below that
unfoldable pub next_after : List Frame → ℕ → ℕ
next_after fs p =
    let younger : ℕ = (frame_at fs p).younger in
    cond (only_child fs p || eqb younger none) (frame_at fs p).parent (first_from (length fs) fs younger)

-- "joins on the left"
abbrev pub join_at : List Frame → ℕ → View → List Frame
join_at fs n v = set_frame fs n (with_view (frame_at fs n) (join_view v (frame_at fs n).view))
