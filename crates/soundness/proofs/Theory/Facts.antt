-- Document 01's "Soundness" with R-3's, R-5's and R-6's sentences, those on numbers, totals, frames and deques, as facts. Sentences has that the tests are these facts.
use Rattle.std.specs.Prelude.{◌≡◌, ◌≢◌, ◌⊎◌, true, List, ℕ, zero, suc, ◌*◌, ◌≤◌, ◌<◌, length, get_or, eqb}
use Rattle.std.proofs.Common.{sym, ap, arith, eq-eqb, ne_eqb}
use Rattle.std.proofs.Math.Decide.{ℕ_discrete}
use Rattle.words.specs.Basics.{none, sum, how_many, δ, count}
use Rattle.words.specs.Counting.{δ_same, δ_other, count_nil, count_cons, sum_cong, hit, miss}
use Rattle.sizes.specs.Sizes.{tree_nodes}
use Rattle.frames.specs.Widths.{max_workers, max_places, deque_places}
use Rattle.frames.specs.declared.Frame.{Frame}
use Rattle.frames.specs.Frames.{frame_at, free_record}
use Rattle.frames.specs.Siblings.{younger, Children}
use Rattle.frames.specs.Deques.{size, place, places_to, deque_list}
use Rattle.frames.proofs.Theory.Places.{FreePlaces}
use Rattle.soundness.specs.declared.Numbers.{Numbers}
use Rattle.soundness.specs.Numbers.{total_count}
use Rattle.soundness.proofs.Theory.Is.{Is, eq_is, and_is}
use Rattle.soundness.specs.Soundness.{is_child, children, in_deques, live_roots}
use Rattle.soundness.specs.Layout.{Layout, pool_sound}

-- ---- terms

abbrev pub Lives : List Frame → ℕ → Type 0
Lives fs p = (frame_at fs p).live ≡ 1

-- in how many places of deques the frame at p stands
abbrev pub stands : List ℕ → ℕ → ℕ
stands ds p = sum max_workers (λ w. count p (deque_list ds w))

places_count : (n : ℕ) (ds : List ℕ) (w p : ℕ) → how_many n (λ k. eqb (place ds w k) p) ≡ count p (places_to n ds w)
unfolding places_to
places_count zero ds w p = sym (count_nil p)
places_count (suc n) ds w p = elim (ℕ_discrete (place ds w n) p) [
  | yes e ↦ omega (arith, places_count n ds w p, count_cons p (place ds w n) (places_to n ds w), hit (eq-eqb (place ds w n) p e), ap (δ p) e, δ_same p)
  | no e ↦ omega (arith, places_count n ds w p, count_cons p (place ds w n) (places_to n ds w), miss (ne_eqb (place ds w n) p e), δ_other p (place ds w n) (λ q. e (sym q)))
]

pub stands_is : (ds : List ℕ) (p : ℕ) → in_deques ds p ≡ stands ds p
unfolding deque_list
stands_is ds p = sum_cong max_workers (λ w. how_many (size ds w) (λ k. eqb (place ds w k) p)) (λ w. count p (deque_list ds w)) (λ w b. places_count (size ds w) ds w p)

-- c is a live child of the frame at p
pub child_is : (fs : List Frame) (p c : ℕ) → Is (is_child fs p c) (Lives fs c × ((frame_at fs c).parent ≡ p))
child_is fs p c = and_is (eq_is (frame_at fs c).live 1) (eq_is (frame_at fs c).parent p)

pub child_at_lem : (fs : List Frame) (p c : ℕ) → is_child fs p c ≡ true → Lives fs c × ((frame_at fs c).parent ≡ p)
child_at_lem fs p c = (child_is fs p c).fact

pub at_child : (fs : List Frame) (p c : ℕ) → Lives fs c → (frame_at fs c).parent ≡ p → is_child fs p c ≡ true
at_child fs p c l e = (child_is fs p c).test (l, e)

-- ---- the facts

-- "Either no frame lives and all deques are empty"
abbrev pub NoFrame : List ℕ → List Frame → Type 0
NoFrame ds fs = ((p : ℕ) → p < length fs → Lives fs p → ⊥) × ((w : ℕ) → w < max_workers → size ds w ≡ 0)

-- "or just one live frame has depth 0, with parent none"
pub record OnlyMain (fs : List Frame) : Type 0 where
  pub main : ℕ
  pub inside : main < length fs
  pub alive : Lives fs main
  pub flat : (frame_at fs main).depth ≡ 0
  pub orphan : (frame_at fs main).parent ≡ none
  pub only : (p : ℕ) → p < length fs → Lives fs p → (frame_at fs p).depth ≡ 0 → p ≡ main

-- "a live parent one shallower"
abbrev pub HasParent : List Frame → ℕ → Type 0
HasParent fs p = ((frame_at fs p).parent < length fs) × Lives fs (frame_at fs p).parent × ((frame_at fs p).depth ≡ suc (frame_at fs (frame_at fs p).parent).depth)

-- "either in just one place of one deque and not suspended, or in none and suspended with a live child"
abbrev pub Placed : List ℕ → List Frame → ℕ → Type 0
Placed ds fs p = ((stands ds p ≡ 1) × ((frame_at fs p).suspended ≡ 0)) ⊎ ((stands ds p ≡ 0) × ((frame_at fs p).suspended ≡ 1) × (0 < children fs p))

-- R-3: "1 on a frame waiting so, which is suspended, else 0"
abbrev pub Returning : List Frame → ℕ → Type 0
Returning fs p = ((frame_at fs p).returning ≡ 0) ⊎ (((frame_at fs p).returning ≡ 1) × ((frame_at fs p).suspended ≡ 1))

-- R-5: "these links chain the live children of each frame, each once"
abbrev pub Siblings : List Frame → ℕ → Type 0
Siblings fs q = (cs : List ℕ) × Children fs q cs

-- R-5: the totals, "zero while Main lives"; where a frame lives Main does
abbrev pub TotalsZero : List ℕ → List Frame → Type 0
TotalsZero ts fs = (p : ℕ) → p < length fs → Lives fs p → (i : ℕ) → i < total_count → get_or ts i 0 ≡ 0

-- "Free frame places lie once on theirs, all but the link to the next being zero."
pub record PlacesFree (fs : List Frame) (first : ℕ) : Type 0 where
  pub gs : List ℕ
  pub chain : FreePlaces fs first gs
  pub each : (p : ℕ) → p < length fs → (Lives fs p × (count p gs ≡ 0)) ⊎ (((q : ℕ) × (frame_at fs p ≡ free_record q)) × (count p gs ≡ 1))

pub record FramesFacts (workers first : ℕ) (ds : List ℕ) (fs : List Frame) : Type 0 where
  pub one_main_lem : NoFrame ds fs ⊎ OnlyMain fs
  pub parents : (p : ℕ) → p < length fs → Lives fs p → (frame_at fs p).depth ≢ 0 → HasParent fs p
  pub outstanding : (p : ℕ) → p < length fs → Lives fs p → (frame_at fs p).outstanding ≡ children fs p
  pub placed : (p : ℕ) → p < length fs → Lives fs p → Placed ds fs p
  pub returning : (p : ℕ) → p < length fs → Lives fs p → Returning fs p
  pub siblings : (q : ℕ) → q < length fs → Lives fs q → Siblings fs q
  pub main-link : (p : ℕ) → p < length fs → Lives fs p → (frame_at fs p).depth ≡ 0 → younger fs p ≡ none
  pub hold_live_lem : (w : ℕ) → w < max_workers → (k : ℕ) → k < size ds w → (place ds w k < length fs) × Lives fs (place ds w k)
  pub absent : (w : ℕ) → w < max_workers → workers ≤ w → size ds w ≡ 0
  pub within : (w : ℕ) → w < max_workers → size ds w ≤ length fs
  pub zeros : (w : ℕ) → w < max_workers → (k : ℕ) → size ds w ≤ k → k < deque_places → place ds w k ≡ 0
  pub child_of_above : (w : ℕ) → w < max_workers → (k : ℕ) → suc k < size ds w → (frame_at fs (place ds w (suc k))).parent ≡ place ds w k
  pub only_below : (w : ℕ) → w < max_workers → (k : ℕ) → suc k < size ds w → (c : ℕ) → c < length fs → Lives fs c → (frame_at fs c).parent ≡ place ds w (suc k)
      → (suc (suc k) < size ds w) × (c ≡ place ds w (suc (suc k)))
  pub places : PlacesFree fs first

-- "Workers are 1 to 8, n is 1 to 256. The recorded node count is T(n) to 16,384 and at most what the lent pool holds." R-6:
-- "a recorded length not 1 to 256, or a table of another length, is unsound."
pub record NumbersFacts (L : Layout) (s : Numbers) (fs : List Frame) (ws : List ℕ) : Type 0 where
  pub workers_positive : 1 ≤ s.workers
  pub workers_le : s.workers ≤ max_workers
  pub splitters_positive : 1 ≤ s.splitters
  pub splitters_le : s.splitters ≤ 256
  pub enough : tree_nodes s.splitters ≤ s.nodes
  pub nodes_le : s.nodes ≤ 16384
  pub room : L.words * s.nodes ≤ length ws
  pub places_positive : 1 ≤ s.places
  pub places_le : s.places ≤ max_places
  pub table : length fs ≡ s.places

pub few_places : {L : Layout} {s : Numbers} {fs : List Frame} {ws : List ℕ} → NumbersFacts L s fs ws → length fs ≤ max_places
few_places N = omega (arith, N.places_le, N.table)

-- "State and pool are sound if all of this is true." The pool's part is in PoolSentences
pub record SoundFacts (L : Layout) (s : Numbers) (ts ds : List ℕ) (fs : List Frame) (ws : List ℕ) : Type 0 where
  pub numbers : NumbersFacts L s fs ws
  pub totals : TotalsZero ts fs
  pub frames : FramesFacts s.workers s.free_place ds fs
  pub pool : pool_sound L s.splitters s.nodes ws s.free_node (live_roots fs) ≡ true
