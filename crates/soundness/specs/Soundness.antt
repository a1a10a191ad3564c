-- Document 01's paragraph "Soundness", sentence by sentence, R-3's sentence on the word of frames that wait in their return, R-5's on the totals and the
-- links between siblings, and R-6's on the length of the frame table, as tests. Definitions only.
-- A state is its numbers (`Numbers`), the words ts of the four totals, the words ds of the 8 deques and the frame table fs; ws are the lent pool's words.
use Rattle.std.specs.Prelude.{Bool, cond, not, ◌||◌, ◌&&◌, List, [], ◌∷◌, ◌++◌, ℕ, zero, suc, ◌-◌, ◌*◌, length, get_or, replicate, drop, eqb, leb, ltb, Result, Ok, Err}
use Rattle.words.specs.Basics.{none, sum, all, some, how_many, implies, count, follow, below}
use Rattle.sizes.specs.Sizes.{tree_nodes}
use Rattle.frames.specs.Widths.{max_workers, max_places, deque_places}
use Rattle.reducers.specs.declared.View.{View}
use Rattle.frames.specs.declared.Frame.{Frame}
use Rattle.frames.specs.Frames.{frame_at}
use Rattle.frames.specs.Siblings.{younger, chained}
use Rattle.frames.specs.Deques.{size, place}
use Rattle.soundness.specs.Numbers.{total_count}
use Rattle.soundness.specs.Sentence.{Sentence, says, all_of}
use Rattle.soundness.specs.Layout.{Layout, pool_sound}
use Rattle.soundness.specs.declared.Numbers.{Numbers}
use Rattle.soundness.specs.declared.CheckError.{CheckError}
use Rattle.soundness.specs.declared.CheckError.TheVariants.{NoRoom, Unsound}

-- ---- numbers

abbrev pub number_sentences : Layout → Numbers → List Frame → List ℕ → List Sentence
number_sentences L s fs ws =
    says "Workers are 1 .." (leb 1 s.workers) ∷
    says ".. to 8" (leb s.workers max_workers) ∷
    says "n is 1 .." (leb 1 s.splitters) ∷
    says ".. to 256." (leb s.splitters 256) ∷
    says "The recorded node count is T(n) .." (leb (tree_nodes s.splitters) s.nodes) ∷
    says ".. to 16,384" (leb s.nodes 16384) ∷
    says "and at most what the lent pool holds." (leb (L.words * s.nodes) (length ws)) ∷
    -- R-6
    says "a recorded length not 1 .." (leb 1 s.places) ∷
    says ".. to 256," (leb s.places max_places) ∷
    says "or a table of another length, is unsound." (eqb (length fs) s.places) ∷
    []

unfoldable pub numbers_sound : Layout → Numbers → List Frame → List ℕ → Bool
numbers_sound L s fs ws = all_of (number_sentences L s fs ws)

-- ---- frames and deques: terms

abbrev pub lives : List Frame → ℕ → Bool
lives fs p = eqb (frame_at fs p).live 1

-- c is a live child of the frame at p
abbrev pub is_child : List Frame → ℕ → ℕ → Bool
is_child fs p c = lives fs c && eqb (frame_at fs c).parent p

abbrev pub children : List Frame → ℕ → ℕ
children fs p = how_many (length fs) (is_child fs p)

-- in how many places of deques the frame at p stands
abbrev pub in_deques : List ℕ → ℕ → ℕ
in_deques ds p = sum max_workers (λ w. how_many (size ds w) (λ k. eqb (place ds w k) p))

-- ---- frames and deques: the sentences

-- "Either no frame lives and all deques are empty, or just one live frame has depth 0, with parent none."
unfoldable pub one_main : List ℕ → List Frame → Bool
one_main ds fs =
    (all (length fs) (λ p. not (lives fs p)) && all max_workers (λ w. eqb (size ds w) 0)) ||
    (eqb (how_many (length fs) (λ p. lives fs p && eqb (frame_at fs p).depth 0)) 1 &&
    all (length fs) (λ p. implies (lives fs p && eqb (frame_at fs p).depth 0) (eqb (frame_at fs p).parent none)))

-- "Every other live frame has a live parent one shallower."
unfoldable pub parents_live : List Frame → Bool
parents_live fs =
    all (length fs) (λ p. implies (lives fs p && not (eqb (frame_at fs p).depth 0))
    (ltb (frame_at fs p).parent (length fs) && (lives fs (frame_at fs p).parent && eqb (frame_at fs p).depth (suc (frame_at fs (frame_at fs p).parent).depth))))

-- "Outstanding counts are right."
unfoldable pub counts_right : List Frame → Bool
counts_right fs = all (length fs) (λ p. implies (lives fs p) (eqb (frame_at fs p).outstanding (children fs p)))

-- "Each live frame is either in just one place of one deque and not suspended, or in none and suspended with a live child."
unfoldable pub placed_once : List ℕ → List Frame → Bool
placed_once ds fs =
    all (length fs) (λ p. implies (lives fs p)
    ((eqb (in_deques ds p) 1 && eqb (frame_at fs p).suspended 0) ||
    (eqb (in_deques ds p) 0 && (eqb (frame_at fs p).suspended 1 && ltb 0 (children fs p)))))

-- R-3, "Frame records gain a word for it, last": "1 on a frame waiting so, which is suspended, else 0; anything else there is unsound."
unfoldable pub returning_right : List Frame → Bool
returning_right fs =
    all (length fs) (λ p. implies (lives fs p) (eqb (frame_at fs p).returning 0 || (eqb (frame_at fs p).returning 1 && eqb (frame_at fs p).suspended 1)))

-- R-5: "that these links chain the live children of each frame, each once, Main's being none": from one of them on the links go through as many live children
-- as there are, and end there, so through each once
abbrev pub siblings_linked : List Frame → ℕ → Bool
siblings_linked fs q = eqb (children fs q) 0 || some (length fs) (chained (children fs q) fs q)

unfoldable pub links_right : List Frame → Bool
links_right fs =
    all (length fs) (λ q. implies (lives fs q) (siblings_linked fs q)) &&
    all (length fs) (λ p. implies (lives fs p && eqb (frame_at fs p).depth 0) (eqb (younger fs p) none))

-- R-5: the totals, "zero while Main lives"; "Soundness asks for those zeros"
unfoldable pub totals_right : List ℕ → List Frame → Bool
totals_right ts fs = implies (some (length fs) (lives fs)) (all total_count (λ i. eqb (get_or ts i 0) 0))

-- "Deques hold live frames only"
unfoldable pub hold_live : List ℕ → List Frame → Bool
hold_live ds fs = all max_workers (λ w. all (size ds w) (λ k. ltb (place ds w k) (length fs) && lives fs (place ds w k)))

-- "a worker that does not exist has an empty one"
unfoldable pub absent_empty : ℕ → List ℕ → Bool
absent_empty workers ds = all max_workers (λ w. ltb w workers || eqb (size ds w) 0)

-- "deque places past a deque's frames are zero"; R-6: a deque has at most as many frames as the table has places
unfoldable pub rest_zero : List ℕ → List Frame → Bool
rest_zero ds fs = all max_workers (λ w. leb (size ds w) (length fs) && all deque_places (λ k. ltb k (size ds w) || eqb (place ds w k) 0))

-- "Each frame in a deque is a child of the one above it."
unfoldable pub linked : List ℕ → List Frame → Bool
linked ds fs = all max_workers (λ w. all (size ds w - 1) (λ k. eqb (frame_at fs (place ds w (suc k))).parent (place ds w k)))

-- "A frame that is not a top has only the child below it, if any."
unfoldable pub only_below : List ℕ → List Frame → Bool
only_below ds fs =
    all max_workers (λ w. all (size ds w - 1) (λ k. all (length fs) (λ c. implies (is_child fs (place ds w (suc k)) c) (ltb (suc (suc k)) (size ds w) && eqb c (place ds w (suc (suc k)))))))

-- "Free frame places lie once on theirs, all but the link to the next being zero.", R-3's word and R-5's too. One step more than there are
-- places passes its end
abbrev pub free_places : List Frame → ℕ → List ℕ
free_places fs first = follow (suc (length fs)) (λ p. (frame_at fs p).parent) first

abbrev pub view_zero : View → Bool
view_zero v = eqb v.sum.value 0 && (eqb v.min.value 0 && (eqb v.affine.multiplier 0 && eqb v.affine.addend 0))

abbrev pub place_free : List Frame → ℕ → Bool
place_free fs p =
    eqb (frame_at fs p).live 0 &&
    (eqb (frame_at fs p).depth 0 &&
    (eqb (frame_at fs p).outstanding 0 &&
    (eqb (frame_at fs p).suspended 0 && (eqb (frame_at fs p).root 0 && (eqb (frame_at fs p).returning 0 && (view_zero (frame_at fs p).view && eqb (younger fs p) 0))))))

unfoldable pub places_free : List Frame → ℕ → Bool
places_free fs first =
    below (length fs) (free_places fs first) &&
    all (length fs) (λ p. (lives fs p && eqb (count p (free_places fs first)) 0) || (place_free fs p && eqb (count p (free_places fs first)) 1))

-- frames and deques, all of it; `first` is the first free place
abbrev pub frame_sentences : ℕ → ℕ → List ℕ → List Frame → List Sentence
frame_sentences workers first ds fs =
    says "Either no frame lives and all deques are empty, or just one live frame has depth 0, with parent none." (one_main ds fs) ∷
    says "Every other live frame has a live parent one shallower." (parents_live fs) ∷
    says "Outstanding counts are right." (counts_right fs) ∷
    says "Each live frame is either in just one place of one deque and not suspended, or in none and suspended with a live child." (placed_once ds fs) ∷
    says "1 on a frame waiting so, which is suspended, else 0; anything else there is unsound." (returning_right fs) ∷
    says "these links chain the live children of each frame, each once, Main's being none" (links_right fs) ∷
    says "Deques hold live frames only;" (hold_live ds fs) ∷
    says "a worker that does not exist has an empty one;" (absent_empty workers ds) ∷
    says "deque places past a deque's frames are zero." (rest_zero ds fs) ∷
    says "Each frame in a deque is a child of the one above it." (linked ds fs) ∷
    says "A frame that is not a top has only the child below it, if any." (only_below ds fs) ∷
    says "Free frame places lie once on theirs, all but the link to the next being zero." (places_free fs first) ∷
    []

unfoldable pub frames_sound : ℕ → ℕ → List ℕ → List Frame → Bool
frames_sound workers first ds fs = all_of (frame_sentences workers first ds fs)

-- ---- the whole

-- the roots of the live frames at the places below c
unfoldable pub roots_below : List Frame → ℕ → List ℕ
roots_below fs zero = []
roots_below fs (suc c) = roots_below fs c ++ cond (lives fs c) ((frame_at fs c).root ∷ []) []

abbrev pub live_roots : List Frame → List ℕ
live_roots fs = roots_below fs (length fs)

-- R-5's sentence on the totals
abbrev pub total_sentences : List ℕ → List Frame → List Sentence
total_sentences ts fs = says "zero while Main lives" (totals_right ts fs) ∷ []

abbrev pub sentences : Layout → Numbers → List ℕ → List ℕ → List Frame → List ℕ → List Sentence
sentences L s ts ds fs ws =
    number_sentences L s fs ws ++
    (total_sentences ts fs ++
    (frame_sentences s.workers s.free_place ds fs ++
    L.sentences s.splitters s.nodes ws s.free_node (live_roots fs)))

abbrev pub sound_parts : Layout → Numbers → List ℕ → List ℕ → List Frame → List ℕ → List Sentence
sound_parts L s ts ds fs ws =
    says "numbers" (numbers_sound L s fs ws) ∷
    says "totals" (totals_right ts fs) ∷
    says "frames and deques" (frames_sound s.workers s.free_place ds fs) ∷
    says "trees" (pool_sound L s.splitters s.nodes ws s.free_node (live_roots fs)) ∷
    []

-- "State and pool are sound if all of this is true.": the four parts, which are all the sentences (Theory.Sentences.sound-is-all)
unfoldable pub sound : Layout → Numbers → List ℕ → List ℕ → List Frame → List ℕ → Bool
sound L s ts ds fs ws = all_of (sound_parts L s ts ds fs ws)

-- the free nodes, counted on the chain
abbrev pub count_of_free : Layout → Numbers → List ℕ → ℕ
count_of_free L s ws = length (L.free_nodes s.nodes ws s.free_node)

-- ---- the check's answer, and what it leaves in the work slice

-- the number of free nodes of a sound state, or why the check refuses it
abbrev pub Checked : Type 0
Checked = Result ℕ CheckError

-- refusal 5: "The work slice has fewer words than the recorded node count."
unfoldable pub checked : Layout → Numbers → List ℕ → List ℕ → List Frame → List ℕ → List ℕ → Checked
checked L s ts ds fs ws work =
    cond (leb s.nodes (length work)) (cond (sound L s ts ds fs ws) (Ok (count_of_free L s ws)) (Err Unsound)) (Err NoRoom)

-- "its first words, one per recorded node, are zero and the others are unchanged"
unfoldable pub cleared : ℕ → List ℕ → List ℕ
cleared N work = cond (leb N (length work)) (replicate N 0 ++ drop N work) work
