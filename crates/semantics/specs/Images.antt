-- Saving and reading an image: document 02's R-1, as R-3, R-5 and R-6 change it. What each returns and leaves, on all inputs. Definitions only.
use Rattle.image.specs.Image.{ImageCheck}
use Rattle.image.specs.declared.ImageError.TheVariants.{WrongLength, WrongCheck}
use Rattle.soundness.specs.Soundness.{Checked}
use Rattle.soundness.specs.declared.CheckError.{CheckError}
use Rattle.soundness.specs.declared.CheckError.TheVariants.{NoRoom}
use Rattle.std.specs.Prelude.{cond, ◌&&◌, List, ◌++◌, ℕ, ◌*◌, length, drop, replicate, eqb, leb, ltb, Err, Ok}
use Rattle.frames.specs.declared.Frame.{Frame}
use Rattle.frames.specs.Frames.{free_record}
use Rattle.soundness.specs.Soundness.{cleared}
use Rattle.image.specs.Image.{image_of, image_bytes, image_check, nodes_in, places_in, number_words_in, deques_in, frames_in, pool_in, stored}
use Rattle.semantics.specs.declared.Refusal.{Refusal}
use Rattle.semantics.specs.declared.Refusal.TheVariants.{Work, Lengths, Blocks, BlockCheck, Target}
use Rattle.semantics.specs.Answers.{refusal_number}
use Rattle.semantics.specs.Entries.{State, fits, zeros, numbers_of, whole_nodes, is_sound, checked_state}
use Rattle.soundness.specs.Layout.{Layout}

-- ---- saving

-- what a save leaves: the work slice and the target; state and pool are only read. And its result, 0 or a refusal
pub record SaveResult : Type 0 where
  pub work : List ℕ
  pub target : List ℕ
  pub result : ℕ

-- "Write a whole run as blocks of 512 bytes"
abbrev pub saved_image : Layout → State → List ℕ → List ℕ
saved_image L s ws = image_of L s.numbers s.deques s.frames ws

-- how many bytes that is; R-6: "images hold that many records and deque places"
abbrev pub saved_bytes : Layout → State → ℕ
saved_bytes L s = image_bytes L (numbers_of s).places (numbers_of s).nodes

abbrev pub save_refused : List ℕ → List ℕ → Refusal → SaveResult
save_refused work target r = record { work = work; target = target; result = refusal_number r }

-- "19, the target is too short, when saving, after 6"; "Target bytes past the image never change."
abbrev pub save_sound : Layout → State → List ℕ → List ℕ → List ℕ → SaveResult
save_sound L s ws work target =
    cond (ltb (length target) (saved_bytes L s)) (save_refused work target Target) (record { work = work; target = stored (saved_image L s ws) target; result = 0 })

abbrev pub save_checked : Layout → Checked → State → List ℕ → List ℕ → List ℕ → SaveResult
save_checked L (Err NoRoom) s ws work target = save_refused work target Work
save_checked L (Err CheckError.Unsound) s ws work target = save_refused (cleared (numbers_of s).nodes work) target Refusal.Unsound
save_checked L (Ok k) s ws work target = save_sound L s ws (cleared (numbers_of s).nodes work) target

unfoldable pub save_with : Layout → State → List ℕ → List ℕ → List ℕ → SaveResult
save_with L s ws work target = save_checked L (checked_state L s ws work) s ws work target

unfoldable pub save_on : Layout → State → List ℕ → List ℕ → List ℕ → SaveResult
save_on L s ws work target = cond (fits s) (save_with L s ws work target) (save_refused work target Lengths)

-- ---- reading

-- what a reading leaves: the state, the pool's words and the work slice; and its result, 0 or a refusal
pub record LoadResult : Type 0 where
  pub state : State
  pub pool : List ℕ
  pub work : List ℕ
  pub result : ℕ

-- the state that an image says
abbrev pub state_in : Layout → List ℕ → State
state_in L image = record { numbers = number_words_in L image; deques = deques_in L image; frames = frames_in L image }

-- the lent pool with the image's nodes in its front, if it holds them
abbrev pub pool_with : Layout → List ℕ → List ℕ → List ℕ
pool_with L ws image = cond (leb (L.words * nodes_in image) (length ws)) (stored (pool_in L image) ws) ws

-- "A refused reading hands out a state of zeros.", with the table fs
abbrev pub load_refused : List Frame → List ℕ → List ℕ → Refusal → LoadResult
load_refused fs ws work r = record { state = zeros fs; pool = ws; work = work; result = refusal_number r }

-- R-6: "6 when reading leaves every record of the table zero too"
abbrev pub records_zero : List Frame → List Frame
records_zero fs = replicate (length fs) (free_record 0)

-- "6 when reading leaves every whole node of the pool zero"
abbrev pub nodes_zero : Layout → List ℕ → List ℕ
nodes_zero L ws = replicate (L.words * whole_nodes L ws) 0 ++ drop (L.words * whole_nodes L ws) ws

-- the soundness of what was read; "the recorded node count is .. at most what the lent pool holds"; R-6: "a recorded length not 1 to 256, or a table of
-- another length, is unsound": the lent table fs takes the image's records
abbrev pub load_read : Layout → List Frame → List ℕ → List ℕ → List ℕ → LoadResult
load_read L fs ws work image =
    cond (eqb (length fs) (places_in image) && is_sound L (state_in L image) (pool_with L ws image)) (record { state = state_in L image; pool = pool_with L ws image; work = work; result = 0 })
    (load_refused (records_zero fs) (nodes_zero L ws) work Refusal.Unsound)

-- "reading checks 17, 18, 5, 6"
abbrev pub load_checked : Layout → ImageCheck → List Frame → List ℕ → List ℕ → List ℕ → LoadResult
load_checked L (Err WrongLength) fs ws work image = load_refused fs ws work Blocks
load_checked L (Err WrongCheck) fs ws work image = load_refused fs ws work BlockCheck
load_checked L (Ok _) fs ws work image = cond (ltb (length work) (nodes_in image)) (load_refused fs ws work Work) (load_read L fs ws (cleared (nodes_in image) work) image)

unfoldable pub load_with : Layout → List Frame → List ℕ → List ℕ → List ℕ → LoadResult
load_with L fs ws work image = load_checked L (image_check L image) fs ws work image

-- over the lent parts s, whatever they hold
unfoldable pub load_on : Layout → State → List ℕ → List ℕ → List ℕ → LoadResult
load_on L s ws work image = cond (fits s) (load_with L s.frames ws work image) (record { state = s; pool = ws; work = work; result = refusal_number Lengths })
