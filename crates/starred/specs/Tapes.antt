-- Records, tapes, lent words and frame records that the tables are written with.
use Rattle.std.specs.Prelude.{cond, List, [], ◌∷◌, ◌++◌, map, ℕ, zero, suc, ◌-◌, ◌*◌, length, replicate, eqb}
use Rattle.words.specs.Basics.{none, joined}
use Rattle.frames.specs.declared.Frame.{Frame}
use Rattle.frames.specs.Widths.{record_words, deque_places, deque_stride, deque_words}
use Rattle.frames.specs.Frames.{words_of as wordsOfRecord, record_in, free_record}
use Rattle.soundness.specs.Numbers.{number_count}
use Rattle.semantics.specs.Entries.{State}

-- ---- records

-- "A record is 8 bytes: kind, worker, a 16-bit splitter (victim for steal), a 32-bit value"; all are below 256 here
abbrev pub bytes : ℕ → ℕ → ℕ → ℕ → List ℕ
bytes kind worker field value = kind ∷ worker ∷ field ∷ 0 ∷ value ∷ 0 ∷ 0 ∷ 0 ∷ []

abbrev pub spawns : ℕ → List ℕ
spawns w = bytes 1 w 0 0

abbrev pub returns : ℕ → List ℕ
returns w = bytes 2 w 0 0

abbrev pub steals : ℕ → ℕ → List ℕ
steals w v = bytes 3 w v 0

abbrev pub syncs : ℕ → List ℕ
syncs w = bytes 4 w 0 0

abbrev pub reads : ℕ → ℕ → List ℕ
reads w x = bytes 5 w x 0

abbrev pub writes : ℕ → ℕ → ℕ → List ℕ
writes w x v = bytes 6 w x v

-- R-5: "Record kind 7 folds its value into the reducer named in its splitter field"
abbrev pub folds : ℕ → ℕ → ℕ → List ℕ
folds w r v = bytes 7 w r v

-- into reducer 2: "the value divided by 65,536 is the multiplier and its remainder the addend"; both are below 256 here
abbrev pub folds_map : ℕ → ℕ → ℕ → List ℕ
folds_map w multiplier addend = 7 ∷ w ∷ 2 ∷ 0 ∷ addend ∷ 0 ∷ multiplier ∷ 0 ∷ []

-- the largest value, 4,294,967,295
abbrev pub folds_largest : ℕ → ℕ → List ℕ
folds_largest w r = 7 ∷ w ∷ r ∷ 0 ∷ 255 ∷ 255 ∷ 255 ∷ 255 ∷ []

-- ---- lent words

-- "1 to 256": a frame table of so many places, which hold anything before a start
abbrev pub any_table : ℕ → List Frame
any_table places = replicate places (record_in (replicate record_words 3))

-- parts of the state, the words with their exact lengths, which hold anything before a start
abbrev pub parts_with : ℕ → State
parts_with places = record { numbers = replicate number_count 3; deques = replicate deque_words 3; frames = any_table places }

-- "splitrun lends 64 places"
abbrev pub any_parts : State
any_parts = parts_with 64

-- a pool of so many nodes, R-8's of two words, which holds anything before a start
abbrev pub any_pool : ℕ → List ℕ
any_pool nodes = replicate (2 * nodes) 7

-- the words of a frame table, and of a state, one after another
abbrev pub records_of : List Frame → List ℕ
records_of fs = joined (map wordsOfRecord fs)

abbrev pub words_of : State → List ℕ
words_of s = s.numbers ++ (s.deques ++ records_of s.frames)

-- document 01's five values
abbrev pub five : List ℕ
five = 10 ∷ 20 ∷ 30 ∷ 40 ∷ 50 ∷ []

-- ---- deques

-- a deque's length and its frames from the top; "deque places past a deque's frames are zero"
abbrev pub deque : List ℕ → List ℕ
deque ps = length ps ∷ (ps ++ replicate (deque_places - length ps) 0)

-- of the first workers; the others have none
abbrev pub deques_of : List (List ℕ) → List ℕ
deques_of pss = joined (map deque pss) ++ replicate (deque_words - deque_stride * length pss) 0

abbrev pub deques : List ℕ → List ℕ → List ℕ
deques ps qs = deques_of (ps ∷ qs ∷ [])

-- ---- frame records

-- "the sum, the minimum, the multiplier and the addend" of the identities
abbrev pub identities : List ℕ
identities = 0 ∷ none ∷ 1 ∷ 0 ∷ []

-- live, parent, depth, outstanding, suspended, root, returning (R-3), "the four view words and the next younger live sibling or none" (R-5)
abbrev pub frame : ℕ → ℕ → ℕ → ℕ → ℕ → ℕ → List ℕ → ℕ → Frame
frame parent depth outstanding suspended root returning view younger = record_in (1 ∷ parent ∷ depth ∷ outstanding ∷ suspended ∷ root ∷ returning ∷ (view ++ younger ∷ []))

-- where nothing was folded, and without a younger sibling
abbrev pub live : ℕ → ℕ → ℕ → ℕ → ℕ → Frame
live parent depth outstanding suspended root = frame parent depth outstanding suspended root 0 identities none

-- R-3: a live frame that waits in its return: "1 on a frame waiting so, which is suspended"
abbrev pub waiting : ℕ → ℕ → ℕ → ℕ → Frame
waiting parent depth outstanding root = frame parent depth outstanding 1 root 1 identities none

-- c free places in rising order, the second being p
abbrev pub rising : ℕ → ℕ → List Frame
rising zero p = []
rising (suc c) p = free_record (cond (eqb c 0) none p) ∷ rising c (suc p)

-- a table of so many places: the first ones, then the rest, free in rising order
abbrev pub frames_in : ℕ → List Frame → List Frame
frames_in places fs = fs ++ rising (places - length fs) (suc (length fs))

abbrev pub frames : List Frame → List Frame
frames fs = frames_in 64 fs
