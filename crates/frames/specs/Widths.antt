-- How many words the parts of a state have. Definitions only; each width is said here and nowhere else.
use Rattle.std.specs.Prelude.{ℕ, ◌+◌, ◌*◌}

-- document 01: "1 to 8 workers"
abbrev pub max_workers : ℕ
max_workers = 8

-- R-6: the frame table, "a slice of frame records .. Its length, 1 to 256"
abbrev pub max_places : ℕ
max_places = 256

-- document 02: frame records "of live, parent .., depth, outstanding, suspended and root", by R-3 "a word for it, last", and by R-5, "last, the
-- four view words and the next younger live sibling or none"
abbrev pub record_words : ℕ
record_words = 12

-- the places of a lent deque: as many as the longest table has
abbrev pub deque_places : ℕ
deque_places = max_places

-- "its deque length and .. places"
abbrev pub deque_stride : ℕ
deque_stride = 1 + deque_places

abbrev pub deque_words : ℕ
deque_words = max_workers * deque_stride
