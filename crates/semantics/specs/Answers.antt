-- Document 01's words for the answers. Definitions only.
use Rattle.std.specs.Prelude.{ℕ, ◌+◌, ◌*◌, ◌/◌, ◌%◌, ◌^◌, Result, Ok, Err}
use Rattle.frames.specs.Steps.{returned_number, synced_number}
use Rattle.soundness.specs.declared.CheckError.{CheckError}
use Rattle.soundness.specs.declared.CheckError.TheVariants.{NoRoom}
use Rattle.image.specs.declared.ImageError.{ImageError}
use Rattle.image.specs.declared.ImageError.TheVariants.{WrongLength, WrongCheck}
use Rattle.semantics.specs.declared.Done.{Done}
use Rattle.semantics.specs.declared.Done.TheVariants.{Spawned, Ended, Stolen, Waited, Value, Written, Folded}
use Rattle.semantics.specs.declared.Refusal.{Refusal}
use Rattle.semantics.specs.declared.Refusal.TheVariants.{Values, Workers, Nodes, Tape, Work, Unsound, Record, NoWorker, MainReturned, WorkerIdle, ThiefBusy, NoVictim, FramesFull, NoSplitter, PoolFull, Blocks, BlockCheck, Target, NoReducer, Places, Span, Lengths}

-- "Refused, in checking order"
abbrev pub refusal_number : Refusal → ℕ
refusal_number Values = 1
refusal_number Workers = 2
refusal_number Nodes = 3
refusal_number Tape = 4
refusal_number Work = 5
refusal_number Unsound = 6
refusal_number Record = 7
refusal_number NoWorker = 8
refusal_number MainReturned = 9
refusal_number WorkerIdle = 10
refusal_number ThiefBusy = 11
refusal_number NoVictim = 12
refusal_number FramesFull = 13
refusal_number NoSplitter = 15
refusal_number PoolFull = 16
-- R-1: "17, the image is not just as many whole blocks as its first block calls for, or has no whole block; 18, a check is wrong or the
-- rest of the last block is not zero; 19, the target is too short"
refusal_number Blocks = 17
refusal_number BlockCheck = 18
refusal_number Target = 19
-- R-5: "20, kind 7 names no reducer"
refusal_number NoReducer = 20
-- R-6: "21, at a start, the table has 0 or more than 256 places"
refusal_number Places = 21
-- R-7: "22, Main has not returned or the span is 0"
refusal_number Span = 22
-- the entries' own: a lent part of the state has another length
refusal_number Lengths = 99

-- refusals 5 and 6, of the check of a state
abbrev pub check_refusal : CheckError → Refusal
check_refusal NoRoom = Work
check_refusal CheckError.Unsound = Refusal.Unsound

-- refusals 17 and 18, of an image's bytes
abbrev pub image_refusal : ImageError → Refusal
image_refusal WrongLength = Blocks
image_refusal WrongCheck = BlockCheck

-- "100 plus the kind, then a number: spawn the child's depth, steal the stolen frame's depth, return and sync the outcome,
-- read the value, write the free nodes left"
abbrev pub done_words : Done → ℕ × ℕ
done_words (Spawned d) = (101, d)
done_words (Ended o) = (102, returned_number o)
done_words (Stolen d) = (103, d)
done_words (Waited o) = (104, synced_number o)
done_words (Value v) = (105, v)
done_words (Written k) = (106, k)
-- R-5: "answers 107 0"
done_words Folded = (107, 0)

-- the answer to one step or record
abbrev pub Answer : Type 0
Answer = Result Done Refusal

-- "A refused record gives its refusal and 0"
abbrev pub answer_words : Answer → ℕ × ℕ
answer_words (Ok d) = done_words d
answer_words (Err r) = (refusal_number r, 0)

-- a step's result in one number: the first answer word in the low half, the second in the high half
abbrev pub both_words : ℕ × ℕ → ℕ
both_words w = w.0 + 2 ^ 32 * w.1

-- the two words in it
abbrev pub words_in : ℕ → ℕ × ℕ
words_in r = (r % 2 ^ 32, r / 2 ^ 32)
