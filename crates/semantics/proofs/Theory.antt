-- ---- the relation with a plain machine, and what each step makes of it
-- the relation
pub mod Relation
-- places, children, records
pub mod Places
-- more about the relation
pub mod RelationFacts
-- R-5: the links between siblings where no frame begins or ends; only views and links are stored
pub mod LinksKept
pub mod AlikeTables
-- one live frame's record stored anew
pub mod Stored
pub mod SimRead
pub mod SimWrite
pub mod SimSteal
-- a frame waits, a frame resumes, a frame ends
pub mod Suspended
pub mod Resumed
pub mod EndedFrame
pub mod SimSync
pub mod SimSpawn
pub mod SimFold
-- R-5: the views beside the plain machine and the engine's words
pub mod Viewed
pub mod LinksSpawn
pub mod LinksEnd
pub mod EndsInTurn
-- the views after each kind of step; each keeps the relation
pub mod ViewsAfter
pub mod ViewsLeft
pub mod ViewedKept
pub mod ViewedFold
pub mod ViewedSpawn
pub mod NextFrame
pub mod ViewedEnd
pub mod ViewedTurns
-- R-7: where the frames stand after each kind
pub mod SamePlaces
pub mod SimReturn
-- what a return answers
pub mod Returning
-- what the ends upward find
pub mod EndsUpward
-- the engine refuses as the plain machine does
pub mod Refusals
-- the numbers that no step changes
pub mod NumbersKept
-- all seven kinds
pub mod Simulation
-- ---- pools, soundness
-- what the theory asks of a layout's pools, and of each layout that they have it
pub mod Pools
pub mod FourPools
pub mod TwoPools
-- from a sound state to a plain machine
pub mod FromSoundNames
pub mod FromSoundPlaces
pub mod FromSoundTree
pub mod FromSoundRelates
-- what relates to a plain machine is sound
pub mod ToSoundPlaces
pub mod ToSoundDeques
pub mod ToSoundFrames
pub mod ToSound
-- ---- runs
-- the words of the numbers, and back
pub mod NumberWords
-- a state whose parts have their lengths; every entry leaves one
pub mod Fitting
pub mod Lengths
-- answer words, of one record and of a tape
pub mod Words
pub mod TapeWords
-- when a start is accepted
pub mod Starts
pub mod StartRelates
-- R-5: the links and the views at a start
pub mod ViewedStart
-- what a refused call leaves; the work slice and the answer words after any call
pub mod RefusedCalls
-- a step of a sound core
pub mod SoundSteps
-- the same nodes in another pool
pub mod Elsewhere
-- saves and readings, call by call
pub mod Images
-- calls, tapes
pub mod Runs
-- runs with saves and readings
pub mod WholeRuns
-- the plain machine fed records, and fed the steps among them
pub mod ValidRecords
-- R-5: the words of the totals
pub mod TotalWords
-- the relation of a run from a start; demands 2 and 3
pub mod StartedRuns
-- demand 2 for sound states, however obtained
pub mod SoundRuns
-- an empty tape changes only the work slice
pub mod EmptyTape
-- a work slice that is too short is left alone
pub mod WorkSlice
-- all that the engine leaves are words, if all that is handed in are
pub mod AllWords
-- ---- the tape loop's invariant
-- a sound core, kept by every step
pub mod Kept
-- what a sound core gives to code that indexes without a test
pub mod Ready
-- ---- R-7: clocks, work and span
-- the two words of a place; the relation with the clocks beside the plain machine
pub mod ClockWords
pub mod Timed
-- the clocks after each kind of step; each keeps the relation
pub mod TimedActions
pub mod TimedSpawn
-- a return: the frames that end, one after the other, and the rise through the table before it
pub mod ClocksLeft
pub mod Rising
pub mod TimedRise
pub mod TimedUpward
pub mod TimedReturn
-- every step, accepted or refused
pub mod TimedSteps
-- along the records of a tape from a start
pub mod TimedRuns
-- what a report does, in cases; the demands of ReportDemands
pub mod ReportCases
pub mod Reports
pub mod SameReports
-- for the engine: the start before a report, bounds, records that move no deque
pub mod TimedWords
-- ---- R-8: the two layouts beside one another
-- a step in both
pub mod MatchingSteps
-- sound pools that match; starts, steps and tapes
pub mod Matching
pub mod MatchingCalls
-- saves and readings; R-7's reports
pub mod MatchingImages
pub mod MatchingReports
-- ---- R-9: the change-over
-- its ways out, and what an accepted one leaves
pub mod Converts
-- runs with one: demands 2 and 3
pub mod ChangedRuns
-- a sound state has the same plain machine before and after
pub mod SameMachine
-- one that is made again
pub mod ConvertTwice
-- a run in the new layout and one in the old, with the same calls
pub mod AlikeRuns
-- the run that goes on is as one begun in the new layout
pub mod AsIfBegun
-- an image that the old library saved is refused
pub mod OldImages
