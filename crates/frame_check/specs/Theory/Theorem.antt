-- The check is document 01's soundness of frames and deques.
use Rattle.std.specs.Prelude.{◌≡◌, List, ℕ, ◌≤◌, length}
use Rattle.words.specs.Tallies.{same_tests}
use Rattle.frames.specs.declared.Frame.{Frame}
use Rattle.frames.specs.Widths.{max_places}
use Rattle.soundness.specs.Soundness.{frames_sound}
use Rattle.soundness.proofs.Theory.Sentences.{frames_facts, facts_frames}
use Rattle.frame_check.specs.Algorithm.{check_frames}
use Rattle.frame_check.specs.Theory.Passes.{passes_at, passes_of}
use Rattle.frame_check.specs.Theory.Finds.{finds}
use Rattle.frame_check.specs.Theory.Looks.{looks}

pub check-frames : (workers first : ℕ) (ds : List ℕ) (fs : List Frame) → length fs ≤ max_places → check_frames workers first ds fs ≡ frames_sound workers first ds fs
check-frames workers first ds fs few =
    same_tests (check_frames workers first ds fs) (frames_sound workers first ds fs)
    (λ h. facts_frames workers first ds fs few (finds workers first ds fs few (passes_at workers first ds fs few h)))
    (λ h. passes_of workers first ds fs few (looks workers first ds fs few (frames_facts workers first ds fs few h)))
