-- R-8: the two layouts beside one another. "After starts with as many nodes, unpacking the new pool gives the old one node for node. From sound pools that
-- match so, with equal state and table, every tape must give the same answer words in both layouts and leave them matching. Images have the new nodes."
-- ws₂ is a new pool, of two-word nodes, ws₄ an old one, of four-word nodes. Statements only; Theory proves them.
use Rattle.model.specs.Record.{Decoded}
use Rattle.std.specs.Prelude.{◌≡◌, ◌⊎◌, true, List, ℕ, ◌*◌, ◌≤◌, length, take}
use Rattle.soundness.specs.Layout.{Layout, four_words, two_words}
use Rattle.soundness.specs.Soundness.{live_roots}
use Rattle.soundness.specs.Unpacked.{unpacked}
use Rattle.semantics.specs.Entries.{State, numbers_of, is_sound, whole_nodes, StartResult, start_on, OutsideResult, outside_on, TapeResult, tape_on}
use Rattle.semantics.specs.Report.{Lent, ReportResult, report_on}
use Rattle.semantics.specs.Demands.{StateWords}
use Rattle.semantics.specs.Images.{SaveResult, saved_bytes, save_on, LoadResult, load_on}

-- ---- pools that match

-- what the new pool unpacks to, with the state's splitters and nodes and the roots of its live frames, whose levels tell which words are meant
abbrev pub unpacked_pool : State → List ℕ → List ℕ
unpacked_pool s ws₂ = unpacked (numbers_of s).splitters (live_roots s.frames) (numbers_of s).nodes ws₂

-- "unpacking the new pool gives the old one node for node"
abbrev pub Matches : State → List ℕ → List ℕ → Type 0
Matches s ws₂ ws₄ = unpacked_pool s ws₂ ≡ take (4 * (numbers_of s).nodes) ws₄

-- "sound pools that match so, with equal state and table"
pub record SoundMatch (s : State) (ws₂ ws₄ : List ℕ) : Type 0 where
  pub matches : Matches s ws₂ ws₄
  pub two_sound : is_sound two_words s ws₂ ≡ true
  pub four_sound : is_sound four_words s ws₄ ≡ true

-- soundness of the new pool is soundness of an old one that matches; and there is one, what it unpacks to
abbrev pub MatchesSound : State → List ℕ → List ℕ → Type 0
MatchesSound s ws₂ ws₄ = is_sound two_words s ws₂ ≡ true → 4 * (numbers_of s).nodes ≤ length ws₄ → Matches s ws₂ ws₄ → is_sound four_words s ws₄ ≡ true

abbrev pub UnpackedMatches : State → List ℕ → Type 0
UnpackedMatches s ws₂ = is_sound two_words s ws₂ ≡ true → SoundMatch s ws₂ (unpacked_pool s ws₂)

-- ---- starts

-- "with as many nodes"
abbrev pub AsManyNodes : List ℕ → List ℕ → Type 0
AsManyNodes ws₂ ws₄ = whole_nodes two_words ws₂ ≡ whole_nodes four_words ws₄

-- refused alike, or accepted with matching pools
pub record SameStart (o₂ o₄ : StartResult) : Type 0 where
  pub result : o₂.result ≡ o₄.result
  pub state : o₂.state ≡ o₄.state
  pub after : o₂.result ≡ 0 → SoundMatch o₂.state o₂.pool o₄.pool

abbrev pub StartsMatch : State → ℕ → List ℕ → List ℕ → List ℕ → Type 0
StartsMatch parts workers values ws₂ ws₄ = AsManyNodes ws₂ ws₄ → SameStart (start_on two_words parts workers values ws₂) (start_on four_words parts workers values ws₄)

-- ---- steps and tapes

pub record SameOutside (o₂ o₄ : OutsideResult) : Type 0 where
  pub result : o₂.result ≡ o₄.result
  pub state : o₂.state ≡ o₄.state
  pub work : o₂.work ≡ o₄.work
  pub after : SoundMatch o₂.state o₂.pool o₄.pool

abbrev pub StepsMatch : State → List ℕ → List ℕ → List ℕ → Decoded → Type 0
StepsMatch s ws₂ ws₄ work d = SoundMatch s ws₂ ws₄ → SameOutside (outside_on two_words s ws₂ work d) (outside_on four_words s ws₄ work d)

-- "the same answer words in both layouts"
pub record SameTape (o₂ o₄ : TapeResult) : Type 0 where
  pub result : o₂.result ≡ o₄.result
  pub state : o₂.state ≡ o₄.state
  pub work : o₂.work ≡ o₄.work
  pub answers : o₂.answers ≡ o₄.answers
  -- "and leave them matching"
  pub after : SoundMatch o₂.state o₂.pool o₄.pool

abbrev pub TapesMatch : State → List ℕ → List ℕ → List ℕ → List ℕ → List ℕ → Type 0
TapesMatch s ws₂ ws₄ work tape answers = SoundMatch s ws₂ ws₄ → SameTape (tape_on two_words s ws₂ work tape answers) (tape_on four_words s ws₄ work tape answers)

-- ---- saves and readings: "Images have the new nodes", so the two layouts have other images, and may need targets of other lengths

-- into targets that are long enough
pub record SameSave (s : State) (target₂ target₄ : List ℕ) (o₂ o₄ : SaveResult) : Type 0 where
  pub work : o₂.work ≡ o₄.work
  pub result : saved_bytes two_words s ≤ length target₂ → saved_bytes four_words s ≤ length target₄ → o₂.result ≡ o₄.result

abbrev pub SavesMatch : State → List ℕ → List ℕ → List ℕ → List ℕ → List ℕ → Type 0
SavesMatch s ws₂ ws₄ work target₂ target₄ = SoundMatch s ws₂ ws₄ → SameSave s target₂ target₄ (save_on two_words s ws₂ work target₂) (save_on four_words s ws₄ work target₄)

-- refused alike, or accepted with matching pools
pub record SameLoad (o₂ o₄ : LoadResult) : Type 0 where
  pub result : o₂.result ≡ o₄.result
  pub state : o₂.state ≡ o₄.state
  pub work : o₂.work ≡ o₄.work
  pub after : o₂.result ≡ 0 → SoundMatch o₂.state o₂.pool o₄.pool

-- an image that an accepted save has written
pub record SavedAs (L : Layout) (s : State) (ws image : List ℕ) : Type 0 where
  pub work : List ℕ
  pub target : List ℕ
  pub accepted : (save_on L s ws work target).result ≡ 0
  pub written : image ≡ take (saved_bytes L s) (save_on L s ws work target).target

-- such images of s and of matching pools of words, read into the same parts and pools with as many nodes
abbrev pub LoadsMatch : State → List ℕ → List ℕ → List ℕ → List ℕ → State → List ℕ → List ℕ → List ℕ → Type 0
LoadsMatch s ws₂ ws₄ image₂ image₄ parts lent₂ lent₄ work =
    SoundMatch s ws₂ ws₄ → StateWords s ws₂ → StateWords s ws₄ → SavedAs two_words s ws₂ image₂ → SavedAs four_words s ws₄ image₄ → AsManyNodes lent₂ lent₄
    → SameLoad (load_on two_words parts lent₂ work image₂) (load_on four_words parts lent₄ work image₄)

-- ---- reports: a start and a tape, with the clocks

-- 22 leaves what the run left
pub record SameReport (o₂ o₄ : ReportResult) : Type 0 where
  pub result : o₂.result ≡ o₄.result
  pub state : o₂.state ≡ o₄.state
  pub lent : o₂.lent ≡ o₄.lent
  pub after : (o₂.result ≡ 0) ⊎ (o₂.result ≡ 22) → SoundMatch o₂.state o₂.pool o₄.pool

abbrev pub ReportsMatch : State → ℕ → List ℕ → List ℕ → List ℕ → List ℕ → Lent → Type 0
ReportsMatch parts workers values ws₂ ws₄ tape l = AsManyNodes ws₂ ws₄ → SameReport (report_on two_words parts workers values ws₂ tape l) (report_on four_words parts workers values ws₄ tape l)
