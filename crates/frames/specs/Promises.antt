-- The promises of the functions over the deques and the frame table, where one equation does not say them. Definitions only.
use Rattle.std.specs.Prelude.{◌≡◌, List, ℕ}
use Rattle.frames.specs.declared.Frame.{Frame}
use Rattle.frames.specs.declared.Returned.{Returned}
use Rattle.frames.specs.declared.Synced.{Synced}
use Rattle.frames.specs.Frames.{as_returning}
use Rattle.frames.specs.Steps.{Table, acting, suspend, go_on, went_on, sync, synced}

abbrev pub table : List ℕ → List Frame → ℕ → Table
table ds fs free = record { deques = ds; frames = fs; free_place = free }

-- worker w's bottom frame waits in its return, whatever the first free place
abbrev pub Waits : List ℕ → List Frame → ℕ → List ℕ → List Frame → Type 0
Waits ds fs w ds' fs' = (free : ℕ) → table ds' fs' free ≡ suspend (table ds fs free) w (as_returning (acting (table ds fs free) w))

-- after the last end of a return, with the outcome o
pub record GoesOn (ds : List ℕ) (fs : List Frame) (w q : ℕ) (ds' : List ℕ) (fs' : List Frame) (o : Returned) : Type 0 where
  pub after : (free : ℕ) → table ds' fs' free ≡ go_on (table ds fs free) w q
  pub outcome : (free : ℕ) → o ≡ went_on (table ds fs free) q

pub record IsSync (ds : List ℕ) (fs : List Frame) (w : ℕ) (ds' : List ℕ) (fs' : List Frame) (o : Synced) : Type 0 where
  pub after : (free : ℕ) → table ds' fs' free ≡ sync (table ds fs free) w
  pub outcome : (free : ℕ) → o ≡ synced (table ds fs free) w
