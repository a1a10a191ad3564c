-- Sentences of the documents on soundness, each with its test. Definitions only.
use Rattle.std.specs.Prelude.{Bool, true, ◌&&◌, List, [], ◌∷◌}
use Prim.Native.String.{String}

-- what the document says, and the test of it
pub data Sentence : Type 0 where
  says : String → Bool → Sentence

abbrev pub words : Sentence → String
words (says t b) = t

abbrev pub holds : Sentence → Bool
holds (says t b) = b

-- every one holds
abbrev pub all_of : List Sentence → Bool
all_of [] = true
all_of (t ∷ []) = holds t
all_of (t ∷ u ∷ us) = holds t && all_of (u ∷ us)
