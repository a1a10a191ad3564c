-- The version in the first word of an image.
use Rattle.std.specs.Prelude.{◌≡◌, refl, List, [], ◌∷◌, ℕ, ◌+◌, ◌<◌, ◌≤◌, length, get_or}
use Rattle.std.proofs.Common.{ap, arith, length-set, get_or-set_other}
use Rattle.words.specs.Below.{Words, words-set, plus_word}
use Rattle.image.specs.Widths.{version, version_step}
use Rattle.image.specs.Image.{node_count, place_count, versioned, unversioned}
use Rattle.soundness.specs.Layout.{Layout, two_words}

-- the layout in use
pub two_version : two_words.version ≤ 4
two_version = omega arith

module _ (L : Layout) (low_version : L.version ≤ 4) where
  -- a first word of the readable form: "reads only its own form"
  abbrev pub Readable : ℕ → Type 0
  Readable w = (version L ≤ w) × (w < version L + version_step)

  pub length-versioned : (ns : List ℕ) → length (versioned L ns) ≡ length ns
  length-versioned ns = length-set ns 0 _

  pub nodes-versioned : (ns : List ℕ) → node_count (versioned L ns) ≡ node_count ns
  nodes-versioned ns = get_or-set_other ns 0 2 _ 0 (λ e. omega arith)

  pub nodes-unversioned : (ns : List ℕ) → node_count (unversioned ns) ≡ node_count ns
  nodes-unversioned ns = get_or-set_other ns 0 2 _ 0 (λ e. omega arith)

  pub places_versioned : (ns : List ℕ) → place_count (versioned L ns) ≡ place_count ns
  places_versioned ns = get_or-set_other ns 0 9 _ 0 (λ e. omega arith)

  pub places_unversioned : (ns : List ℕ) → place_count (unversioned ns) ≡ place_count ns
  places_unversioned ns = get_or-set_other ns 0 9 _ 0 (λ e. omega arith)

  pub words-versioned : (ns : List ℕ) → Words ns → Words (versioned L ns)
  words-versioned ns h = words-set ns 0 _ h (plus_word (get_or ns 0 0) (version L))

  -- what is written is readable
  pub first-versioned : (ns : List ℕ) → 0 < length ns → get_or ns 0 0 < version_step → Readable (get_or (versioned L ns) 0 0)
  first-versioned [] l h = absurd (omega arith)
  first-versioned (x ∷ ns) l h = (omega arith, omega arith)

  -- added and taken away again
  pub version_off : (ns : List ℕ) → get_or ns 0 0 < version_step → unversioned (versioned L ns) ≡ ns
  version_off [] h = refl
  version_off (x ∷ ns) h = ap (λ (k : ℕ). k ∷ ns) (omega arith)

  pub version_on : (ns : List ℕ) → Readable (get_or ns 0 0) → versioned L (unversioned ns) ≡ ns
  version_on [] r = refl
  version_on (x ∷ ns) (h, k) = ap (λ (k : ℕ). k ∷ ns) (omega arith)
