-- R-1's promises about images, as R-6 changes them: what 17 and 18 refuse, and what saving and reading give together.
use Rattle.image.specs.declared.ImageError.TheVariants.{WrongLength, WrongCheck}
use Rattle.std.specs.Prelude.{◌≡◌, ◌⊎◌, ◌≢◌, ◌↔◌, List, ◌++◌, ℕ, ◌+◌, ◌*◌, ◌<◌, ◌≤◌, length, take, drop, Err, Ok}
use Rattle.std.proofs.Common.{ap, ◌∙◌, inl, inr, arith, take_at, drop_at, length-take-le}
use Rattle.std.proofs.lemmas.List.{take-append-le}
use Rattle.frames.specs.declared.Frame.{Frame}
use Rattle.frames.specs.Widths.{max_places}
use Rattle.soundness.specs.Numbers.{numbers_in}
use Rattle.soundness.proofs.Theory.Facts.{FramesFacts}
use Rattle.image.specs.Widths.{block_bytes, version, version_step}
use Rattle.image.specs.Image.{node_count, place_count, versioned, deques_for, table_words, as_blocks, image_of, image_bytes, first_in, nodes_in, places_in, blocks_called, image_check, number_words_in, deques_in, frames_in, pool_in, Lengths, ZeroPast, stored, IsRead}
use Rattle.image.proofs.Theory.Bytes.{Bytes}
use Rattle.image.proofs.Theory.Refused as refused
use Rattle.image.proofs.Theory.Refused.{RightLength, SomeCheckWrong, RestNotZero}
use Rattle.image.proofs.Theory.Round as round
use Rattle.image.proofs.Theory.Written as written
pub use Rattle.image.proofs.Theory.Written.{Says, AllWords}
use Rattle.soundness.specs.Layout.{Layout}

module _ (L : Layout) (low_version : L.version ≤ 4) where
  -- "17, the image is not just as many whole blocks as its first block calls for, or has no whole block"; "A first word of no readable
  -- form gives 17."
  pub refused_17 : (image : List ℕ) → (image_check L image ≡ (Err WrongLength))
      ↔ ((length image < block_bytes) ⊎ (first_in image < version L) ⊎ (version L + version_step ≤ first_in image) ⊎ (length image ≢ block_bytes * blocks_called L image))
  refused_17 image = refused.when_17 L low_version image

  -- "Each later change of the image adds 256 again and reads only its own form": images of the three forms before are refused
  pub refused_before : (image : List ℕ) → first_in image < version L → image_check L image ≡ (Err WrongLength)
  refused_before image h = (refused_17 image).1 (inr (inl h))

  -- "18, a check is wrong or the rest of the last block is not zero", where 17 does not refuse it
  pub refused_18 : (image : List ℕ) → (image_check L image ≡ (Err WrongCheck)) ↔ (RightLength L low_version image × (SomeCheckWrong L low_version image ⊎ RestNotZero L low_version image))
  refused_18 image = refused.when_18 L low_version image

  -- in a sound state the deque places past the table's length are zero
  pub sound_past : {workers first : ℕ} {ds : List ℕ} {fs : List Frame} → FramesFacts workers first ds fs → ZeroPast (length fs) ds
  sound_past F w j b l q = F.zeros w b j (omega (arith, F.within w b, l)) q

  -- the parts of a state, and a pool that has the recorded nodes
  module _ (ns ds : List ℕ) (fs : List Frame) (ws : List ℕ) (has : Lengths ns ds fs) (room : L.words * node_count ns ≤ length ws) where
    pub image_length : length (image_of L ns ds fs ws) ≡ image_bytes L (place_count ns) (node_count ns)
    image_length = written.length_image L low_version ns ds fs ws has room

    -- a target begins with the image that was stored
    pub saved_front : (t : List ℕ) → take (image_bytes L (place_count ns) (node_count ns)) (stored (image_of L ns ds fs ws) t) ≡ image_of L ns ds fs ws
    saved_front t = take_at (image_of L ns ds fs ws) (drop (length (image_of L ns ds fs ws)) t) (image_bytes L (place_count ns) (node_count ns)) image_length

    -- "Target bytes past the image never change."
    pub saved_rest : (t : List ℕ) → drop (image_bytes L (place_count ns) (node_count ns)) (stored (image_of L ns ds fs ws) t) ≡ drop (image_bytes L (place_count ns) (node_count ns)) t
    saved_rest t =
        drop_at (image_of L ns ds fs ws) (drop (length (image_of L ns ds fs ws)) t) (image_bytes L (place_count ns) (node_count ns)) image_length
        ∙ ap (λ (k : ℕ). drop k t) image_length

    -- the first number, the workers, leaves the version room in the first word
    module _ (all : AllWords L low_version ns ds fs ws) (few : (numbers_in ns).workers < version_step) (past : ZeroPast (place_count ns) ds) where
      pub says_what_was_written : Says L low_version (image_of L ns ds fs ws) ns ds fs ws
      says_what_was_written = written.written_says L low_version ns ds fs ws has room all few past

      -- "Reading back gives the same state", and the same nodes in the front of whatever pool ws₀ is lent; words past them stay
      pub read_back : (ws₀ ns' ds' : List ℕ) (fs' : List Frame) (ws' : List ℕ) → IsRead L (image_of L ns ds fs ws) ns' ds' fs' ws₀ ws'
          → (ns' ≡ ns) × (ds' ≡ ds) × (fs' ≡ fs) × (ws' ≡ take (L.words * node_count ns) ws ++ drop (L.words * node_count ns) ws₀)
      read_back ws₀ ns' ds' fs' ws' r =
          let s = says_what_was_written in (
            r.numbers ∙ s.numbers,
            r.deques ∙ s.deques,
            r.frames ∙ s.frames,
            r.pool ∙ ap (λ (l : List ℕ). stored l ws₀) s.pool
                ∙ ap (λ (k : ℕ). take (L.words * node_count ns) ws ++ drop k ws₀) (length-take-le (L.words * node_count ns) ws room),
          )

  -- an image that 17 and 18 do not refuse
  module _ (image : List ℕ) (good : image_check L image ≡ (Ok tt)) where
    pub whole_block : block_bytes ≤ length image
    whole_block = round.good_whole L low_version image good

    -- its numbers record the nodes and the places
    pub same_nodes : node_count (number_words_in L image) ≡ nodes_in image
    same_nodes = round.good_nodes L low_version image good

    pub same_places : place_count (number_words_in L image) ≡ places_in image
    same_places = round.good_places L low_version image good

    pub pool_length : length (pool_in L image) ≡ L.words * nodes_in image
    pool_length = round.length_pool L low_version image good

    -- the lent pool into which it was read begins with its nodes
    pool_front : (ws : List ℕ) → take (L.words * node_count (number_words_in L image)) (stored (pool_in L image) ws) ≡ take (L.words * node_count (number_words_in L image)) (pool_in L image)
    pool_front ws = take-append-le (L.words * node_count (number_words_in L image)) (pool_in L image) (drop (length (pool_in L image)) ws) (omega (arith, pool_length, ap (λ (m : ℕ). L.words * m) same_nodes))

    -- with a recorded length of at most 256
    module _ (most : places_in image ≤ max_places) where
      -- what it says are the parts of a state
      pub parts_lengths : Lengths (number_words_in L image) (deques_in L image) (frames_in L image)
      parts_lengths = round.good_parts L low_version image good most

      -- read and written again it is the same bytes
      pub written_again : Bytes image → image_of L (number_words_in L image) (deques_in L image) (frames_in L image) (pool_in L image) ≡ image
      written_again = written.written_again L low_version image good most

      -- also from the lent pool into which it was read
      pub saved_again : Bytes image → (ns ds : List ℕ) (fs : List Frame) (ws ws' : List ℕ) → IsRead L image ns ds fs ws ws' → image_of L ns ds fs ws' ≡ image
      saved_again h ns ds fs ws ws' r =
          rw (r.numbers, r.deques, r.frames, r.pool)
          (ap (λ (l : List ℕ). as_blocks (versioned L (number_words_in L image) ++ deques_for (place_count (number_words_in L image)) (deques_in L image) ++ table_words (frames_in L image) ++ l)) (pool_front ws) ∙ written_again h)
