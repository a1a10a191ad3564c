-- An image as it is written: its length, what it says, and an accepted image written again.
use Rattle.std.specs.Prelude.{◌≡◌, List, ◌++◌, ℕ, ◌*◌, ◌<◌, ◌≤◌, length, get_or, take, Ok}
use Rattle.std.proofs.Common.{sym, ap, ap₂, ◌∙◌, arith, length-take-le}
use Rattle.words.specs.Below.{Words, Bytes, below-take, below-append}
use Rattle.frames.specs.declared.Frame.{Frame}
use Rattle.frames.specs.Widths.{max_workers, max_places, record_words}
use Rattle.frames.specs.Deques.{place}
use Rattle.frames.proofs.Theory.RecordWords.{RecordWords}
use Rattle.image.specs.Widths.{deques_words, state_words, words_for, version_step}
use Rattle.image.specs.Image.{node_count, place_count, versioned, deques_for, table_words, image_words, bytes_of, blocks_of, filled, as_blocks, image_of, image_blocks, image_bytes, nodes_in, places_in, words_called, image_check, words_in, unversioned, number_words_in, records_in, deques_in, frames_in, pool_in, Lengths, ZeroPast}
use Rattle.image.proofs.Theory.Version.{Readable, length-versioned, nodes-versioned, places_versioned, words-versioned, first-versioned, version_off}
use Rattle.image.proofs.Theory.Parts.{ZerosAfter, length-deques_of, words-deques_of, deques_back, length-table, words-table, table_back}
use Rattle.image.proofs.Theory.Round.{PartLengths, blocks, long, length_three, length-parts, nodes_back, places_back, parts-accepted, numbers_part, deques_part, frames_part, pool_part, good_nodes, good_places, numbers_again, words_again, blocks_again}
use Rattle.soundness.specs.Layout.{Layout}

module _ (L : Layout) (low_version : L.version ≤ 4) where
  -- an image says just this
  pub record Says (image ns ds : List ℕ) (fs : List Frame) (ws : List ℕ) : Type 0 where
    pub good : image_check L image ≡ (Ok tt)
    pub nodes : nodes_in image ≡ node_count ns
    pub places : places_in image ≡ place_count ns
    pub numbers : number_words_in L image ≡ ns
    pub deques : deques_in L image ≡ ds
    pub frames : frames_in L image ≡ fs
    pub pool : pool_in L image ≡ take (L.words * node_count ns) ws

  -- each is a word
  pub record AllWords (ns ds : List ℕ) (fs : List Frame) (ws : List ℕ) : Type 0 where
    pub numbers : Words ns
    pub deques : Words ds
    pub frames : RecordWords fs
    pub pool : Words ws

  zeros-after : (k : ℕ) (ds : List ℕ) → ZeroPast k ds → ZerosAfter max_workers k ds
  unfolding place
  zeros-after k ds z = z

  -- ---- what is written

  module _ (ns ds : List ℕ) (fs : List Frame) (ws : List ℕ) (has : Lengths ns ds fs) (room : L.words * node_count ns ≤ length ws) where
    abbrev k : ℕ
    k = place_count ns

    abbrev vs : List ℕ
    vs = versioned L ns

    abbrev nodes : List ℕ
    nodes = take (L.words * node_count ns) ws

    most : place_count ns ≤ max_places
    most = omega (arith, has.frames, has.most)

    lengths : PartLengths L low_version vs (deques_for k ds) (table_words fs) nodes
    lengths =
        record {
          numbers = length-versioned L low_version ns ∙ has.numbers;
          deques = length-deques_of max_workers k ds most (omega (arith, has.deques)) ∙ ap deques_words (sym (places_versioned L low_version ns));
          frames = length-table fs ∙ ap (λ (n : ℕ). record_words * n) (has.frames ∙ sym (places_versioned L low_version ns));
          nodes = length-take-le (L.words * node_count ns) ws room ∙ ap (λ (n : ℕ). L.words * n) (sym (nodes-versioned L low_version ns));
        }

    pub length_state : length (versioned L ns ++ deques_for (place_count ns) ds ++ table_words fs) ≡ state_words (place_count ns)
    length_state = length_three L low_version vs (deques_for k ds) (table_words fs) nodes lengths ∙ ap state_words (places_versioned L low_version ns)

    pub length_image_words : length (image_words L ns ds fs ws) ≡ words_for L (place_count ns) (node_count ns)
    length_image_words = length-parts L low_version vs (deques_for k ds) (table_words fs) nodes lengths ∙ ap₂ (words_for L) (places_versioned L low_version ns) (nodes-versioned L low_version ns)

    pub image_blocks_lem : image_of L ns ds fs ws ≡ blocks_of (image_blocks L (place_count ns) (node_count ns)) (bytes_of (filled (image_blocks L (place_count ns) (node_count ns)) (image_words L ns ds fs ws)))
    image_blocks_lem = blocks L low_version (image_words L ns ds fs ws) (words_for L k (node_count ns)) length_image_words (omega arith)

    pub length_image : length (image_of L ns ds fs ws) ≡ image_bytes L (place_count ns) (node_count ns)
    length_image = long L low_version (image_words L ns ds fs ws) (words_for L k (node_count ns)) length_image_words (omega arith)

    -- the first number, the workers, leaves the version room in the first word
    module _ (all : AllWords ns ds fs ws) (few : get_or ns 0 0 < version_step) (past : ZeroPast (place_count ns) ds) where
      words : Words (image_words L ns ds fs ws)
      words =
          below-append 4294967296 (vs ++ deques_for k ds ++ table_words fs) nodes
          (below-append 4294967296 (vs ++ deques_for k ds) (table_words fs)
          (below-append 4294967296 vs (deques_for k ds) (words-versioned L low_version ns all.numbers) (words-deques_of max_workers k ds all.deques))
          (words-table fs all.frames))
          (below-take 4294967296 (L.words * node_count ns) ws (omega arith) all.pool)

      form : Readable L low_version (get_or vs 0 0)
      form = first-versioned L low_version ns (omega (arith, has.numbers)) few

      pub written_says : Says (image_of L ns ds fs ws) ns ds fs ws
      written_says =
          let dw : List ℕ = deques_for k ds in
          let fw : List ℕ = table_words fs in
          record {
            good = parts-accepted L low_version vs dw fw nodes lengths words form;
            nodes = nodes_back L low_version vs dw fw nodes lengths words ∙ nodes-versioned L low_version ns;
            places = places_back L low_version vs dw fw nodes lengths words ∙ places_versioned L low_version ns;
            numbers = ap unversioned (numbers_part L low_version vs dw fw nodes lengths words form) ∙ version_off L low_version ns few;
            deques = deques_part L low_version vs dw fw nodes lengths words form ds (λ rest. rw (places_versioned L low_version ns) (deques_back max_workers k ds rest most has.deques (zeros-after k ds past)));
            frames = frames_part L low_version vs dw fw nodes lengths words form fs (λ rest. ap (λ (n : ℕ). records_in n (table_words fs ++ rest)) (places_versioned L low_version ns ∙ sym has.frames) ∙ table_back fs rest);
            pool = pool_part L low_version vs dw fw nodes lengths words form;
          }

  -- ---- an accepted image, written again

  module _ (image : List ℕ) (good : image_check L image ≡ (Ok tt)) (most : places_in image ≤ max_places) where
    words-written : image_words L (number_words_in L image) (deques_in L image) (frames_in L image) (pool_in L image) ≡ take (words_called L image) (words_in L image)
    words-written =
        ap₂ (λ (n k : ℕ). versioned L (number_words_in L image) ++ deques_for k (deques_in L image) ++ table_words (frames_in L image) ++ take (L.words * n) (pool_in L image)) (good_nodes L low_version image good) (good_places L low_version image good)
        ∙ ap (λ (ns : List ℕ). ns ++ deques_for (places_in image) (deques_in L image) ++ table_words (frames_in L image) ++ take (L.words * nodes_in image) (pool_in L image)) (numbers_again L low_version image good)
        ∙ words_again L low_version image good most

    pub written_again : Bytes image → image_of L (number_words_in L image) (deques_in L image) (frames_in L image) (pool_in L image) ≡ image
    written_again h = ap as_blocks words-written ∙ blocks_again L low_version image good h
