-- Reading what was written gives the same words; an accepted image written again is the same image.
use Rattle.std.specs.Prelude.{◌≡◌, false, not, take, drop, replicate, eqb, Ok}
use Rattle.std.proofs.Math.Path.{refl, ap, ap₂}
use Rattle.std.proofs.Common.{sym, subst, ◌∙◌, length-append, length-set, length-drop, take-append-drop, take_at, drop_at, get_or-take, take-add, take-take, eqb-true}
use Rattle.std.proofs.Math.Bool.{true}
use mathlib.Core.List.{List, [], ◌∷◌, ◌++◌, append_assoc}
use Prim.Native.Nat.{ℕ, zero, suc, ◌+◌, ◌-◌, ◌*◌, ◌<◌, ◌≤◌}
use native.Mathlib.Omega.{arith}
use Rattle.std.proofs.Math.ListN.{length, get_or, get_or-append}
use Rattle.std.proofs.lemmas.List.{length-replicate}
use Rattle.std.proofs.Math.Seq.{length-take-le}
use Rattle.words.specs.Tests.{both, neither, not-false}
use Rattle.frames.specs.declared.Frame.{Frame}
use Rattle.frames.specs.Widths.{max_workers, max_places, record_words}
use Rattle.soundness.specs.Numbers.{number_count}
use Rattle.image.specs.Widths.{deques_words, state_words, words_for}
use Rattle.image.specs.Image.{node_count, place_count, versioned, deques_for, table_words, bytes_of, words_of, blocks_of, blocks_for, filled, as_blocks, first_in, nodes_in, places_in, words_called, blocks_called, wrong_length, data_of, checks_hold, all_zero, rest_of, wrong_check, image_check, words_in, lent_deques, records_in, number_words_in, deques_in, frames_in, pool_in, Lengths}
use Rattle.image.proofs.Theory.Version.{Readable, nodes-unversioned, places_unversioned, version_on}
use Rattle.image.proofs.Theory.Bytes.{Bytes, Words, Below, length-bytes, bytes-append, bytes_take, bytes-zeros, words_back, length-words, bytes-words, words_append}
use Rattle.image.proofs.Theory.Refused.{RightLength, whole, right-length, length-right, means}
use Rattle.image.proofs.Theory.Blocks.{below-drop, below-take, below-append, length_blocks, data_back, checks_back, blocks_back, length_data}
use Rattle.image.proofs.Theory.Parts.{length-lent, deques_again, length_records, table_again}
use Rattle.soundness.specs.Layout.{Layout}

module _ (L : Layout) (low_version : L.version ≤ 4) where
  -- ---- zeros

  zero_zeros : (n : ℕ) → all_zero (replicate n 0) ≡ true
  unfolding all_zero
  zero_zeros zero = refl
  zero_zeros (suc n) = zero_zeros n

  zeros_of : (bs : List ℕ) → all_zero bs ≡ true → bs ≡ replicate (length bs) 0
  unfolding all_zero
  zeros_of [] e = refl
  zeros_of (b ∷ bs) e = let h = both (eqb b 0) (all_zero bs) e in ap₂ ◌∷◌ (eqb-true b 0 h.0) (zeros_of bs h.1)

  so_many_zeros : (bs : List ℕ) (j : ℕ) → all_zero bs ≡ true → j ≡ length bs → replicate j 0 ≡ bs
  so_many_zeros bs j z e = ap (λ (k : ℕ). replicate k 0) e ∙ sym (zeros_of bs z)

  below-zeros : (N n : ℕ) → 0 < N → Below N (replicate n 0)
  below-zeros N zero p i = p
  below-zeros N (suc n) p zero = p
  below-zeros N (suc n) p (suc i) = below-zeros N n p i

  -- ---- words as blocks

  -- enough blocks, and not one too many
  pub blocks_enough : (w : ℕ) → w ≤ 127 * blocks_for w
  blocks_enough w = omega arith

  pub blocks_needed : (w : ℕ) → 127 * blocks_for w < w + 127
  blocks_needed w = omega arith

  pub length-filled : (n : ℕ) (ws : List ℕ) → length ws ≤ 127 * n → length (filled n ws) ≡ 127 * n
  length-filled n ws h = omega (arith, length-append ws (replicate (127 * n - length ws) 0), length-replicate {A = ℕ} (127 * n - length ws) 0)

  -- the words of the first block are the first of the whole data
  first-words : (n : ℕ) (image : List ℕ) (i : ℕ) → 0 < n → 508 ≤ length image → i < 127 → get_or (words_of (data_of n image)) i 0 ≡ get_or (words_of (take 508 image)) i 0
  unfolding data_of
  first-words zero image i p l b = absurd (omega arith)
  first-words (suc n) image i p l b =
      let e : length (take 508 image) ≡ 4 * 127 = length-take-le 508 image l in
      ap (λ (ws : List ℕ). get_or ws i 0) (words_append 127 (take 508 image) (data_of n (drop 512 image)) e)
      ∙ get_or-append (words_of (take 508 image)) (words_of (data_of n (drop 512 image))) 0 i (omega (arith, length-words 127 (take 508 image) e))

  -- ---- words as an image, and back

  module _ (W : List ℕ) (w : ℕ) (l : length W ≡ w) (ten : number_count ≤ w) where
    pub blocks : as_blocks W ≡ blocks_of (blocks_for w) (bytes_of (filled (blocks_for w) W))
    unfolding as_blocks
    blocks = ap (λ (k : ℕ). blocks_of (blocks_for k) (bytes_of (filled (blocks_for k) W))) l

    abbrev zeros-after : List ℕ
    zeros-after = replicate (127 * blocks_for w - length W) 0

    fit : length (bytes_of (filled (blocks_for w) W)) ≡ 508 * blocks_for w
    fit = omega (arith, length-bytes (filled (blocks_for w) W), length-filled (blocks_for w) W (omega (arith, blocks_enough w)))

    pub long : length (as_blocks W) ≡ 512 * blocks_for w
    long = ap length blocks ∙ length_blocks (blocks_for w) (bytes_of (filled (blocks_for w) W)) fit

    its_data : data_of (blocks_for w) (as_blocks W) ≡ bytes_of (filled (blocks_for w) W)
    its_data = ap (data_of (blocks_for w)) blocks ∙ data_back (blocks_for w) (bytes_of (filled (blocks_for w) W)) fit

    module _ (h : Words W) where
      its_words : words_of (data_of (blocks_for w) (as_blocks W)) ≡ filled (blocks_for w) W
      its_words =
          ap words_of its_data
          ∙ words_back (filled (blocks_for w) W) (below-append 4294967296 W zeros-after h (below-zeros 4294967296 (127 * blocks_for w - length W) (omega arith)))

      -- its first words are those of the first block
      recorded : (i : ℕ) → i < number_count → get_or (words_of (take 508 (as_blocks W))) i 0 ≡ get_or W i 0
      recorded i b =
          sym (first-words (blocks_for w) (as_blocks W) i (omega arith) (omega (arith, long)) (omega arith))
          ∙ ap (λ (ws : List ℕ). get_or ws i 0) its_words ∙ get_or-append W zeros-after 0 i (omega arith)

      -- of a readable form, and as many words as are called for
      module _ (form : Readable L low_version (get_or W 0 0)) (size : words_called L (as_blocks W) ≡ w) where
        not_17 : wrong_length L (as_blocks W) ≡ false
        not_17 =
            let f : first_in (as_blocks W) ≡ get_or W 0 0 = recorded 0 (omega arith) in
            right-length L low_version (as_blocks W) (record { form = subst (Readable L low_version) (sym f) form; long = long ∙ ap (λ (k : ℕ). 512 * blocks_for k) (sym size) })

        rest : all_zero (rest_of L (as_blocks W)) ≡ true
        rest =
            ap (λ (k : ℕ). all_zero (drop (4 * k) (data_of (blocks_for k) (as_blocks W)))) size
            ∙ ap (λ (bs : List ℕ). all_zero (drop (4 * w) bs)) (its_data ∙ bytes-append W zeros-after)
            ∙ ap all_zero (drop_at (bytes_of W) (bytes_of zeros-after) (4 * w) (length-bytes W ∙ ap (λ (k : ℕ). 4 * k) l))
            ∙ ap all_zero (bytes-zeros (127 * blocks_for w - length W))
            ∙ zero_zeros (4 * (127 * blocks_for w - length W))

        not_18 : wrong_check L (as_blocks W) ≡ false
        unfolding wrong_check
        not_18 =
            let c : checks_hold (blocks_called L (as_blocks W)) (as_blocks W) ≡ true = ap₂ checks_hold (ap blocks_for size) blocks ∙ checks_back (blocks_for w) (bytes_of (filled (blocks_for w) W)) fit in
            rw (c, rest)

        accepted : image_check L (as_blocks W) ≡ (Ok tt)
        unfolding image_check
        accepted = rw (not_17, not_18)

        same-words : words_in L (as_blocks W) ≡ filled (blocks_for w) W
        same-words = ap (λ (k : ℕ). words_of (data_of (blocks_for k) (as_blocks W))) size ∙ its_words

  -- ---- the parts: ns has the version

  -- the second of three
  second : (a b c : List ℕ) (m n : ℕ) → length a ≡ m → length b ≡ n → take n (drop m (a ++ b ++ c)) ≡ b
  second a b c m n p q = ap (λ (l : List ℕ). take n (drop m l)) (append_assoc a b c) ∙ ap (take n) (drop_at a (b ++ c) m p) ∙ take_at b c n q

  -- the words of the deques, of the table and of the nodes, as many as ns calls for
  pub record PartLengths (ns ds fs ks : List ℕ) : Type 0 where
    pub numbers : length ns ≡ number_count
    pub deques : length ds ≡ deques_words (place_count ns)
    pub frames : length fs ≡ record_words * place_count ns
    pub nodes : length ks ≡ L.words * node_count ns

  module _ (ns ds fs ks : List ℕ) (has : PartLengths ns ds fs ks) where
    abbrev parts : List ℕ
    parts = ns ++ ds ++ fs ++ ks

    length_two : length (ns ++ ds) ≡ number_count + deques_words (place_count ns)
    length_two = omega (arith, length-append ns ds, has.numbers, has.deques)

    pub length_three : length (ns ++ ds ++ fs) ≡ state_words (place_count ns)
    length_three = omega (arith, length-append (ns ++ ds) fs, length_two, has.frames)

    abbrev size : ℕ
    size = words_for L (place_count ns) (node_count ns)

    pub length-parts : length (ns ++ ds ++ fs ++ ks) ≡ words_for L (place_count ns) (node_count ns)
    length-parts = omega (arith, length-append (ns ++ ds ++ fs) ks, length_three, has.nodes)

    number_first : (i : ℕ) → i < number_count → get_or parts i 0 ≡ get_or ns i 0
    number_first i b =
        get_or-append (ns ++ ds ++ fs) ks 0 i (omega (arith, length_three))
        ∙ get_or-append (ns ++ ds) fs 0 i (omega (arith, length_two))
        ∙ get_or-append ns ds 0 i (omega (arith, has.numbers))

    module _ (all : Words (ns ++ ds ++ fs ++ ks)) where
      number_recorded : (i : ℕ) → i < number_count → get_or (words_of (take 508 (as_blocks parts))) i 0 ≡ get_or ns i 0
      number_recorded i b = recorded parts size length-parts (omega arith) all i b ∙ number_first i b

      pub first_back : first_in (as_blocks (ns ++ ds ++ fs ++ ks)) ≡ get_or ns 0 0
      first_back = number_recorded 0 (omega arith)

      pub nodes_back : nodes_in (as_blocks (ns ++ ds ++ fs ++ ks)) ≡ node_count ns
      nodes_back = number_recorded 2 (omega arith)

      pub places_back : places_in (as_blocks (ns ++ ds ++ fs ++ ks)) ≡ place_count ns
      places_back = number_recorded 9 (omega arith)

      module _ (form : Readable L low_version (get_or ns 0 0)) where
        called : words_called L (as_blocks parts) ≡ size
        called = ap₂ (words_for L) places_back nodes_back

        form_parts : Readable L low_version (get_or parts 0 0)
        form_parts = subst (Readable L low_version) (sym (number_first 0 (omega arith))) form

        -- 17 and 18 do not refuse it,
        pub parts-accepted : image_check L (as_blocks (ns ++ ds ++ fs ++ ks)) ≡ (Ok tt)
        parts-accepted = accepted parts size length-parts (omega arith) all form_parts called

        abbrev tail : List ℕ
        tail = replicate (127 * blocks_for size - length parts) 0

        words : words_in L (as_blocks parts) ≡ ns ++ ds ++ fs ++ ks ++ tail
        words = same-words parts size length-parts (omega arith) all form_parts called

        words_three : words_in L (as_blocks parts) ≡ ns ++ ds ++ (fs ++ (ks ++ tail))
        words_three = words ∙ append_assoc (ns ++ ds ++ fs) ks tail ∙ append_assoc (ns ++ ds) fs (ks ++ tail)

        words_two : words_in L (as_blocks parts) ≡ ns ++ (ds ++ (fs ++ (ks ++ tail)))
        words_two = words_three ∙ append_assoc ns ds (fs ++ (ks ++ tail))

        -- and its words are the numbers,
        pub numbers_part : take number_count (words_in L (as_blocks (ns ++ ds ++ fs ++ ks))) ≡ ns
        numbers_part = ap (take number_count) words_two ∙ take_at ns (ds ++ (fs ++ (ks ++ tail))) number_count has.numbers

        -- the deques, whatever words follow theirs,
        pub deques_part : (es : List ℕ) → ((rest : List ℕ) → lent_deques max_workers (place_count ns) (ds ++ rest) ≡ es) → deques_in L (as_blocks (ns ++ ds ++ fs ++ ks)) ≡ es
        deques_part es e =
            ap₂ (lent_deques max_workers) places_back (ap (drop number_count) words_two ∙ drop_at ns (ds ++ (fs ++ (ks ++ tail))) number_count has.numbers) ∙ e (fs ++ (ks ++ tail))

        -- the frame table, likewise,
        pub frames_part : (gs : List Frame) → ((rest : List ℕ) → records_in (place_count ns) (fs ++ rest) ≡ gs) → frames_in L (as_blocks (ns ++ ds ++ fs ++ ks)) ≡ gs
        frames_part gs e =
            ap₂ (λ (k : ℕ) (l : List ℕ). records_in k (drop (number_count + deques_words k) l)) places_back words_three
            ∙ ap (records_in (place_count ns)) (drop_at (ns ++ ds) (fs ++ (ks ++ tail)) (number_count + deques_words (place_count ns)) length_two) ∙ e (ks ++ tail)

        -- and the nodes that were written
        pub pool_part : pool_in L (as_blocks (ns ++ ds ++ fs ++ ks)) ≡ ks
        pool_part =
            ap₂ (λ (k m : ℕ). take (L.words * k) (drop (state_words m) (words_in L (as_blocks parts)))) nodes_back places_back
            ∙ ap (λ (l : List ℕ). take (L.words * node_count ns) (drop (state_words (place_count ns)) l)) words
            ∙ second (ns ++ ds ++ fs) ks tail (state_words (place_count ns)) (L.words * node_count ns) length_three has.nodes

  -- ---- an accepted image, written again

  below_data : (n : ℕ) (image : List ℕ) → Bytes image → Bytes (data_of n image)
  unfolding data_of
  below_data zero image h = λ i. omega arith
  below_data (suc n) image h = below-append 256 (take 508 image) (data_of n (drop 512 image)) (below-take 256 508 image (omega arith) h) (below_data n (drop 512 image) (below-drop 256 512 image h))

  module _ (image : List ℕ) (good : image_check L image ≡ (Ok tt)) where
    abbrev n : ℕ
    n = blocks_called L image

    abbrev w : ℕ
    w = words_called L image

    good_right : RightLength L low_version image
    good_right = length-right L low_version image (means L low_version image (Ok tt) good).0

    pub good_length : length image ≡ 512 * n
    good_length = good_right.long

    pub good_whole : 512 ≤ length image
    good_whole = whole L low_version image good_length

    good_checks_rest : (checks_hold n image ≡ true) × (all_zero (rest_of L image) ≡ true)
    unfolding wrong_check
    good_checks_rest =
        let e = neither (not (checks_hold n image)) (not (all_zero (rest_of L image))) (means L low_version image (Ok tt) good).1 in
        (not-false (checks_hold n image) e.0, not-false (all_zero (rest_of L image)) e.1)

    length_d : length (data_of n image) ≡ 4 * (127 * n)
    length_d = length_data n image (omega (arith, good_length)) ∙ omega arith

    enough : w ≤ 127 * n
    enough = blocks_enough w

    length_w : length (words_in L image) ≡ 127 * n
    length_w = length-words (127 * n) (data_of n image) length_d

    pub part_length : (i k : ℕ) → i + k ≤ w → length (take k (drop i (words_in L image))) ≡ k
    part_length i k h = length-take-le k (drop i (words_in L image)) (omega (arith, length-drop i (words_in L image), length_w, enough))

    pub length_pool : length (pool_in L image) ≡ L.words * nodes_in image
    length_pool = part_length (state_words (places_in image)) (L.words * nodes_in image) (omega arith)

    -- its numbers are those of the first block
    good_number : (i : ℕ) → i < number_count → get_or (take number_count (words_in L image)) i 0 ≡ get_or (words_of (take 508 image)) i 0
    good_number i b =
        get_or-take number_count (words_in L image) i 0 b ∙ first-words n image i (omega arith) (omega (arith, good_whole)) (omega arith)

    good_first : get_or (take number_count (words_in L image)) 0 0 ≡ first_in image
    good_first = good_number 0 (omega arith)

    -- they record the nodes and the places
    pub good_nodes : node_count (number_words_in L image) ≡ nodes_in image
    good_nodes = nodes-unversioned L low_version (take number_count (words_in L image)) ∙ good_number 2 (omega arith)

    pub good_places : place_count (number_words_in L image) ≡ places_in image
    good_places = places_unversioned L low_version (take number_count (words_in L image)) ∙ good_number 9 (omega arith)

    -- with the version again
    pub numbers_again : versioned L (number_words_in L image) ≡ take number_count (words_in L image)
    numbers_again = version_on L low_version (take number_count (words_in L image)) (subst (Readable L low_version) (sym good_first) good_right.form)

    -- a table of at most 256 places
    module _ (most : places_in image ≤ max_places) where
      abbrev k : ℕ
      k = places_in image

      pub after_numbers : deques_words (places_in image) ≤ length (drop number_count (words_in L image))
      after_numbers = omega (arith, length-drop number_count (words_in L image), length_w, enough)

      -- the parts of an accepted image have their lengths
      pub good_parts : Lengths (number_words_in L image) (deques_in L image) (frames_in L image)
      good_parts =
          let f : length (frames_in L image) ≡ places_in image = length_records k (drop (number_count + deques_words k) (words_in L image)) in
          record {
            numbers = length-set (take number_count (words_in L image)) 0 _ ∙ part_length 0 number_count (omega arith);
            deques = length-lent max_workers k (drop number_count (words_in L image)) most after_numbers;
            frames = f ∙ sym good_places;
            most = omega (arith, f, most);
          }

      -- what the parts make up again
      pub words_again : take number_count (words_in L image) ++ deques_for (places_in image) (deques_in L image) ++ table_words (frames_in L image) ++ take (L.words * nodes_in image) (pool_in L image) ≡ take w (words_in L image)
      words_again =
          let W : List ℕ = words_in L image in
          let m : ℕ = L.words * nodes_in image in
          let d : deques_for k (deques_in L image) ≡ take (deques_words k) (drop number_count W) = deques_again max_workers k (drop number_count W) most after_numbers in
          let t : table_words (frames_in L image) ≡ take (record_words * k) (drop (number_count + deques_words k) W) =
          table_again k (drop (number_count + deques_words k) W) (omega (arith, length-drop (number_count + deques_words k) W, length_w, enough)) in
          ap₂ (λ (a b : List ℕ). take number_count W ++ a ++ b ++ take m (pool_in L image)) d t
          ∙ ap (λ (l : List ℕ). take number_count W ++ take (deques_words k) (drop number_count W) ++ take (record_words * k) (drop (number_count + deques_words k) W) ++ l) (take-take m m (drop (state_words k) W) (omega arith))
          ∙ ap (λ (l : List ℕ). l ++ take (record_words * k) (drop (number_count + deques_words k) W) ++ pool_in L image) (sym (take-add number_count (deques_words k) W))
          ∙ ap (λ (l : List ℕ). l ++ pool_in L image) (sym (take-add (number_count + deques_words k) (record_words * k) W))
          ∙ sym (take-add (state_words k) m W)

    module _ (h : Bytes image) where
      bytes_again : bytes_of (words_in L image) ≡ data_of n image
      bytes_again = bytes-words (127 * n) (data_of n image) length_d (below_data n image h)

      length_again : length (take w (words_in L image)) ≡ w
      length_again = length-take-le w (words_in L image) (omega (arith, length_w, enough))

      -- the zeros that filling puts there are the rest of the last block
      rest_again : (k : ℕ) → k ≡ w → bytes_of (replicate (127 * n - k) 0) ≡ rest_of L image
      rest_again k e =
          bytes-zeros (127 * n - k) ∙ so_many_zeros (rest_of L image) (4 * (127 * n - k)) good_checks_rest.1 (omega (arith, e, length-drop (4 * w) (data_of n image), length_d))

      filled_again : bytes_of (filled n (take w (words_in L image))) ≡ data_of n image
      filled_again =
          bytes-append (take w (words_in L image)) (replicate (127 * n - length (take w (words_in L image))) 0)
          ∙ ap₂ ◌++◌ (bytes_take w (words_in L image) ∙ ap (take (4 * w)) bytes_again) (rest_again (length (take w (words_in L image))) length_again)
          ∙ take-append-drop (4 * w) (data_of n image)

      pub blocks_again : as_blocks (take (words_called L image) (words_in L image)) ≡ image
      unfolding as_blocks
      blocks_again =
          ap (λ (k : ℕ). blocks_of (blocks_for k) (bytes_of (filled (blocks_for k) (take w (words_in L image))))) length_again
          ∙ ap (blocks_of n) filled_again
          ∙ blocks_back n image good_length h good_checks_rest.0
