-- The ways out of a save and of a reading, over plain variables.
use Rattle.std.specs.Prelude.{Err, Ok}
use mathlib.Core.Path.{◌≡◌, refl, sym, ap, ◌∙◌, subst}
use mathlib.Core.Logic.{◌≢◌, inl, inr}
use mathlib.Core.Bool.{Bool, true, false, cond, ◌&&◌}
use mathlib.Core.List.{List, ◌++◌}
use Prim.Native.Nat.{ℕ, suc, ◌+◌, ◌-◌, ◌*◌, ◌/◌, ◌≤◌}
use native.Mathlib.Omega.{arith}
use lib.Dec.{eqb, leb, ltb}
use lib.ListN.{length, drop, replicate, length-append, length-drop}
use lib.Seq.{drop_at, drop-drop}
use borrow.Author.Tests.{eq-eqb, le-leb, eqb-true, leb-true, ltb-false, leb-false}
use Rattle.image.specs.Image.{ImageCheck}
use Rattle.image.specs.declared.ImageError.TheVariants.{WrongLength, WrongCheck}
use Rattle.soundness.specs.Soundness.{Checked}
use Rattle.soundness.specs.declared.CheckError.{CheckError}
use Rattle.soundness.specs.declared.CheckError.TheVariants.{NoRoom}
use Rattle.words.specs.Tests.{decided, both, true≢false}
use Rattle.frames.specs.declared.Frame.{Frame}
use Rattle.frames.specs.Widths.{max_places}
use Rattle.frames.specs.Frames.{free_record}
use Rattle.soundness.specs.declared.Numbers.{Numbers}
use Rattle.soundness.specs.Numbers.{numbers_in, totals_in, number_count}
use Rattle.soundness.specs.Soundness.{sound, count_of_free, checked, cleared}
use Rattle.soundness.proofs.Theory.Sentences.{few_places}
use Rattle.image.specs.Image.{Lengths, IsRead, image_of, image_bytes, image_check, node_count, nodes_in, places_in, number_words_in, pool_in, stored}
use Rattle.image.proofs.Theory.Promises.{parts_lengths, same_nodes, same_places, pool_length}
use Rattle.semantics.specs.declared.Refusal.TheVariants.{Work, Target}
use Rattle.semantics.specs.Answers.{refusal_number}
use Rattle.semantics.specs.Entries.{State, zeros, is_sound, whole_nodes}
use Rattle.semantics.specs.Images.{SaveResult, saved_bytes, save_checked, save_with, LoadResult, state_in, pool_with, records_zero, nodes_zero, load_refused, load_read, load_checked, load_with}
use Rattle.semantics.specs.Promises.{parts, Fits, IsSave, IsLoad}
use Rattle.semantics.proofs.Theory.WorkSlice.{checked_room, no_room_keeps}
use Rattle.semantics.proofs.Theory.Images.{sound_numbers}
use Rattle.engine.specs.Promises.{IsCheck, IsRechecked, IsLoading}
use Rattle.engine.proofs.Numbered.{check_number, image_number}
use Rattle.soundness.specs.Layout.{two_words}
use Rattle.image.proofs.Theory.Version.{two_version}

-- ---- the number of a test's refusal, or 0

met : (b : Bool) (k r : ℕ) → r ≡ cond b k 0 → r ≢ 0 → b ≡ true
met true k r e n = refl
met false k r e n = absurd (n e)

unmet : (b : Bool) (k r : ℕ) → r ≡ cond b (suc k) 0 → r ≡ 0 → b ≡ false
unmet true k r e z = absurd (omega (arith, e, z))
unmet false k r e z = refl

and-false : (a : Bool) {b : Bool} → b ≡ false → a && b ≡ false
and-false true e = e
and-false false e = refl

-- ---- what the check's answer says

module _ (s : Numbers) (ts ds : List ℕ) (fs : List Frame) (ws ks : List ℕ) where
  no_room : leb s.nodes (length ks) ≡ false → checked two_words s ts ds fs ws ks ≡ (Err NoRoom)
  unfolding checked
  no_room l = rw l

  module _ (k : Checked) (e : k ≡ checked two_words s ts ds fs ws ks) where
    -- with room, an answer that refuses is that state or pool is not sound
    answer_unsound : s.nodes ≤ length ks → check_number k ≢ 0 → sound two_words s ts ds fs ws ≡ false
    answer_unsound room n =
        let q = e ∙ checked_room two_words s ts ds fs ws ks (le-leb s.nodes (length ks) room) in
        elim (decided (sound two_words s ts ds fs ws)) [
          | inl t ↦ (let z : k ≡ Ok (count_of_free two_words s ws) = q ∙ ap (λ (b : Bool). cond b (Ok (count_of_free two_words s ws)) (Err CheckError.Unsound)) t in absurd (n (ap check_number z)))
          | inr t ↦ t
        ]

    answer-sound : check_number k ≡ 0 → sound two_words s ts ds fs ws ≡ true
    answer-sound z = elim (decided (leb s.nodes (length ks))) [
      | inr l ↦ absurd (omega (arith, z, ap check_number (e ∙ no_room l)))
      | inl l ↦ elim (decided (sound two_words s ts ds fs ws)) [
        | inl q ↦ q
        | inr q ↦ (
            let u : k ≡ (Err CheckError.Unsound) = e ∙ checked_room two_words s ts ds fs ws ks l ∙ ap (λ (b : Bool). cond b (Ok (count_of_free two_words s ws)) (Err CheckError.Unsound)) q in
            absurd (omega (arith, z, ap check_number u)))
      ]
    ]

-- ---- a save

module _ (ns ds : List ℕ) (fs : List Frame) (ws ks ts : List ℕ) (k : Checked) (ks' : List ℕ) (ek : IsCheck two_words (parts ns ds fs) ws ks ks' k) (r : ℕ) (er : r ≡ check_number k) where
  abbrev s : State
  s = parts ns ds fs

  by_answer : (o : SaveResult) → o ≡ save_checked two_words k s ws ks ts → o ≡ save_with two_words (parts ns ds fs) ws ks ts
  unfolding save_with
  by_answer o e = e ∙ ap (λ (j : Checked). save_checked two_words j s ws ks ts) ek.1

  is_save : (ks₁ ts₁ : List ℕ) (r₁ : ℕ) → record { work = ks₁; target = ts₁; result = r₁ } ≡ save_with two_words (parts ns ds fs) ws ks ts → IsSave (save_with two_words (parts ns ds fs) ws ks ts) ks₁ ts₁ r₁
  is_save ks₁ ts₁ r₁ e = record { result = ap (λ (o : SaveResult). o.result) e; work = ap (λ (o : SaveResult). o.work) e; target = ap (λ (o : SaveResult). o.target) e }

  refused_by_lem : (j : Checked) → k ≡ j → r ≢ 0 → ◌≡◌ {A = SaveResult} (record { work = ks'; target = ts; result = r }) (save_checked two_words k s ws ks ts)
  refused_by_lem (Err NoRoom) e n = let kept : ks' ≡ ks = ek.0 ∙ no_room_keeps two_words (numbers_in ns) (totals_in ns) ds fs ws ks (sym ek.1 ∙ e) in rw (er, e, kept)
  refused_by_lem (Err CheckError.Unsound) e n = rw (er, e, ek.0)
  refused_by_lem (Ok free) e n = absurd (n (er ∙ ap check_number e))

  pub save_refused_lem : r ≢ 0 → IsSave (save_with two_words (parts ns ds fs) ws ks ts) ks' ts r
  save_refused_lem n = is_save ks' ts r (by_answer _ (refused_by_lem k refl n))

  module _ (z : r ≡ 0) where
    sound-answer : (j : Checked) → k ≡ j → (o : SaveResult) → ((free : ℕ) → k ≡ Ok free → o ≡ save_checked two_words (Ok free) s ws ks ts) → o ≡ save_checked two_words k s ws ks ts
    sound-answer (Err NoRoom) e o h = absurd (omega (arith, z, er, ap check_number e))
    sound-answer (Err CheckError.Unsound) e o h = absurd (omega (arith, z, er, ap check_number e))
    sound-answer (Ok free) e o h = h free e ∙ ap (λ (j : Checked). save_checked two_words j s ws ks ts) (sym e)

    module _ (t : ℕ) (et : t ≡ cond (ltb (length ts) (image_bytes two_words (numbers_in ns).places (numbers_in ns).nodes)) (refusal_number Target) 0) where
      pub save_short : t ≢ 0 → IsSave (save_with two_words (parts ns ds fs) ws ks ts) ks' ts t
      save_short n =
          let short = met (ltb (length ts) (saved_bytes two_words s)) 19 t et n in
          is_save ks' ts t (by_answer _ (sound-answer k refl _ (λ free e. rw (ek.0, et, short))))

      module _ (y : t ≡ 0) where
        long_target : ltb (length ts) (saved_bytes two_words s) ≡ false
        long_target = unmet (ltb (length ts) (saved_bytes two_words s)) 18 t et y

        -- the table has the recorded places, the nodes are in the pool, and the target holds the image
        pub save_asks : Fits (parts ns ds fs) → Lengths ns ds fs × (2 * node_count ns ≤ length ws) × (image_bytes two_words (numbers_in ns).places (numbers_in ns).nodes ≤ length ts)
        save_asks F =
            let N = sound_numbers two_words s ws (answer-sound (numbers_in ns) (totals_in ns) ds fs ws ks k ek.1 (sym er ∙ z)) in
            (record { numbers = F.numbers; deques = F.deques; frames = N.table; most = few_places N }, N.room, ltb-false (length ts) (saved_bytes two_words s) long_target)

        pub save_done : (ts' : List ℕ) → ts' ≡ stored (image_of two_words ns ds fs ws) ts → IsSave (save_with two_words (parts ns ds fs) ws ks ts) ks' ts' 0
        save_done ts' e' = is_save ks' ts' 0 (by_answer _ (sound-answer k refl _ (λ free e. rw (ek.0, e', long_target))))

-- ---- the check of what was read

module _ (ns ds : List ℕ) (fs : List Frame) (ws ks : List ℕ) (room : (numbers_in ns).nodes ≤ length ks) (k : Checked) (ks' : List ℕ) (ek : IsCheck two_words (parts ns ds fs) ws ks ks' k) (r : ℕ) (er : r ≡ check_number k) where
  pub reread_refused : r ≢ 0 → (fs₁ : List Frame) (ws₁ : List ℕ) (r₁ : ℕ) → (r₁ ≡ 6) × (fs₁ ≡ records_zero fs) × (ws₁ ≡ nodes_zero two_words ws) → IsRechecked (parts ns ds fs) ws ks fs₁ ws₁ ks' r₁
  reread_refused n fs₁ ws₁ r₁ e =
      let u = answer_unsound (numbers_in ns) (totals_in ns) ds fs ws ks k ek.1 room (λ q. n (er ∙ q)) in
      record { sound = λ t. absurd (true≢false (sym t ∙ u)); unsound = λ f. e; work = ek.0 }

  pub reread_sound : r ≡ 0 → IsRechecked (parts ns ds fs) ws ks fs ws ks' 0
  reread_sound z =
      let u = answer-sound (numbers_in ns) (totals_in ns) ds fs ws ks k ek.1 (sym er ∙ z) in
      record { sound = λ t. (refl, refl, refl); unsound = λ f. absurd (true≢false (sym u ∙ f)); work = ek.0 }

-- ---- a reading

-- refused: numbers and deques may be anything
is_loading : (o : LoadResult) (ns ds : List ℕ) (fs : List Frame) (ws ks : List ℕ) (r : ℕ) → record { state = zeros fs; pool = ws; work = ks; result = r } ≡ o → r ≢ 0 → IsLoading o ns ds fs ws ks r
is_loading o ns ds fs ws ks r e n = record {
  result = ap (λ (p : LoadResult). p.result) e;
  state = λ z. absurd (n z);
  table = ap (λ (p : LoadResult). p.state.frames) e;
  pool = ap (λ (p : LoadResult). p.pool) e;
  work = ap (λ (p : LoadResult). p.work) e;
}

module _ (ns ds : List ℕ) (fs : List Frame) (ws ks image : List ℕ) where
  by_image : {j : ImageCheck} → image_check two_words image ≡ j → (o : LoadResult) → o ≡ load_checked two_words j fs ws ks image → o ≡ load_with two_words fs ws ks image
  unfolding load_with
  by_image e o q = q ∙ ap (λ (i : ImageCheck). load_checked two_words i fs ws ks image) (sym e)

  module _ (j : ImageCheck) (ej : j ≡ image_check two_words image) (r : ℕ) (er : r ≡ image_number j) where
    refuses : (i : ImageCheck) → j ≡ i → r ≢ 0 → IsLoading (load_with two_words fs ws ks image) ns ds fs ws ks r
    refuses (Err WrongLength) e n = is_loading (load_with two_words fs ws ks image) ns ds fs ws ks r (by_image (sym ej ∙ e) _ (rw (er, e))) n
    refuses (Err WrongCheck) e n = is_loading (load_with two_words fs ws ks image) ns ds fs ws ks r (by_image (sym ej ∙ e) _ (rw (er, e))) n
    refuses (Ok _) e n = absurd (n (er ∙ ap image_number e))

    pub image_refused : r ≢ 0 → IsLoading (load_with two_words fs ws ks image) ns ds fs ws ks r
    image_refused n = refuses j refl n

    accepts : (i : ImageCheck) → j ≡ i → r ≡ 0 → image_check two_words image ≡ (Ok tt)
    accepts (Err WrongLength) e z = absurd (omega (arith, er, z, ap image_number e))
    accepts (Err WrongCheck) e z = absurd (omega (arith, er, z, ap image_number e))
    accepts (Ok _) e z = sym ej ∙ e

    pub image_good : r ≡ 0 → image_check two_words image ≡ (Ok tt)
    image_good z = accepts j refl z

  module _ (good : image_check two_words image ≡ (Ok tt)) (N : ℕ) (e_n : N ≡ nodes_in image) (t : ℕ) (et : t ≡ cond (ltb (length ks) N) (refusal_number Work) 0) where
    pub load_short : t ≢ 0 → IsLoading (load_with two_words fs ws ks image) ns ds fs ws ks t
    load_short n =
        let short : ltb (length ks) (nodes_in image) ≡ true = ap (ltb (length ks)) (sym e_n) ∙ met (ltb (length ks) N) 5 t et n in
        is_loading (load_with two_words fs ws ks image) ns ds fs ws ks t (by_image good _ (rw (et, e_n, short))) n

    module _ (z : t ≡ 0) where
      roomy : ltb (length ks) (nodes_in image) ≡ false
      roomy = ap (ltb (length ks)) (sym e_n) ∙ unmet (ltb (length ks) N) 4 t et z

      pub read_on_lem : (ns₁ ds₁ : List ℕ) (fs₁ : List Frame) (ws₁ ks₁ : List ℕ) (r : ℕ) → IsLoading (load_read two_words fs ws (cleared (nodes_in image) ks) image) ns₁ ds₁ fs₁ ws₁ ks₁ r → IsLoading (load_with two_words fs ws ks image) ns₁ ds₁ fs₁ ws₁ ks₁ r
      read_on_lem ns₁ ds₁ fs₁ ws₁ ks₁ r I =
          let e = by_image good (load_read two_words fs ws (cleared (nodes_in image) ks) image) (sym (ap (λ (b : Bool). cond b (load_refused fs ws ks Work) (load_read two_words fs ws (cleared (nodes_in image) ks) image)) roomy)) in
          subst (λ (o : LoadResult). IsLoading o ns₁ ds₁ fs₁ ws₁ ks₁ r) e I

  -- an image that 17, 18 and 5 do not refuse
  module _ (good : image_check two_words image ≡ (Ok tt)) (room : nodes_in image ≤ length ks) where
    not_read : eqb (length fs) (places_in image) && is_sound two_words (state_in two_words image) (pool_with two_words ws image) ≡ false → (ns₁ ds₁ : List ℕ) (fs₁ : List Frame) (ws₁ ks₁ : List ℕ) (r : ℕ)
        → (r ≡ 6) × (fs₁ ≡ records_zero fs) × (ws₁ ≡ nodes_zero two_words ws) → ks₁ ≡ cleared (nodes_in image) ks → IsLoading (load_read two_words fs ws (cleared (nodes_in image) ks) image) ns₁ ds₁ fs₁ ws₁ ks₁ r
    not_read u ns₁ ds₁ fs₁ ws₁ ks₁ r e ek = is_loading (load_read two_words fs ws (cleared (nodes_in image) ks) image) ns₁ ds₁ fs₁ ws₁ ks₁ r (rw (u, e.0, e.1, e.2, ek)) (λ q. omega (arith, q, e.0))

    module _ (b : Bool) (eb : b ≡ eqb (length fs) (places_in image) && (leb (length fs) max_places && leb (2 * nodes_in image) (length ws))) where
      -- only what the table and the pool take is sound
      takes : eqb (length fs) (places_in image) && is_sound two_words (state_in two_words image) (pool_with two_words ws image) ≡ true → b ≡ true
      takes q =
          let h = both (eqb (length fs) (places_in image)) (is_sound two_words (state_in two_words image) (pool_with two_words ws image)) q in
          let F = sound_numbers two_words (state_in two_words image) (pool_with two_words ws image) h.1 in
          let few : leb (length fs) max_places ≡ true = le-leb (length fs) max_places (omega (arith, eqb-true (length fs) (places_in image) h.0, F.places_le, same_places two_words two_version image good)) in
          let nodes : leb (2 * nodes_in image) (length ws) ≡ true = elim (decided (leb (2 * nodes_in image) (length ws))) [
            | inl l ↦ l
            | inr l ↦ (
                let pool : pool_with two_words ws image ≡ ws = ap (λ (c : Bool). cond c (stored (pool_in two_words image) ws) ws) l in
                absurd (omega (arith, leb-false (2 * nodes_in image) (length ws) l, F.room, ap length pool, same_nodes two_words two_version image good)))
          ] in
          eb ∙ rw (h.0, few, nodes)

      pub load_other : b ≡ false → (fs₁ : List Frame) (ws₁ ks₁ : List ℕ) (r : ℕ) → (r ≡ 6) × (fs₁ ≡ records_zero fs) × (ws₁ ≡ nodes_zero two_words ws) → (N : ℕ) → N ≡ nodes_in image → ks₁ ≡ cleared N ks
          → IsLoading (load_read two_words fs ws (cleared (nodes_in image) ks) image) ns ds fs₁ ws₁ ks₁ r
      load_other f fs₁ ws₁ ks₁ r e N e_n ek =
          not_read (elim (decided (eqb (length fs) (places_in image) && is_sound two_words (state_in two_words image) (pool_with two_words ws image))) [ inl q ↦ absurd (true≢false (sym (takes q) ∙ f)) | inr q ↦ q ])
          ns ds fs₁ ws₁ ks₁ r e (ek ∙ ap (λ (m : ℕ). cleared m ks) e_n)

      module _ (y : b ≡ true) where
        same-table : length fs ≡ places_in image
        same-table = eqb-true (length fs) (places_in image) (both (eqb (length fs) (places_in image)) (leb (length fs) max_places && leb (2 * nodes_in image) (length ws)) (sym eb ∙ y)).0

        in_bounds_lem : (length fs ≤ max_places) × (2 * nodes_in image ≤ length ws)
        in_bounds_lem =
            let h = both (leb (length fs) max_places) (leb (2 * nodes_in image) (length ws)) (both (eqb (length fs) (places_in image)) (leb (length fs) max_places && leb (2 * nodes_in image) (length ws)) (sym eb ∙ y)).1 in
            (leb-true (length fs) max_places h.0, leb-true (2 * nodes_in image) (length ws) h.1)

        pub load_asks : Fits (parts ns ds fs) → (image_check two_words image ≡ (Ok tt)) × (length ns ≡ number_count) × Lengths (number_words_in two_words image) ds fs × (2 * nodes_in image ≤ length ws)
        load_asks F =
            let L = parts_lengths two_words two_version image good (omega (arith, same-table, in_bounds_lem.0)) in
            (good, F.numbers, record { numbers = L.numbers; deques = F.deques; frames = same-table ∙ sym (same_places two_words two_version image good); most = in_bounds_lem.0 }, in_bounds_lem.1)

        -- what was read, and the check of it
        module _ (ns₁ ds₁ : List ℕ) (fs₁ : List Frame) (ws₁ : List ℕ) (is : IsRead two_words image ns₁ ds₁ fs₁ ws ws₁) where
          -- the parts that were read have their lengths
          pub read_fits : Fits (parts ns₁ ds₁ fs₁)
          read_fits = let L = parts_lengths two_words two_version image good (omega (arith, same-table, in_bounds_lem.0)) in record { numbers = ap length is.numbers ∙ L.numbers; deques = ap length is.deques ∙ L.deques }

          pool_is : ws₁ ≡ pool_with two_words ws image
          pool_is = is.pool ∙ sym (ap (λ (c : Bool). cond c (stored (pool_in two_words image) ws) ws) (le-leb (2 * nodes_in image) (length ws) in_bounds_lem.1))

          nodes_are : (numbers_in ns₁).nodes ≡ nodes_in image
          nodes_are = ap (λ (ms : List ℕ). (numbers_in ms).nodes) is.numbers ∙ same_nodes two_words two_version image good

          sound_is : sound two_words (numbers_in ns₁) (totals_in ns₁) ds₁ fs₁ ws₁ ≡ is_sound two_words (state_in two_words image) (pool_with two_words ws image)
          sound_is = λ i. sound two_words (numbers_in (is.numbers i)) (totals_in (is.numbers i)) (is.deques i) (is.frames i) (pool_is i)

          -- nothing past the nodes has changed
          same_end : nodes_zero two_words ws₁ ≡ nodes_zero two_words ws
          same_end =
              let M = 2 * nodes_in image in
              let W = 2 * whole_nodes two_words ws in
              let front : length (pool_in two_words image) ≡ M = pool_length two_words two_version image good in
              let size : length ws₁ ≡ length ws = ap length is.pool ∙ omega (arith, length-append (pool_in two_words image) (drop (length (pool_in two_words image)) ws), length-drop (length (pool_in two_words image)) ws, front, in_bounds_lem.1) in
              let past : drop M ws₁ ≡ drop M ws = ap (drop M) is.pool ∙ drop_at (pool_in two_words image) (drop (length (pool_in two_words image)) ws) M front ∙ ap (λ (m : ℕ). drop m ws) front in
              let whole : M + (W - M) ≡ W = omega (arith, in_bounds_lem.1) in
              let far : drop W ws₁ ≡ drop W ws = ap (λ (m : ℕ). drop m ws₁) (sym whole) ∙ sym (drop-drop (W - M) M ws₁) ∙ ap (drop (W - M)) past ∙ drop-drop (W - M) M ws ∙ ap (λ (m : ℕ). drop m ws) whole in
              let sized : nodes_zero two_words ws₁ ≡ replicate W 0 ++ drop W ws₁ = ap (λ (m : ℕ). replicate (2 * (m / 2)) 0 ++ drop (2 * (m / 2)) ws₁) size in
              sized ∙ ap (λ (l : List ℕ). replicate W 0 ++ l) far

          pub read_room : (numbers_in ns₁).nodes ≤ length ks
          read_room = omega (arith, nodes_are, room)

          module _ (fs₂ : List Frame) (ws₂ ks₁ : List ℕ) (r : ℕ) (C : IsRechecked (parts ns₁ ds₁ fs₁) ws₁ ks fs₂ ws₂ ks₁ r) where
            work_is : ks₁ ≡ cleared (nodes_in image) ks
            work_is = C.work ∙ ap (λ (m : ℕ). cleared m ks) nodes_are

            load_unsound : sound two_words (numbers_in ns₁) (totals_in ns₁) ds₁ fs₁ ws₁ ≡ false → length fs₁ ≡ length fs → IsLoading (load_read two_words fs ws (cleared (nodes_in image) ks) image) ns₁ ds₁ fs₂ ws₂ ks₁ r
            load_unsound u size =
                let e = C.unsound u in
                not_read (and-false (eqb (length fs) (places_in image)) (sym sound_is ∙ u)) ns₁ ds₁ fs₂ ws₂ ks₁ r (e.0, e.1 ∙ ap (λ (m : ℕ). replicate m (free_record 0)) size, e.2 ∙ same_end) work_is

            load_sound : sound two_words (numbers_in ns₁) (totals_in ns₁) ds₁ fs₁ ws₁ ≡ true → IsLoading (load_read two_words fs ws (cleared (nodes_in image) ks) image) ns₁ ds₁ fs₂ ws₂ ks₁ r
            load_sound u =
                let h = C.sound u in
                let o : LoadResult = record { state = state_in two_words image; pool = pool_with two_words ws image; work = cleared (nodes_in image) ks; result = 0 } in
                let e : o ≡ load_read two_words fs ws (cleared (nodes_in image) ks) image = rw (eq-eqb (length fs) (places_in image) same-table, sym sound_is ∙ u) in
                record {
                  result = h.0 ∙ ap (λ (p : LoadResult). p.result) e;
                  state = λ z. (λ i. parts (is.numbers i) (is.deques i) ((h.1 ∙ is.frames) i)) ∙ ap (λ (p : LoadResult). p.state) e;
                  table = h.1 ∙ is.frames ∙ ap (λ (p : LoadResult). p.state.frames) e;
                  pool = h.2 ∙ pool_is ∙ ap (λ (p : LoadResult). p.pool) e;
                  work = work_is ∙ ap (λ (p : LoadResult). p.work) e;
                }

            pub load_read_lem : length fs₁ ≡ length fs → IsLoading (load_read two_words fs ws (cleared (nodes_in image) ks) image) ns₁ ds₁ fs₂ ws₂ ks₁ r
            load_read_lem size = elim (decided (sound two_words (numbers_in ns₁) (totals_in ns₁) ds₁ fs₁ ws₁)) [ inl u ↦ load_sound u | inr u ↦ load_unsound u size ]

-- ---- a refused reading hands out zeros

zeros_handed : (fs : List Frame) (ws ks image : List ℕ) → (load_with two_words fs ws ks image).result ≢ 0 → zeros (load_with two_words fs ws ks image).state.frames ≡ (load_with two_words fs ws ks image).state
unfolding load_with
zeros_handed fs ws ks image = go (image_check two_words image) refl
  where
    go : (j : ImageCheck) → image_check two_words image ≡ j → (load_with two_words fs ws ks image).result ≢ 0 → zeros (load_with two_words fs ws ks image).state.frames ≡ (load_with two_words fs ws ks image).state
    go (Err WrongLength) e n = rw e refl
    go (Err WrongCheck) e n = rw e refl
    go (Ok _) e n = elim (decided (ltb (length ks) (nodes_in image))) [
      | inl t ↦ rw (e, t) refl
      | inr t ↦ elim (decided (eqb (length fs) (places_in image) && is_sound two_words (state_in two_words image) (pool_with two_words ws image))) [ inl q ↦ absurd (rw (e, t, q) at n refl) | inr q ↦ rw (e, t, q) refl ]
    ]

module _ (fs : List Frame) (ws ks image ns ds : List ℕ) (fs₁ : List Frame) (ws₁ ks₁ : List ℕ) (r : ℕ) (I : IsLoading (load_with two_words fs ws ks image) ns ds fs₁ ws₁ ks₁ r) where
  -- numbers and deques are cleared, and the table stays
  pub load_zeros : r ≢ 0 → (ns₂ ds₂ : List ℕ) (fs₂ : List Frame) → parts ns₂ ds₂ fs₂ ≡ zeros fs₁ → IsLoad (load_with two_words fs ws ks image) ns₂ ds₂ fs₂ ws₁ ks₁ r
  load_zeros n ns₂ ds₂ fs₂ z =
      let t : zeros fs₁ ≡ zeros (load_with two_words fs ws ks image).state.frames = ap zeros I.table in
      record { result = I.result; state = z ∙ t ∙ zeros_handed fs ws ks image (λ q. n (I.result ∙ q)); pool = I.pool; work = I.work }

-- what is asked of the table, of another that is the same
pub same_takes : (fs fs' : List Frame) (ws image : List ℕ) (b : Bool) → fs ≡ fs' → b ≡ eqb (length fs) (places_in image) && (leb (length fs) max_places && leb (2 * nodes_in image) (length ws))
    → b ≡ eqb (length fs') (places_in image) && (leb (length fs') max_places && leb (2 * nodes_in image) (length ws))
same_takes fs fs' ws image b e eb = rw (sym e) eb
