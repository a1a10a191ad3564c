-- The check's ways out, over plain variables, in a layout L: calls check nodes of two words, the change-over nodes of four.
use Rattle.std.specs.Prelude.{Option, Some, None, Err, Ok, ok_or}
use mathlib.Core.Path.{◌≡◌, refl, sym, ap, subst, ◌∙◌}
use mathlib.Core.Bool.{Bool, true, false, cond, ◌&&◌, ◌||◌}
use mathlib.Core.List.{List}
use Prim.Native.Nat.{ℕ, suc, ◌*◌, ◌≤◌, ◌<◌}
use native.Mathlib.Omega.{arith}
use lib.Dec.{eqb, leb}
use lib.ListN.{length, get_or}
use borrow.Author.Tests.{le-leb, lt-leb, leb-true, eqb-true}
use Rattle.soundness.specs.Soundness.{Checked}
use Rattle.soundness.specs.declared.CheckError.{CheckError}
use Rattle.soundness.specs.declared.CheckError.TheVariants.{NoRoom}
use Rattle.words.specs.Basics.{all}
use Rattle.words.specs.Tests.{both, true≢false}
use Rattle.sizes.specs.Sizes.{tree_nodes}
use Rattle.frames.specs.Widths.{max_workers, max_places}
use Rattle.frames.specs.declared.Frame.{Frame}
use Rattle.soundness.specs.declared.Numbers.{Numbers}
use Rattle.soundness.specs.Numbers.{total_count, numbers_in, totals_in}
use Rattle.soundness.specs.Soundness.{numbers_sound, totals_right, frames_sound, live_roots, sound, count_of_free, checked, cleared}
use Rattle.soundness.specs.Layout.{Layout, pool_sound}
use Rattle.frame_check.specs.Algorithm.{live_end}
use Rattle.frame_check.specs.Theory.Ends.{end_le, end_dead, end_none}
use Rattle.pool_check.specs.Algorithm.{DeadFrom}
use Rattle.semantics.specs.Entries.{checked_state}
use Rattle.semantics.specs.Promises.{parts}
use Rattle.semantics.proofs.Theory.WorkSlice.{checked_room}

-- of the four parts of soundness the first and the third fail, or the second
unsound_tables : (a b c d : Bool) → a && c ≡ false → a && (b && (c && d)) ≡ false
unsound_tables true true true d e = absurd (true≢false e)
unsound_tables true true false d e = refl
unsound_tables true false c d e = refl
unsound_tables false b c d e = refl

unsound_totals : (a b c : Bool) → b ≡ false → a && (b && c) ≡ false
unsound_totals true b c e = rw e
unsound_totals false b c e = refl

-- ---- an answer: a number, or none

-- which tells them apart
abbrev told : Option ℕ → ℕ
told None = 0
told (Some k) = suc k

is_bad : (b : Bool) (m : ℕ) → None ≡ cond b (Some m) None → b ≡ false
is_bad true m e = let z : 0 ≡ suc m = ap told e in absurd (omega arith)
is_bad false m e = refl

refusal_for : (b : Bool) (m : ℕ) (e : CheckError) → ok_or (cond b (Some m) None) e ≡ cond b (Ok m) (Err e)
refusal_for true m e = refl
refusal_for false m e = refl

is_good : (b : Bool) (m k : ℕ) → Some k ≡ cond b (Some m) None → (b ≡ true) × (k ≡ m)
is_good true m k e = let z : suc k ≡ suc m = ap told e in (refl, omega arith)
is_good false m k e = let z : suc k ≡ 0 = ap told e in absurd (omega arith)

-- ---- the numbers: what their tests say of the sizes

-- of the ten tests of the numbers the fourth, the sixth, the seventh and the last two
in_bounds_lem : (a b c d e f g h i j : Bool) → a && (b && (c && (d && (e && (f && (g && (h && (i && j)))))))) ≡ true
    → (d ≡ true) × (f ≡ true) × (g ≡ true) × (i ≡ true) × (j ≡ true)
in_bounds_lem true true true true true true true true true true t = (refl, refl, refl, refl, refl)
in_bounds_lem true true true true true true true true true false t = absurd (true≢false (sym t))
in_bounds_lem true true true true true true true true false j t = absurd (true≢false (sym t))
in_bounds_lem true true true true true true true false i j t = absurd (true≢false (sym t))
in_bounds_lem true true true true true true false h i j t = absurd (true≢false (sym t))
in_bounds_lem true true true true true false g h i j t = absurd (true≢false (sym t))
in_bounds_lem true true true true false f g h i j t = absurd (true≢false (sym t))
in_bounds_lem true true true false e f g h i j t = absurd (true≢false (sym t))
in_bounds_lem true true false d e f g h i j t = absurd (true≢false (sym t))
in_bounds_lem true false c d e f g h i j t = absurd (true≢false (sym t))
in_bounds_lem false b c d e f g h i j t = absurd (true≢false (sym t))

module _ (L : Layout) where
  pub bounded : (s : Numbers) (fs : List Frame) (ws : List ℕ) → numbers_sound L s fs ws ≡ true
      → (leb s.splitters 256 ≡ true) × (leb s.nodes 16384 ≡ true) × (leb (L.words * s.nodes) (length ws) ≡ true) × (length fs ≤ max_places)
  unfolding numbers_sound
  bounded s fs ws t =
      let i = in_bounds_lem (leb 1 s.workers) (leb s.workers max_workers) (leb 1 s.splitters) (leb s.splitters 256) (leb (tree_nodes s.splitters) s.nodes) (leb s.nodes 16384)
      (leb (L.words * s.nodes) (length ws)) (leb 1 s.places) (leb s.places max_places) (eqb (length fs) s.places) t in
      (i.0, i.1, i.2, omega (arith, leb-true s.places max_places i.3, eqb-true (length fs) s.places i.4))

  -- ---- the tables

  module _ (s : Numbers) (ds : List ℕ) (fs : List Frame) (ws : List ℕ) where
    abbrev tables : Bool
    tables = numbers_sound L s fs ws && frames_sound s.workers s.free_place ds fs

    module _ (b : Bool) (eb : (gs : List Frame) → length gs ≡ length fs → b ≡ numbers_sound L s gs ws) where
      pub few_places : b ≡ true → length fs ≤ max_places
      few_places t = (bounded s fs ws (sym (eb fs refl) ∙ t)).3

  -- ---- the check of the parts ns, ds, fs, the pool ws and the work slice ks, whose numbers are s

  module _ (ns ds : List ℕ) (fs : List Frame) (ws ks : List ℕ) (s : Numbers) (es : s ≡ numbers_in ns) where
    abbrev ts : List ℕ
    ts = totals_in ns

    -- the work slice ks' and the answer k
    abbrev pub Answered : List ℕ → Checked → Type 0
    Answered ks' k = (ks' ≡ cleared (numbers_in ns).nodes ks) × (k ≡ checked_state L (parts ns ds fs) ws ks)

    by_parts : (ks' : List ℕ) (k : Checked) → ks' ≡ cleared s.nodes ks → k ≡ checked L s ts ds fs ws ks → Answered ks' k
    by_parts ks' k e₁ e₂ = (e₁ ∙ ap (λ (m : Numbers). cleared m.nodes ks) es, e₂ ∙ ap (λ (m : Numbers). checked L m ts ds fs ws ks) es)

    pub no_room : length ks < s.nodes → Answered ks (Err NoRoom)
    unfolding checked cleared
    no_room l = by_parts ks (Err NoRoom) (rw (lt-leb s.nodes (length ks) l)) (rw (lt-leb s.nodes (length ks) l))

    module _ (room : s.nodes ≤ length ks) where
      -- by whether state and pool are sound
      judged : (ks' : List ℕ) (b : Bool) → sound L s ts ds fs ws ≡ b → ks' ≡ cleared s.nodes ks → Answered ks' (cond b (Ok (count_of_free L s ws)) (Err CheckError.Unsound))
      judged ks' b e ek =
          by_parts ks' _ ek (sym (checked_room L s ts ds fs ws ks (le-leb s.nodes (length ks) room) ∙ ap (λ t. cond t (Ok (count_of_free L s ws)) (Err CheckError.Unsound)) e))

      -- what the check of the tables answered
      module _ (b : Option ℕ) (eb : b ≡ cond (tables s ds fs ws) (Some (live_end fs)) None) where
        pub tables_unsound : b ≡ None → (ks' : List ℕ) → ks' ≡ cleared s.nodes ks → Answered ks' (Err CheckError.Unsound)
        unfolding sound
        tables_unsound f ks' ek =
            judged ks' false (unsound_tables (numbers_sound L s fs ws) (totals_right ts fs) (frames_sound s.workers s.free_place ds fs) _ (is_bad (tables s ds fs ws) (live_end fs) (sym f ∙ eb))) ek

        module _ (end : ℕ) (t : b ≡ Some end) where
          found : (tables s ds fs ws ≡ true) × (end ≡ live_end fs)
          found = is_good (tables s ds fs ws) (live_end fs) end (sym t ∙ eb)

          sound_tables : (numbers_sound L s fs ws ≡ true) × (frames_sound s.workers s.free_place ds fs ≡ true)
          sound_tables = both (numbers_sound L s fs ws) (frames_sound s.workers s.free_place ds fs) found.0

          -- what the check of the pool asks
          pub pool_asks : (length fs ≤ max_places) × DeadFrom fs end
          pool_asks = ((bounded s fs ws sound_tables.0).3, subst (DeadFrom fs) (sym found.1) (end_le fs (length fs), end_dead fs (length fs)))

          module _ (z : Bool) (ez : z ≡ (eqb end 0 || all total_count (λ i. eqb (get_or (totals_in ns) i 0) 0))) where
            totals_are : z ≡ totals_right ts fs
            unfolding totals_right
            totals_are = ez ∙ ap (λ (a : Bool). a || all total_count (λ i. eqb (get_or (totals_in ns) i 0) 0)) (ap (λ (k : ℕ). eqb k 0) found.1 ∙ end_none fs)

            pub totals_unsound : z ≡ false → (ks' : List ℕ) → ks' ≡ cleared s.nodes ks → Answered ks' (Err CheckError.Unsound)
            unfolding sound
            totals_unsound f ks' ek = judged ks' false (unsound_totals (numbers_sound L s fs ws) (totals_right ts fs) _ (sym totals_are ∙ f)) ek

            -- the check of the pool, whose tests of the bounds are true here, answered a
            module _ (right : z ≡ true) (a : Option ℕ) (ks' : List ℕ) (ek : ks' ≡ cleared s.nodes ks) where
              abbrev trees : Bool
              trees = pool_sound L s.splitters s.nodes ws s.free_node (live_roots fs)

              abbrev bounds : Bool
              bounds = leb s.splitters 256 && (leb s.nodes 16384 && (leb (L.words * s.nodes) (length ws) && leb s.nodes (length ks)))

              sound_is : sound L s ts ds fs ws ≡ trees
              unfolding sound
              sound_is = rw (sound_tables.0, sym totals_are ∙ right, sound_tables.1)

              module _ (ea : a ≡ cond (bounds && trees) (Some (count_of_free L s ws)) None) where
                answer_is : a ≡ cond trees (Some (count_of_free L s ws)) None
                answer_is = let i = bounded s fs ws sound_tables.0 in ea ∙ rw (i.0, i.1, i.2, le-leb s.nodes (length ks) room)

                -- the refusal takes the place of none
                pub judged_pool : (j : Checked) → j ≡ ok_or a CheckError.Unsound → Answered ks' j
                judged_pool j e =
                    subst (Answered ks') (sym (e ∙ ap (λ o. ok_or o CheckError.Unsound) answer_is ∙ refusal_for trees (count_of_free L s ws) CheckError.Unsound)) (judged ks' trees sound_is ek)
