-- The definitions of specs/Algorithm.antt as the code runs them.
use Rattle.std.specs.Prelude.{None, Some, Option, not, take}
use Rattle.std.specs.Bool.{then_some}
use Rattle.std.proofs.lemmas.List.{get_or-take, length-take}
use mathlib.Core.Path.{◌≡◌, refl, sym, ap, ◌∙◌}
use mathlib.Core.Logic.{inl, inr}
use mathlib.Core.Bool.{Bool, true, false, cond, ◌&&◌, and-false}
use mathlib.Core.List.{List}
use Prim.Native.Nat.{ℕ, zero, suc, ◌+◌, ◌-◌, ◌*◌, ◌%◌, ◌^◌, ◌≤◌, ◌<◌, min}
use native.Mathlib.Nat.{add-zero, add-suc}
use native.Mathlib.Numerals.{add-one}
use native.Mathlib.Omega.{arith}
use borrow.Author.Tests.{eq-eqb, ne_eqb, eqb-true, lt-ltb, le-ltb, leb-true}
use lib.Dec.{eqb, leb, ltb}
use lib.ListN.{length, get_or}
use Rattle.words.specs.Basics.{none, all}
use Rattle.words.specs.Tallies.{same_tests}
use Rattle.sizes.specs.Sizes.{height}
use Rattle.sizes.specs.Heights.{height_le}
use Rattle.words.specs.Tests.{decided, both, true≢false}
use Rattle.pool.specs.Pool.{left, right, value}
use Rattle.frames.specs.declared.Frame.{Frame}
use Rattle.frames.specs.Frames.{frame_at, free_record}
use Rattle.frames.specs.Widths.{max_places}
use Rattle.soundness.specs.Soundness.{lives, cleared}
use Rattle.pool_check.specs.Theory.Ways.{on_left, visit_off, visit_again, visit_shapeless, visit-below, below_leaf, below_left, below_end, below_right, place_free_lem, settle_off, settle_on, run_out, run_off, run_on_lem}
use Rattle.pool_check.specs.Theory.Kept.{run_work}
use Rattle.pool_check.specs.Reading.{Reading}
use Rattle.pool_check.specs.FourWords.{shaped}
use Rattle.pool_check.specs.Answer.{in_bounds, pool_checked}
use denote.Enum.Bare.{sameb}
use Rattle.pool_check.specs.contracts.trees.Arrival.{the_type}
use Rattle.pool_check.specs.declared.trees.Arrival.{Arrival}
use Rattle.pool_check.specs.declared.trees.Arrival.TheVariants.{Refused, Done, First}
use Rattle.pool_check.specs.Algorithm.{fresh, stamp, and_then, root_visited, stamped, linked, visit, below, onward, Met, Roomy, visit_place, visit_places, DeadFrom, node_right, unvisited, chain_from, settle, run_check, Answers}

-- the two parts of an equation of pairs, and back
pub parts : {A : Type 0} {p q : List ℕ × A} → p ≡ q → (p.0 ≡ q.0) × (p.1 ≡ q.1)
parts e = (ap (λ p. p.0) e, ap (λ p. p.1) e)

pub pair : {A : Type 0} (p : List ℕ × A) {a : List ℕ} {b : A} → (a ≡ p.0) × (b ≡ p.1) → p ≡ (a, b)
pair p e = rw (e.0, e.1)

-- what comes of a link

refused_first : Refused ≡ First → ⊥
refused_first e = let z : ◌≡◌ {A = ℕ} 0 1 = cc in omega arith

done_first : Done ≡ First → ⊥
done_first e = let z : ◌≡◌ {A = ℕ} 0 1 = cc in omega arith

-- by the code's tests of it
pub goes_on : (r : Arrival) → not (sameb the_type r First) ≡ false → r ≡ First
goes_on Refused t = absurd (true≢false t)
goes_on Done t = absurd (true≢false t)
goes_on First t = refl

pub answered : (r : Arrival) (w : List ℕ) (f : List ℕ → List ℕ × Bool) {b : Bool} → not (sameb the_type r First) ≡ true → b ≡ sameb the_type r Done → onward r w f ≡ (w, b)
answered Refused w f t e = ap (λ q. (w, q)) (sym e)
answered Done w f t e = ap (λ q. (w, q)) (sym e)
answered First w f t e = absurd (true≢false (sym t))

-- the frame at place p, which is one of the first `end`
pub frame_in : (fs : List Frame) (end p : ℕ) → p < length (take end fs) → get_or (take end fs) p (free_record 0) ≡ frame_at fs p
unfolding frame_at
frame_in fs end p b = get_or-take end fs p (free_record 0) (omega (arith, length-take end fs))

then_cond : (b : Bool) (m : ℕ) → then_some b m ≡ cond b (Some m) None
then_cond true m = refl
then_cond false m = refl

-- ---- the layout's own

pub shaped-inner : (ws : List ℕ) (l i : ℕ) → (l ≡ 0 → ⊥) → shaped ws l i ≡ eqb (value ws i) 0
shaped-inner ws zero i h = absurd (h refl)
shaped-inner ws (suc l) i h = refl

pub shaped_leaf : (ws : List ℕ) (l i : ℕ) → l ≡ 0 → shaped ws l i ≡ eqb (left ws i) none && eqb (right ws i) none
shaped_leaf ws zero i h = refl
shaped_leaf ws (suc l) i h = absurd (omega arith)

-- a node was not visited if its word is 0
pub fresh_test : (w : List ℕ) (i : ℕ) → eqb (get_or w i 0) 0 ≡ eqb (fresh w i) 1
fresh_test w i = same_tests _ _ (λ e. eq-eqb _ _ (omega (arith, eqb-true (get_or w i 0) 0 e))) (λ e. eq-eqb _ _ (omega (arith, eqb-true (fresh w i) 1 e)))

-- the walk has come down to node i', and has the same to do as at the start
pub record Down (R : Reading) (N : ℕ) (ws : List ℕ) (level k i : ℕ) (w : List ℕ) (level' k' i' : ℕ) (w' : List ℕ) : Type 0 where
  pub same : below R N ws level' k' i' w' ≡ below R N ws level k i w
  pub size : length w' ≡ length w
  pub node : i' < N
  pub some : 0 < level'
  pub most : level' ≤ level
  pub part : k' ≤ 256

module _ (R : Reading) where
  -- ---- a node met, by the ways out

  module _ (N : ℕ) (ws : List ℕ) (l k i : ℕ) (w : List ℕ) where
    pub met_off : N ≤ i → Met R N ws l k i w w Refused
    met_off h = record { is = visit_off R N ws k i w l h; first = λ e. absurd (refused_first e) }

    module _ (b : i < N) where
      pub met_same : (get_or w i 0 ≡ 0 → ⊥) → get_or w i 0 % 8192 ≡ stamp l k → Met R N ws l k i w (linked w i) Done
      met_same u e = record { is = visit_again R N ws k i w b l u ∙ ap (λ q. (linked w i, q)) (eq-eqb _ _ e); first = λ z. absurd (done_first z) }

      pub met_other : (get_or w i 0 ≡ 0 → ⊥) → (get_or w i 0 % 8192 ≡ stamp l k → ⊥) → Met R N ws l k i w (linked w i) Refused
      met_other u e = record { is = visit_again R N ws k i w b l u ∙ ap (λ q. (linked w i, q)) (ne_eqb _ _ e); first = λ z. absurd (refused_first z) }

      module _ (u : get_or w i 0 ≡ 0) where
        pub met_shapeless : R.shaped ws l i ≡ false → Met R N ws l k i w (stamped w i (stamp l k)) Refused
        met_shapeless s = record { is = visit_shapeless R N ws k i w b u l s; first = λ z. absurd (refused_first z) }

        pub met_leaf : R.shaped ws l i ≡ true → l ≡ 0 → Met R N ws l k i w (stamped w i (stamp l k)) Done
        met_leaf s e = record { is = visit-below R N ws k i w b u l s ∙ below_leaf R N ws l k i (stamped w i (stamp l k)) e; first = λ z. absurd (done_first z) }

        pub met_first : R.shaped ws l i ≡ true → (l ≡ 0 → ⊥) → Met R N ws l k i w (stamped w i (stamp l k)) First
        met_first s e = record { is = visit-below R N ws k i w b u l s; first = λ z. (b, omega arith) }

  -- ---- what comes of it

  module _ (N : ℕ) (ws : List ℕ) (l k i : ℕ) (w w' : List ℕ) (r : Arrival) (m : Met R N ws l k i w w' r) where
    pub met_no : r ≡ Refused → visit R N ws l k i w ≡ (w', false)
    met_no e = m.is ∙ ap (λ q. onward q w' (below R N ws l k i)) e

    pub met_yes : r ≡ Done → visit R N ws l k i w ≡ (w', true)
    met_yes e = m.is ∙ ap (λ q. onward q w' (below R N ws l k i)) e

    pub met_below : r ≡ First → visit R N ws l k i w ≡ below R N ws l k i w'
    met_below e = m.is ∙ ap (λ q. onward q w' (below R N ws l k i)) e

  -- ---- below a node of a level that is not 0: the left child, of which w₂ is left, and the right one

  module _ (N : ℕ) (ws : List ℕ) (level k i : ℕ) (w : List ℕ) (pos : 0 < level) {part a : ℕ} (ek : part ≡ min k (2 ^ (level - 1))) (ea : a ≡ R.left ws i) where
    from_level : below R N ws (suc (level - 1)) k i w ≡ below R N ws level k i w
    from_level = let e : suc (level - 1) ≡ level = omega arith in ap (λ q. below R N ws q k i w) e

    left_is : on_left R N ws (level - 1) k i w ≡ visit R N ws (level - 1) part a w
    left_is = rw (ek, ea)

    failing : (w₂ : List ℕ) → visit R N ws (level - 1) part a w ≡ (w₂, false) → (w₂, false) ≡ below R N ws level k i w
    failing w₂ v =
        let e : on_left R N ws (level - 1) k i w ≡ (w₂, false) = left_is ∙ v in
        ap (λ p. (p.0, false)) (sym e) ∙ sym (below_left R N ws (level - 1) k i w (ap (λ p. p.1) e)) ∙ from_level

    module _ {w₂ : List ℕ} {fine : Bool} (v : visit R N ws (level - 1) part a w ≡ (w₂, fine)) where
      pub walk_fails : fine ≡ false → (w₂, false) ≡ below R N ws level k i w
      walk_fails t = failing w₂ (v ∙ ap (λ q. (w₂, q)) t)

      module _ (t : fine ≡ true) {j : ℕ} (ej : j ≡ R.right ws i) where
        on_left_lem : on_left R N ws (level - 1) k i w ≡ (w₂, true)
        on_left_lem = left_is ∙ v ∙ ap (λ q. (w₂, q)) t

        -- what the left child leaves of the splitters
        rest : k - part ≡ k - 2 ^ (level - 1)
        rest = omega arith

        pub walk_ends : k - part ≡ 0 → (w₂, eqb j R.none) ≡ below R N ws level k i w
        walk_ends z =
            rw (← ap (λ p. p.0) on_left_lem, ej) (sym (below_end R N ws (level - 1) k i w (ap (λ p. p.1) on_left_lem) (sym rest ∙ z)) ∙ from_level)

        module _ (z : k - part ≡ 0 → ⊥) where
          pub walk-right : visit R N ws (level - 1) (k - part) j w₂ ≡ below R N ws level k i w
          walk-right =
              rw (← ap (λ p. p.0) on_left_lem, ej, rest) (sym (below_right R N ws (level - 1) k i w (ap (λ p. p.1) on_left_lem) (λ q. z (rest ∙ q))) ∙ from_level)

  -- ---- visit_places: the places below p

  module _ (n h N : ℕ) (fs : List Frame) (ws w₀ : List ℕ) where
    -- the trees of the places below p are visited, which gives w and sound
    abbrev pub visited_to : ℕ → List ℕ × Bool
    visited_to p = visit_places R n h N fs ws p w₀

    pub visited_begins : visited_to 0 ≡ (w₀, true)
    unfolding visit_places
    visited_begins = refl

    -- one place more: its tree is visited, if its frame lives
    pub visited_live : (p : ℕ) {w w' : List ℕ} {sound : Bool} {f : Frame} → visited_to p ≡ (w, true) → f ≡ frame_at fs p → f.live ≡ 1 → visit R N ws h n f.root w ≡ (w', sound) → visited_to (p + 1) ≡ (w', sound)
    unfolding visit_places visit_place
    visited_live p {w} {w'} {sound} {f} i d live is =
        rw add-one (ap (λ q. and_then q (visit_place R n h N fs ws p)) i ∙ ap (λ (g : Frame). root_visited R n h N ws g w) (sym d) ∙ rw (eq-eqb f.live 1 live, root_visited) is)

    pub visited_dead : (p : ℕ) {w : List ℕ} {f : Frame} → visited_to p ≡ (w, true) → f ≡ frame_at fs p → (f.live ≡ 1 → ⊥) → visited_to (p + 1) ≡ (w, true)
    unfolding visit_places visit_place
    visited_dead p {w} {f} i d dead =
        rw add-one (ap (λ q. and_then q (visit_place R n h N fs ws p)) i ∙ ap (λ (g : Frame). root_visited R n h N ws g w) (sym d) ∙ rw (ne_eqb f.live 1 dead, root_visited) refl)

    -- what is no tree stays none
    visited_off : (d p : ℕ) {w : List ℕ} → visited_to p ≡ (w, false) → visited_to (p + d) ≡ (w, false)
    unfolding visit_places
    visited_off zero p e = rw add-zero e
    visited_off (suc d) p e = rw add-suc (ap (λ q. and_then q (visit_place R n h N fs ws (p + d))) (visited_off d p e))

    pub visited_fails : {p : ℕ} {w : List ℕ} → h ≡ height n → visited_to p ≡ (w, false) → p ≤ length fs
        → (w ≡ (visit_places R n (height n) N fs ws (length fs) w₀).0) × (false ≡ (visit_places R n (height n) N fs ws (length fs) w₀).1)
    visited_fails {p} {w} k e b =
        let l : p + (length fs - p) ≡ length fs = omega arith in
        rw (← k) (parts (sym (visited_off (length fs - p) p e) ∙ ap (λ q. visited_to q) l))

    -- from `end` on no frame lives
    dead_places : (d end : ℕ) → ((p : ℕ) → end ≤ p → p < end + d → lives fs p ≡ false) → visited_to (end + d) ≡ visited_to end
    unfolding visit_places
    dead_places zero end dead = rw add-zero refl
    dead_places (suc d) end dead = rw add-suc (ap (λ q. and_then q (visit_place R n h N fs ws (end + d))) (dead_places d end (λ p a b. dead p a (omega arith))) ∙ idle (visited_to end))
      where
        idle : (q : List ℕ × Bool) → and_then q (visit_place R n h N fs ws (end + d)) ≡ q
        idle (w, true) = place_free_lem R n h N fs ws (end + d) w (dead (end + d) (omega arith) (omega arith))
        idle (w, false) = refl

    pub visited_ends : {p end : ℕ} {w : List ℕ} {sound : Bool} → h ≡ height n → DeadFrom fs end → visited_to p ≡ (w, sound) → p ≤ end → end ≤ p
        → (w ≡ (visit_places R n (height n) N fs ws (length fs) w₀).0) × (sound ≡ (visit_places R n (height n) N fs ws (length fs) w₀).1)
    visited_ends {p} {end} {w} {sound} k dead i x y = rw (← k) (parts all_visited)
      where
        all_visited : (w, sound) ≡ visited_to (length fs)
        all_visited =
            let e : end ≡ p = omega arith in
            let b = dead.0 in
            let l : end + (length fs - end) ≡ length fs = omega arith in
            sym i ∙ ap (λ q. visited_to q) (sym e) ∙ sym (dead_places (length fs - end) end (λ q u v. dead.1 q u (omega arith))) ∙ ap (λ q. visited_to q) l

  -- ---- the nodes

  -- ---- the free chain

  module _ (N : ℕ) (ws w : List ℕ) where
    pub chain_off : (c a : ℕ) → 0 < c → N ≤ a → chain_from R N ws w c a ≡ false
    unfolding chain_from
    chain_off zero a b h = absurd (omega arith)
    chain_off (suc c) a b h = rw (le-ltb a N h)

    pub chain_full : (c a : ℕ) → 0 < c → R.vacant ws w a ≡ false → chain_from R N ws w c a ≡ false
    unfolding chain_from
    chain_full zero a b h = absurd (omega arith)
    chain_full (suc c) a b h = rw h (and-false (ltb a N))

    pub chain_next : (c d a : ℕ) → d ≡ suc c → a < N → R.vacant ws w a ≡ true → chain_from R N ws w c (R.next_free ws a) ≡ chain_from R N ws w d a
    unfolding chain_from
    chain_next c d a e i h = rw (e, lt-ltb a N i, h) refl

    pub chain_end : (c a : ℕ) → c ≤ 0 → eqb a none ≡ chain_from R N ws w c a
    unfolding chain_from
    chain_end zero a b = refl
    chain_end (suc c) a b = absurd (omega arith)

  -- ---- the whole

  -- what the scan answered
  module _ (N : ℕ) (ws : List ℕ) (first : ℕ) (w : List ℕ) (r : Option ℕ) (e : r ≡ cond (all N (node_right R ws w)) (Some (unvisited N w)) None) where
    pub settle_wrong : r ≡ None → None ≡ settle R N ws first w
    settle_wrong b = elim (decided (all N (node_right R ws w))) [
      | inl h ↦ (let g : r ≡ Some (unvisited N w) = rw h at e in let z : ◌≡◌ {A = ℕ} 0 1 = cc in absurd (omega arith))
      | inr h ↦ sym (settle_off R N ws first w h)
    ]

    pub settle-right : (free : ℕ) → r ≡ Some free → then_some (chain_from R N ws w free first) free ≡ settle R N ws first w
    settle-right free g = elim (decided (all N (node_right R ws w))) [
      | inl h ↦ (let g' : r ≡ Some (unvisited N w) = rw h at e in let z : free ≡ unvisited N w = cc in rw z (then_cond _ _ ∙ sym (settle_on R N ws first w h)))
      | inr h ↦ (let b : r ≡ None = rw h at e in let z : ◌≡◌ {A = ℕ} 0 1 = cc in absurd (omega arith))
    ]

  -- ---- check_pool; w is the lent work slice

  module _ (answers : Answers R) (n N first : ℕ) (fs : List Frame) (ws w : List ℕ) (table : length fs ≤ max_places) {w₁ : List ℕ} (clears : w₁ ≡ cleared N w) where
    whole : {w' : List ℕ} {r : Option ℕ} {p : List ℕ × Option ℕ} → p ≡ run_check R n N first fs ws w₁ → w' ≡ cleared N p.0 → r ≡ p.1 → (w' ≡ cleared N w) × (r ≡ pool_checked R.layout n N first fs ws w)
    whole {p = p} e c r =
        let d : p ≡ run_check R n N first fs ws (cleared N w) = e ∙ ap (run_check R n N first fs ws) clears in
        (c ∙ ap (λ q. cleared N q.0) d ∙ run_work R n N first fs ws w, r ∙ ap (λ q. q.1) d ∙ answers n N first fs ws w table)

    module _ {b : Bool} (is : b ≡ in_bounds R.layout n N ws w₁) where
      -- out of bounds: nothing more is done
      pub check_out : b ≡ false → (w₁ ≡ cleared N w) × (None ≡ pool_checked R.layout n N first fs ws w)
      check_out t =
          (clears, (whole (sym (run_out R n N first fs ws w₁ (sym is ∙ t))) refl refl).1)

      -- room for the visits
      pub check_roomy : b ≡ true → Roomy R N ws w₁ (height n) n
      check_roomy t =
          let p = both (leb n 256) _ (sym is ∙ t) in
          let q = both (leb N 16384) _ p.1 in
          let s = both (leb (R.layout.words * N) (length ws)) _ q.1 in
          let small : n ≤ 256 = leb-true n 256 p.0 in
          record { pool = leb-true (R.layout.words * N) (length ws) s.0; work = leb-true N (length w₁) s.1; level = height_le n 8 (omega arith); part = small }

      -- the trees are visited, which gives w₂, and the rest is done
      pub check_in : b ≡ true → {w₂ w₃ : List ℕ} {visited : Bool} {r : Option ℕ}
          → (w₂ ≡ (visit_places R n (height n) N fs ws (length fs) w₁).0) × (visited ≡ (visit_places R n (height n) N fs ws (length fs) w₁).1)
          → (w₃ ≡ cleared N w₂) × (r ≡ cond visited (settle R N ws first w₂) None) → (w₃ ≡ cleared N w) × (r ≡ pool_checked R.layout n N first fs ws w)
      check_in t {w₂} {w₃} {visited} {r} v e = elim (decided visited) [
        | inl d ↦ whole (sym (run_on_lem R n N first fs ws w₁ (sym is ∙ t) (sym v.1 ∙ d))) (e.0 ∙ ap (cleared N) v.0) (e.1 ∙ rw (d, v.0))
        | inr d ↦ whole (sym (run_off R n N first fs ws w₁ (sym is ∙ t) (sym v.1 ∙ d))) (e.0 ∙ ap (cleared N) v.0) (e.1 ∙ rw d)
      ]
