-- R-9: a change-over that is made again. From four nodes on the pool that was changed over is not sound with old nodes, so the call is refused; with fewer nodes it
-- is refused too, or all nodes are free and packing them again changes nothing. As old nodes the back half of the new pool are free nodes, all with node 0 next.
use Rattle.std.specs.Prelude.{◌≡◌, ◌≢◌, true, false, length, get_or, drop, replicate}
use Rattle.std.proofs.Math.Path.{refl, sym, ap₂}
use Rattle.std.proofs.Common.{ap, ◌∙◌, subst, inl, inr, arith, get_or-take, get_or-drop, le-ltb}
use mathlib.Core.List.{List, [], ◌∷◌, ◌++◌}
use Prim.Native.Nat.{ℕ, zero, suc, ◌+◌, ◌-◌, ◌*◌, ◌≤◌, ◌<◌}
use Rattle.std.proofs.Math.Decide.{ℕ_discrete, dec_lt}
use Rattle.std.proofs.lemmas.List.{get_or-replicate}
use Rattle.words.specs.Basics.{none, Chain, δ, count}
use Rattle.words.specs.Chains.{chain_next}
use Rattle.words.specs.Counting.{δ_same, δ_other, δ₀_zero, δ₀_inv, count_nil, count_cons}
use Rattle.words.specs.Tests.{decided}
use Rattle.sizes.specs.Sizes.{height}
use Rattle.pool.specs.Pool.{refcount, left, right, value}
use Rattle.pool.specs.Theory.Invariant.{Links, links-left, links_leaf, used_right}
use Rattle.pool.specs.Theory.Soundness.{link_level, link_size}
use Rattle.packed.specs.Pool as Two
use Rattle.packed.specs.Pack.{packed_content, packed_from, converted}
use Rattle.packed.proofs.Theory.Pack.{content_free, converted-refcount, converted-content, converted_remaining, converted_beyond}
use Rattle.soundness.specs.Layout.{four_words}
use Rattle.soundness.specs.Trees.{free_nodes}
use Rattle.semantics.specs.Entries.{State, numbers_of, is_sound}
use Rattle.semantics.specs.Convert.{ConvertResult, convert_on}
use Rattle.semantics.specs.ConvertDemands.{SameTwice, RefusedTwice}
use Rattle.semantics.proofs.Theory.Images.{sound_numbers}
use Rattle.semantics.proofs.Theory.Converts.{ConvertTaken, convert_taken, refused_convert, convert_checks}
use Rattle.semantics.proofs.Theory.Fitting.{fits_true}
use Rattle.semantics.proofs.Theory.Matching.{live₄}

-- ---- no two elements of a chain have the same next one

module _ (next : ℕ → ℕ) (N : ℕ) (small : N ≤ none) where
  -- chains from the same beginning are as long
  chain_long : (a : ℕ) (xs ys : List ℕ) → Chain next N a xs → Chain next N a ys → length xs ≡ length ys
  chain_long a [] [] c d = refl
  chain_long a [] (y ∷ ys) c d = absurd (omega (arith, c, d.0, d.1))
  chain_long a (x ∷ xs) [] c d = absurd (omega (arith, c.0, c.1, d))
  chain_long a (x ∷ xs) (y ∷ ys) c d = ap suc (chain_long (next x) xs ys c.2 (subst (λ (q : ℕ). Chain next N (next q) ys) (sym d.0 ∙ c.0) d.2))

  -- what follows an element
  chain_rest : (a x : ℕ) (xs : List ℕ) → 0 < count x xs → Chain next N a xs → (ys : List ℕ) × Chain next N (next x) ys × (length ys < length xs)
  chain_rest a x [] p c = absurd (omega (arith, count_nil x))
  chain_rest a x (y ∷ xs) p c = elim (ℕ_discrete x y) [
    | yes e ↦ (xs, subst (λ (q : ℕ). Chain next N (next q) xs) (sym e) c.2, omega arith)
    | no e ↦ (let r = chain_rest (next y) x xs (omega (arith, count_cons x y xs, δ_other x y e)) c.2 in (r.0, r.1, omega (arith, r.2)))
  ]

  -- no element of the chain after x has the same next one as x
  not_again : (x j : ℕ) (xs : List ℕ) → Chain next N (next x) xs → 0 < count j xs → next j ≡ next x → ⊥
  not_again x j xs c q e =
      let r = chain_rest (next x) j xs q c in
      omega (arith, r.2, chain_long (next x) r.0 xs (subst (λ (q : ℕ). Chain next N q r.0) e r.1) c)

  chain_inj : (a i j : ℕ) (xs : List ℕ) → Chain next N a xs → 0 < count i xs → 0 < count j xs → next i ≡ next j → i ≡ j
  chain_inj a i j [] c p q e = absurd (omega (arith, count_nil i))
  chain_inj a i j (x ∷ xs) c p q e = elim (ℕ_discrete i x) [
    | yes ei ↦ elim (ℕ_discrete j x) [
      | yes ej ↦ ei ∙ sym ej
      | no ej ↦ absurd (not_again x j xs c.2 (omega (arith, count_cons j x xs, δ_other j x ej)) (sym e ∙ ap next ei))
    ]
    | no ei ↦ elim (ℕ_discrete j x) [
      | yes ej ↦ absurd (not_again x i xs c.2 (omega (arith, count_cons i x xs, δ_other i x ei)) (e ∙ ap next ej))
      | no ej ↦ chain_inj (next x) i j xs c.2 (omega (arith, count_cons i x xs, δ_other i x ei)) (omega (arith, count_cons j x xs, δ_other j x ej)) e
    ]
  ]

  -- none is its own next one, nor the next one's next one
  no_loop : (a x : ℕ) (xs : List ℕ) → Chain next N a xs → 0 < count x xs → x < N → next x ≡ x → ⊥
  no_loop a x xs c p b e =
      let r = chain_rest a x xs p c in
      let s = chain_long x (x ∷ r.0) r.0 (refl, b, r.1) (subst (λ (q : ℕ). Chain next N q r.0) e r.1) in
      omega (arith, s)

  no_pair : (a x : ℕ) (xs : List ℕ) → Chain next N a xs → 0 < count x xs → x < N → next x < N → next (next x) ≡ x → ⊥
  no_pair a x xs c p b d e = (let r = chain_rest a x xs p c in after r.0 r.1)
    where
      after : (ys : List ℕ) → Chain next N (next x) ys → ⊥
      after [] t = omega (arith, t, d)
      after (z ∷ zs) t =
          let s = chain_long x (x ∷ z ∷ zs) zs (refl, b, t) (subst (λ (q : ℕ). Chain next N q zs) (ap next (sym t.0) ∙ e) t.2) in
          omega (arith, s)

  -- what follows an element, if something does, is one
  has_next : (a x : ℕ) (xs : List ℕ) → Chain next N a xs → 0 < count x xs → next x ≢ none → 0 < count (next x) xs
  has_next a x [] c p o = absurd (omega (arith, count_nil x))
  has_next a x (y ∷ xs) c p o = elim (ℕ_discrete x y) [
    | yes e ↦ subst (λ (q : ℕ). 0 < count (next q) (y ∷ xs)) (sym e) (first xs c.2 (λ t. o (ap next e ∙ t)))
    | no e ↦ omega (arith, count_cons (next x) y xs, has_next (next y) x xs c.2 (omega (arith, count_cons x y xs, δ_other x y e)) o)
  ]
    where
      first : (ys : List ℕ) → Chain next N (next y) ys → next y ≢ none → 0 < count (next y) (y ∷ ys)
      first [] t n = absurd (n t)
      first (z ∷ zs) t n = omega (arith, count_cons (next y) y (z ∷ zs), count_cons (next y) z zs, ap (δ (next y)) (sym t.0), δ_same (next y))

-- ---- the words

module _ (N : ℕ) (ws : List ℕ) where
  remaining_zero : (k : ℕ) → 2 * N ≤ k → k < 4 * N → get_or (converted N ws) k 0 ≡ 0
  remaining_zero k a b =
      let m = k - 2 * N in
      let e : k ≡ 2 * N + m = omega arith in
      ap (λ u. get_or (converted N ws) u 0) e ∙ sym (get_or-drop (2 * N) (converted N ws) m 0) ∙ sym (get_or-take (2 * N) (drop (2 * N) (converted N ws)) m 0 (omega arith))
      ∙ ap (λ (l : List ℕ). get_or l m 0) (converted_remaining N ws) ∙ get_or-replicate (2 * N) m 0 0 (omega arith)

  -- as old nodes those of the back half are free, and the next one is node 0
  back_node : (i : ℕ) → N ≤ 2 * i → i < N → (refcount (converted N ws) i ≡ 0) × (left (converted N ws) i ≡ 0)
  unfolding refcount left
  back_node i a b = (remaining_zero (4 * i) (omega arith) (omega arith), remaining_zero (4 * i + 1) (omega arith) (omega arith))

  first_word : (i : ℕ) → i < N → get_or (converted N ws) (2 * i) 0 ≡ refcount ws i
  unfolding Two.refcount
  first_word i b = converted-refcount N ws i b

  second_word : (i : ℕ) → i < N → get_or (converted N ws) (2 * i + 1) 0 ≡ packed_content ws i
  unfolding Two.content
  second_word i b = converted-content N ws i b

  -- node i is packed to the same words again
  abbrev Same : ℕ → Type 0
  Same i = (refcount (converted N ws) i ≡ refcount ws i) × (packed_content (converted N ws) i ≡ packed_content ws i)

  same_from : (c i : ℕ) → ((j : ℕ) → i ≤ j → j < i + c → Same j) → packed_from c (converted N ws) i ≡ packed_from c ws i
  unfolding packed_from
  same_from zero i h = refl
  same_from (suc c) i h =
      let s = h i (omega arith) (omega arith) in
      ap₂ (λ (a : ℕ) (r : List ℕ). a ∷ r) s.0 (ap₂ (λ (a : ℕ) (r : List ℕ). a ∷ r) s.1 (same_from c (suc i) (λ j a b. h j (omega arith) (omega arith))))

  converted_again : ((i : ℕ) → i < N → Same i) → converted N (converted N ws) ≡ converted N ws
  unfolding converted
  converted_again h = ap₂ (λ (a b : List ℕ). a ++ (replicate (2 * N) 0 ++ b)) (same_from N 0 (λ j a b. h j (omega arith))) (converted_beyond N ws)

-- ---- soundness, with old nodes, before and after

module _ (s : State) (ws : List ℕ) where
  abbrev N : ℕ
  N = (numbers_of s).nodes

  abbrev new : List ℕ
  new = converted (numbers_of s).nodes ws

  abbrev first : ℕ
  first = (numbers_of s).free_node

  -- a node without holders stands on the free chain; and back
  free_on_lem : (ps : List ℕ) (e : is_sound four_words s ps ≡ true) (i : ℕ) → i < N → refcount ps i ≡ 0 → 0 < count i (free_nodes N ps first)
  free_on_lem ps e i b z = omega (arith, (live₄ s ps e).inv.listed i b, δ₀_zero (refcount ps i) z)

  on_free : (ps : List ℕ) (e : is_sound four_words s ps ≡ true) (i : ℕ) → i < N → 0 < count i (free_nodes N ps first) → refcount ps i ≡ 0
  on_free ps e i b p = δ₀_inv (refcount ps i) (omega (arith, (live₄ s ps e).inv.listed i b))

  module _ (few : N ≤ none) (e : is_sound four_words s new ≡ true) where
    chain : Chain (left new) N first (free_nodes N new first)
    chain = (live₄ s new e).inv.chain

    back_on : (i : ℕ) → N ≤ 2 * i → i < N → 0 < count i (free_nodes N new first)
    back_on i a b = free_on_lem new e i b (back_node N ws i a b).0

    -- from four nodes on there are two nodes in the back half
    at_most_three : N ≤ 3
    at_most_three = elim (dec_lt N 4) [
      | yes b ↦ omega arith
      | no b ↦ absurd (
          let i = N - 1 in
          let j = N - 2 in
          let same = chain_inj (left new) N few first i j (free_nodes N new first) chain (back_on i (omega arith) (omega arith)) (back_on j (omega arith) (omega arith))
          ((back_node N ws i (omega arith) (omega arith)).1 ∙ sym (back_node N ws j (omega arith) (omega arith)).1) in
          omega (arith, same))
    ]

    -- with more than one node, node 0 is free: it follows the last one
    first_free_lem : 2 ≤ N → refcount new 0 ≡ 0
    first_free_lem two =
        let i = N - 1 in
        let z = (back_node N ws i (omega arith) (omega arith)).1 in
        on_free new e 0 (omega arith) (subst (λ (q : ℕ). 0 < count q (free_nodes N new first)) z
        (has_next (left new) N few first i (free_nodes N new first) chain (back_on i (omega arith) (omega arith)) (λ t. omega (arith, t, z))))

    -- a node in use whose right link is node 0 is no leaf
    inner-left : (level size : ℕ → ℕ) (l k a b : ℕ) → b ≡ 0 → Links N level size l k a b → (m : ℕ) × (l ≡ suc m) × (a < N) × (level a ≡ m)
    inner-left level size zero k a b z K = absurd (omega (arith, z, (links_leaf N level size k a b K).1))
    inner-left level size (suc m) k a b z K = (let w = links-left N level size m k a b K in (m, refl, w.0, w.1))

    one_free : N ≡ 1 → refcount new 0 ≡ 0
    one_free one = elim (ℕ_discrete (refcount new 0) 0) [
      | yes z ↦ z
      | no z ↦ absurd (
          let level = link_level (height (numbers_of s).splitters) new in
          let size = link_size (height (numbers_of s).splitters) new in
          let w = inner-left level size (level 0) (size 0) (left new 0) (right new 0) right_zero ((live₄ s new e).inv.shape 0 (omega arith) (omega arith)) in
          let own : left new 0 ≡ 0 = omega (arith, w.2) in
          omega (arith, w.1, w.3, ap level own))
    ]
      where
        right_zero : right new 0 ≡ 0
        right_zero = unfold right in remaining_zero N ws 2 (omega arith) (omega arith)

    zero_free : 1 ≤ N → refcount new 0 ≡ 0
    zero_free b = elim (dec_lt 1 N) [ yes two ↦ first_free_lem two | no one ↦ one_free (omega arith) ]

    zero_same : 1 ≤ N → Same N ws 0
    unfolding refcount left
    zero_same b = (first_word N ws 0 b, content_free new 0 (zero_free b) ∙ second_word N ws 0 b)

    one_same : N ≡ 2 → Same N ws 1
    unfolding refcount left right value
    one_same two =
        let z = back_node N ws 1 (omega arith) (omega arith) in
        let c = (live₄ s new e).inv.cleared 0 (omega arith) (first_free_lem (omega arith)) in
        (z.0 ∙ sym c.0 ∙ first_word N ws 1 (omega arith), content_free new 1 z.0 ∙ z.1 ∙ sym c.1 ∙ second_word N ws 1 (omega arith))

    -- three nodes: none of the ways in which the free chain could go is one in both pools
    module _ (e₀ : is_sound four_words s ws ≡ true) (three : N ≡ 3) where
      f₀ : refcount new 0 ≡ 0
      f₀ = first_free_lem (omega arith)

      f₂ : (refcount new 2 ≡ 0) × (left new 2 ≡ 0)
      f₂ = back_node N ws 2 (omega arith) (omega arith)

      f₁ : refcount new 1 ≡ 0
      f₁ = elim (ℕ_discrete (refcount new 1) 0) [
        | yes z ↦ z
        | no z ↦ absurd (omega (arith, f₀, used_right (live₄ s new e).inv 1 0 (omega arith) (omega arith) (omega arith) (omega arith) right_zero))
      ]
        where
          right_zero : right new 1 ≡ 0
          right_zero = unfold right in remaining_zero N ws 6 (omega arith) (omega arith)

      cleared_0 : (right new 0 ≡ 0) × (value new 0 ≡ 0)
      cleared_0 = (live₄ s new e).inv.cleared 0 (omega arith) f₀

      -- the old pool: all nodes are free, and where its chain goes
      g₀ : (refcount ws 0 ≡ 0) × (left ws 0 ≡ left new 0)
      unfolding refcount left
      g₀ = (let z = sym (first_word N ws 0 (omega arith)) ∙ f₀ in (z, sym (content_free ws 0 z) ∙ sym (second_word N ws 0 (omega arith))))

      g₁ : (refcount ws 1 ≡ 0) × (left ws 1 ≡ 0)
      unfolding refcount left right value
      g₁ = (let z = sym (first_word N ws 1 (omega arith)) ∙ cleared_0.0 in (z, sym (content_free ws 1 z) ∙ sym (second_word N ws 1 (omega arith)) ∙ cleared_0.1))

      g₂ : (refcount ws 2 ≡ 0) × (left ws 2 ≡ left new 1)
      unfolding refcount left
      g₂ = (let z = sym (first_word N ws 2 (omega arith)) ∙ f₁ in (z, sym (content_free ws 2 z) ∙ sym (second_word N ws 2 (omega arith))))

      old_chain : Chain (left ws) N first (free_nodes N ws first)
      old_chain = (live₄ s ws e₀).inv.chain

      on_new : (i : ℕ) → i < N → refcount new i ≡ 0 → 0 < count i (free_nodes N new first)
      on_new = free_on_lem new e

      on_old : (i : ℕ) → i < N → refcount ws i ≡ 0 → 0 < count i (free_nodes N ws first)
      on_old = free_on_lem ws e₀

      one_not_zero : left new 1 ≡ 0 → ⊥
      one_not_zero x = omega (arith, chain_inj (left new) N few first 1 2 (free_nodes N new first) chain (on_new 1 (omega arith) f₁) (on_new 2 (omega arith) f₂.0) (x ∙ sym f₂.1))

      one_not_one : left new 1 ≡ 1 → ⊥
      one_not_one x = no_loop (left new) N few first 1 (free_nodes N new first) chain (on_new 1 (omega arith) f₁) (omega arith) x

      one_not_two : left new 1 ≡ 2 → ⊥
      one_not_two x = no_loop (left ws) N few first 2 (free_nodes N ws first) old_chain (on_old 2 (omega arith) g₂.0) (omega arith) (g₂.1 ∙ x)

      one_last : left new 1 ≡ none
      one_last = elim (chain_next N (left new) first 1 (free_nodes N new first) (on_new 1 (omega arith) f₁) chain) [
        | inr x ↦ x
        | inl b ↦ absurd (elim (ℕ_discrete (left new 1) 0) [
          | yes x ↦ one_not_zero x
          | no x ↦ elim (ℕ_discrete (left new 1) 1) [ yes y ↦ one_not_one y | no y ↦ one_not_two (omega arith) ]
        ])
      ]

      zero_not_zero : left new 0 ≡ 0 → ⊥
      zero_not_zero y = no_loop (left new) N few first 0 (free_nodes N new first) chain (on_new 0 (omega arith) f₀) (omega arith) y

      zero_not_one : left new 0 ≡ 1 → ⊥
      zero_not_one y =
          let to : left ws 0 ≡ 1 = g₀.1 ∙ y in
          no_pair (left ws) N few first 0 (free_nodes N ws first) old_chain (on_old 0 (omega arith) g₀.0) (omega arith) (omega (arith, to)) (ap (left ws) to ∙ g₁.1)

      zero_not_two : left new 0 ≡ 2 → ⊥
      zero_not_two y = no_pair (left new) N few first 2 (free_nodes N new first) chain (on_new 2 (omega arith) f₂.0) (omega arith) (omega (arith, f₂.1)) (ap (left new) f₂.1 ∙ y)

      not_three : ⊥
      not_three = elim (chain_next N (left new) first 0 (free_nodes N new first) (on_new 0 (omega arith) f₀) chain) [
        | inr y ↦ omega (arith, chain_inj (left new) N few first 0 1 (free_nodes N new first) chain (on_new 0 (omega arith) f₀) (on_new 1 (omega arith) f₁) (y ∙ sym one_last))
        | inl b ↦ elim (ℕ_discrete (left new 0) 0) [
          | yes y ↦ zero_not_zero y
          | no y ↦ elim (ℕ_discrete (left new 0) 1) [ yes z ↦ zero_not_one z | no z ↦ zero_not_two (omega arith) ]
        ]
      ]

    -- so where the new pool is sound with old nodes, packing it again changes nothing
    same_again : is_sound four_words s ws ≡ true → converted N new ≡ new
    same_again e₀ = converted_again N ws at
      where
        at : (i : ℕ) → i < N → Same N ws i
        at zero b = zero_same b
        at (suc i) b = elim (ℕ_discrete N 3) [
          | yes three ↦ absurd (not_three e₀ three)
          | no o ↦ (let j : suc i ≡ 1 = omega (arith, at_most_three) in subst (Same N ws) (sym j) (one_same (omega (arith, at_most_three))))
        ]

-- ---- the call made again

module _ (s : State) (ws work work' : List ℕ) (e : (convert_on s ws work).result ≡ 0) where
  taken : ConvertTaken s ws work
  taken = convert_taken s ws work e

  new_is : (convert_on s ws work).pool ≡ converted (numbers_of s).nodes ws
  new_is = ap (λ (o : ConvertResult). o.pool) taken.is

  few_nodes : (numbers_of s).nodes ≤ none
  few_nodes = omega (arith, (sound_numbers four_words s ws taken.still).nodes_le)

  -- it is refused, or leaves the pool as it is
  again : (convert_on s (converted (numbers_of s).nodes ws) work').pool ≡ converted (numbers_of s).nodes ws
  again = elim (ℕ_discrete (convert_on s (converted (numbers_of s).nodes ws) work').result 0) [
    | yes z ↦ (
        let T = convert_taken s (converted (numbers_of s).nodes ws) work' z in
        ap (λ (o : ConvertResult). o.pool) T.is ∙ same_again s ws few_nodes T.still taken.still)
    | no z ↦ refused_convert s (converted (numbers_of s).nodes ws) work' (omega arith)
  ]

  pub convert_twice : SameTwice s ws work work'
  convert_twice = subst (λ (p : List ℕ). (convert_on s p work').pool ≡ p) (sym new_is) again

  pub refused_twice : RefusedTwice s ws work work'
  refused_twice four room =
      let q : is_sound four_words s (converted (numbers_of s).nodes ws) ≡ false = elim (decided (is_sound four_words s (converted (numbers_of s).nodes ws))) [ inl t ↦ absurd (omega (arith, at_most_three s ws few_nodes t)) | inr t ↦ t ] in
      ap (λ (p : List ℕ). (convert_on s p work').result) new_is ∙ convert_checks s (converted (numbers_of s).nodes ws) work'
      ∙ rw (fits_true s taken.parts, le-ltb (length work') (numbers_of s).nodes room, q) refl
