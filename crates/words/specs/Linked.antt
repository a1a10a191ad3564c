-- Lists whose elements are linked, each to the next: from an element on, with one more at the end, with one taken out; and a number added up
-- along such a list in words.
use Rattle.std.specs.Prelude.{◌≡◌, ℕ, zero, suc, ◌+◌, ◌-◌, ◌*◌, ◌^◌, ◌<◌, ◌≤◌, Bool, true, false, cond, ◌≢◌, List, [], ◌∷◌, ◌++◌, length, ◌==◌, nat_lt, refl}
use Rattle.std.proofs.Common.{sym, ap, ap₂, ◌∙◌, subst, inl, inr, arith, eq-eqb, ne_eqb}
use Rattle.std.proofs.Math.Decide.{ℕ_discrete}
use Rattle.words.specs.Basics.{none, Chain, count, follow, below}
use Rattle.words.specs.Tests.{both, lt_of, ltb_of}
use Rattle.words.specs.Loops.{follow-none, follow-step}
use Rattle.words.specs.Counting.{δ_same, δ_other, count_nil, count_cons, count-append}
use Rattle.words.specs.Chains.{chain_start}
use Rattle.words.specs.Tallies.{and_of, total}

-- ---- one taken out

-- the list without p
unfoldable pub without : ℕ → List ℕ → List ℕ
without p [] = []
without p (x ∷ xs) = let r = without p xs in let r' = x ∷ r in cond (x == p) r r'

pub without_nil : (p : ℕ) → without p [] ≡ []
unfolding without
without_nil p = refl

pub without-same : (p : ℕ) (xs : List ℕ) → without p (p ∷ xs) ≡ without p xs
unfolding without
without-same p xs = rw (eq-eqb p p refl)

pub without_other : (p x : ℕ) (xs : List ℕ) → x ≢ p → without p (x ∷ xs) ≡ x ∷ without p xs
unfolding without
without_other p x xs d = rw (ne_eqb x p d)

pub count-without-same : (p : ℕ) (xs : List ℕ) → count p (without p xs) ≡ 0
count-without-same p [] = ap (count p) (without_nil p) ∙ count_nil p
count-without-same p (x ∷ xs) = elim (ℕ_discrete x p) [
  | yes e ↦ rw e (ap (count p) (without-same p xs) ∙ count-without-same p xs)
  | no e ↦ omega (arith, ap (count p) (without_other p x xs e), count_cons p x (without p xs), δ_other p x (λ d. e (sym d)), count-without-same p xs)
]

pub count-without_other : (c p : ℕ) (xs : List ℕ) → c ≢ p → count c (without p xs) ≡ count c xs
count-without_other c p [] d = ap (count c) (without_nil p)
count-without_other c p (x ∷ xs) d = elim (ℕ_discrete x p) [
  | yes e ↦ rw e (omega (arith, ap (count c) (without-same p xs), count_cons c p xs, δ_other c p d, count-without_other c p xs d))
  | no e ↦ omega (arith, ap (count c) (without_other p x xs e), count_cons c x (without p xs), count_cons c x xs, count-without_other c p xs d)
]

-- p is not there
pub without_out : (p : ℕ) (xs : List ℕ) → count p xs ≡ 0 → without p xs ≡ xs
without_out p [] e = without_nil p
without_out p (x ∷ xs) e = elim (ℕ_discrete x p) [
  | yes d ↦ absurd (omega (arith, count_cons p x xs, ap (λ y. count p (y ∷ [])) d, count_cons p x [], count_cons p p [], δ_same p))
  | no d ↦ without_other p x xs d ∙ ap (λ (ys : List ℕ). x ∷ ys) (without_out p xs (omega (arith, count_cons p x xs)))
]

-- p stands between the two parts
pub without_between : (p : ℕ) (xs ys : List ℕ) → count p xs ≡ 0 → count p ys ≡ 0 → without p (xs ++ (p ∷ ys)) ≡ xs ++ ys
without_between p [] ys e f = without-same p ys ∙ without_out p ys f
without_between p (x ∷ xs) ys e f = elim (ℕ_discrete x p) [
  | yes d ↦ absurd (omega (arith, count_cons p x xs, ap (λ y. count p (y ∷ [])) d, count_cons p x [], count_cons p p [], δ_same p))
  | no d ↦ without_other p x (xs ++ (p ∷ ys)) d ∙ ap (λ (zs : List ℕ). x ∷ zs) (without_between p xs ys (omega (arith, count_cons p x xs)) f)
]

-- an element parts its list
pub parted : (c : ℕ) (cs : List ℕ) → 0 < count c cs → (xs : List ℕ) × (ys : List ℕ) × (cs ≡ xs ++ (c ∷ ys))
parted c [] h = absurd (omega (arith, count_nil c))
parted c (x ∷ cs) h = elim (ℕ_discrete c x) [
  | yes e ↦ ([], cs, ap (λ (y : ℕ). y ∷ cs) (sym e))
  | no e ↦ (let r = parted c cs (omega (arith, count_cons c x cs, δ_other c x e)) in (x ∷ r.0, r.1, ap (λ (zs : List ℕ). x ∷ zs) r.2))
]

-- ---- one more at the end

pub count_end_same : (g : ℕ) (xs : List ℕ) → count g xs ≡ 0 → count g (xs ++ (g ∷ [])) ≡ 1
count_end_same g xs e = omega (arith, count-append g xs (g ∷ []), count_cons g g [], δ_same g, count_nil g)

pub count_end_other : (c g : ℕ) (xs : List ℕ) → c ≢ g → count c (xs ++ (g ∷ [])) ≡ count c xs
count_end_other c g xs d = omega (arith, count-append c xs (g ∷ []), count_cons c g [], δ_other c g d, count_nil c)

-- ---- chains

-- the place of each element less the place of the next, none being -1: added up along the chain, the place of the first is left
abbrev pub ahead : (ℕ → ℕ) → ℕ → ℕ
ahead next x = x + (2 ^ 32 - next x)

-- either way
alike : (b : Bool) {x y : ℕ} → x ≡ y → cond b y x ≡ y
alike true e = refl
alike false e = e

module _ (next : ℕ → ℕ) (N : ℕ) where
  pub chain_below : (a : ℕ) (xs : List ℕ) → Chain next N a xs → below N xs ≡ true
  chain_below a [] ch = refl
  chain_below a (x ∷ xs) ch = and_of (ltb_of ch.1) (chain_below (next x) xs ch.2)

  -- a chain that is followed and has ended
  pub follow_chain : (c a : ℕ) → length (follow c next a) < c → below N (follow c next a) ≡ true → Chain next N a (follow c next a)
  follow_chain zero a h b = absurd (omega arith)
  follow_chain (suc c) a h b = elim (ℕ_discrete a none) [
    | yes e ↦ subst (λ xs. Chain next N a xs) (sym (follow-none (suc c) next a e)) e
    | no e ↦
        (let q = follow-step c next a e in
        let r = both (nat_lt a N) (below N (follow c next (next a))) (subst (λ xs. below N xs ≡ true) q b) in
        subst (λ xs. Chain next N a xs) (sym q) (refl, lt_of r.0, follow_chain c (next a) (omega (arith, ap length q)) r.1))
  ]

  pub chain_in : (a : ℕ) (xs : List ℕ) → Chain next N a xs → (c : ℕ) → 0 < count c xs → c < N
  chain_in a [] ch c h = absurd (omega (arith, count_nil c))
  chain_in a (x ∷ xs) ch c h = elim (ℕ_discrete c x) [
    | yes e ↦ omega (arith, ch.1)
    | no e ↦ chain_in (next x) xs ch.2 c (omega (arith, count_cons c x xs, δ_other c x e))
  ]

  -- from an element on
  pub chain_from_lem : (a : ℕ) (xs : List ℕ) (c : ℕ) (ys : List ℕ) → Chain next N a (xs ++ (c ∷ ys)) → Chain next N (next c) ys
  chain_from_lem a [] c ys ch = ch.2
  chain_from_lem a (x ∷ xs) c ys ch = chain_from_lem (next x) xs c ys ch.2

  pub chain_moved : {a b : ℕ} (xs : List ℕ) → a ≡ b → Chain next N a xs → Chain next N b xs
  chain_moved xs e ch = subst (λ (z : ℕ). Chain next N z xs) e ch

  pub chain_ahead : N ≤ none → (a : ℕ) (xs : List ℕ) → Chain next N a xs → total (ahead next) xs + none ≡ a + length xs * 2 ^ 32
  chain_ahead few a [] ch = omega arith
  chain_ahead few a (x ∷ xs) ch =
      let I = chain_ahead few (next x) xs ch.2 in
      elim (chain_start N next (next x) xs ch.2) [ inl h ↦ omega (arith, ch.0) | inr h ↦ omega (arith, ch.0) ]

  -- one start has one chain
  pub chain_unique : N ≤ none → (a : ℕ) (xs ys : List ℕ) → Chain next N a xs → Chain next N a ys → xs ≡ ys
  chain_unique few a [] [] s t = refl
  chain_unique few a [] (y ∷ ys) s t = absurd (omega (arith, t.0, t.1))
  chain_unique few a (x ∷ xs) [] s t = absurd (omega (arith, s.0, s.1))
  chain_unique few a (x ∷ xs) (y ∷ ys) s t =
      let e : x ≡ y = sym s.0 ∙ t.0 in
      ap₂ ◌∷◌ e (chain_unique few (next y) xs ys (subst (λ (z : ℕ). Chain next N (next z) xs) e s.2) t.2)

module _ (next next' : ℕ → ℕ) (N : ℕ) (few : N ≤ none) where
  -- the last one, which named none, names g now
  pub chain_end : (g : ℕ) → g < N → next' g ≡ none → (a : ℕ) (xs : List ℕ) → ((x : ℕ) → x < N → 0 < count x xs → next' x ≡ cond (next x == none) g (next x)) → Chain next N a xs →
      Chain next' N (cond (a == none) g a) (xs ++ (g ∷ []))
  chain_end g b e a [] h ch = rw (eq-eqb a none ch) (refl, b, e)
  chain_end g b e a (x ∷ xs) h ch =
      let d : a ≢ none = omega (arith, ch.0, ch.1) in
      rw (ne_eqb a none d) (
        ch.0,
        ch.1,
        chain_moved next' N (xs ++ (g ∷ [])) (sym (h x ch.1 (omega (arith, count_cons x x xs, δ_same x))))
            (chain_end g b e (next x) xs (λ y c o. h y c (omega (arith, count_cons y x xs))) ch.2),
      )

  -- the one that named p names what p named
  pub chain_without : (p : ℕ) → p < N → (a : ℕ) (xs : List ℕ) → ((x : ℕ) → x < N → 0 < count x xs → x ≢ p → next' x ≡ cond (next x == p) (next p) (next x)) → Chain next N a xs →
      Chain next' N (cond (a == p) (next p) a) (without p xs)
  chain_without p b a [] h ch =
      let d : a ≢ p = omega arith in
      rw (without_nil p, ne_eqb a p d) ch
  chain_without p b a (x ∷ xs) h ch =
      let I = chain_without p b (next x) xs (λ y c o. h y c (omega (arith, count_cons y x xs))) ch.2 in
      elim (ℕ_discrete x p) [
        | yes e ↦ rw (eq-eqb a p (ch.0 ∙ e), ap (λ (y : ℕ). without p (y ∷ xs)) e ∙ without-same p xs) (chain_moved next' N (without p xs) (alike (next x == p) (ap next e)) I)
        | no e ↦ rw (ne_eqb a p (λ d. e (sym ch.0 ∙ d)), without_other p x xs e)
            (ch.0, ch.1, chain_moved next' N (without p xs) (sym (h x ch.1 (omega (arith, count_cons x x xs, δ_same x)) e)) I)
      ]
