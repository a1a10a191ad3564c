-- The free chain: it is followed to its end over just as many free places as no frame lives in if and only if the chain of the
-- definition has each of those once, and they are free.
use Rattle.std.specs.Prelude.{◌≡◌, refl, Bool, true, cond, List, ℕ, zero, suc, ◌+◌, ◌-◌, ◌≤◌, ◌<◌, length}
use Rattle.std.proofs.Common.{sym, ap, ◌∙◌, inl, inr, arith, eq-eqb, ne_eqb}
use Rattle.std.proofs.Math.Decide.{ℕ_discrete}
use Rattle.words.specs.Basics.{sum, how_many, count, follow, below}
use Rattle.words.specs.Counting.{sum_cong}
use Rattle.words.specs.Tests.{decided}
use Rattle.words.specs.Loops.{count-sum}
use Rattle.words.specs.Followed.{Listed, listed_all, chain_listed, listed_chain}
use Rattle.frames.specs.declared.Frame.{Frame}
use Rattle.frames.specs.Frames.{frame_at}
use Rattle.frames.specs.Widths.{max_places}
use Rattle.soundness.specs.Soundness.{free_places}
use Rattle.soundness.proofs.Theory.Is.{Is}
use Rattle.soundness.proofs.Theory.Sentences.{Lives, FreeAt, free_is}
use Rattle.frame_check.specs.Algorithm.{live_at, lives, next, free_sound, chain_from}

-- ---- sums

-- of the others a test does not hold
abbrev out : (ℕ → Bool) → ℕ → ℕ
out f j = cond (f j) 0 1

sum_out : (n : ℕ) (f : ℕ → Bool) → how_many n f + sum n (out f) ≡ n
sum_out zero f = refl
sum_out (suc n) f = elim (decided (f n)) [ inl e ↦ rw e (omega (arith, sum_out n f)) | inr e ↦ rw e (omega (arith, sum_out n f)) ]

-- of n places l are live and s are not; a is a list's counts summed, and b its length
enough : (n l s : ℕ) → l + s ≡ n → s ≤ n - l
enough n l s u = omega arith

long_as : (n l s a b : ℕ) → l + s ≡ n → a ≡ b → a ≡ s → b ≡ n - l
long_as n l s a b u v w = omega arith

minus_le : (n l : ℕ) → n - l ≤ n
minus_le n l = omega arith

-- ---- a chain that ends

abbrev empty_at : List Frame → ℕ → Bool
empty_at fs p = free_sound (frame_at fs p)

-- xs is a list of c free places, each there once
abbrev Frees : List Frame → ℕ → List ℕ → Type 0
Frees fs c xs = Listed (length fs) (empty_at fs) c xs

module _ (fs : List Frame) (few : length fs ≤ max_places) where
  chain_sound : (c f a : ℕ) → c ≤ f → chain_from fs c a ≡ true → Frees fs c (follow (suc f) (next fs) a)
  unfolding chain_from
  chain_sound = chain_listed (length fs) (next fs) (empty_at fs) (chain_from fs) (omega arith) (λ a. refl) (λ c a. refl)

  chain_complete : (c f a : ℕ) → c ≤ f → Frees fs c (follow (suc f) (next fs) a) → chain_from fs c a ≡ true
  unfolding chain_from
  chain_complete = listed_chain (length fs) (next fs) (empty_at fs) (chain_from fs) (omega arith) (λ a. refl) (λ c a. refl)

-- ---- and the places where no frame lives

-- the chain xs of the definition has each place where no frame lives once
pub record FreeChain (fs : List Frame) (xs : List ℕ) : Type 0 where
  pub within : below (length fs) xs ≡ true
  pub off : (x : ℕ) → x < length fs → Lives fs x → count x xs ≡ 0
  pub once : (x : ℕ) → x < length fs → (Lives fs x → ⊥) → count x xs ≡ 1
  pub empty : (x : ℕ) → x < length fs → (Lives fs x → ⊥) → FreeAt fs x

-- no frame lives in a free place
pub free_dead : (fs : List Frame) (x : ℕ) → FreeAt fs x → Lives fs x → ⊥
free_dead fs x f l = (let z = ap (λ (g : Frame). g.live) f.1 in omega (arith, l, z))

module _ (fs : List Frame) (xs : List ℕ) where
  -- the count of a place: none if a frame lives there, else one
  vacancy : ℕ → ℕ
  vacancy = out (live_at fs)

  no_vacancy : (x : ℕ) → Lives fs x → vacancy x ≡ 0
  unfolding vacancy
  no_vacancy x l = rw (eq-eqb (frame_at fs x).live 1 l)

  a_vacancy : (x : ℕ) → (Lives fs x → ⊥) → vacancy x ≡ 1
  unfolding vacancy
  a_vacancy x l = rw (ne_eqb (frame_at fs x).live 1 l)

  vacancies : lives fs + sum (length fs) vacancy ≡ length fs
  unfolding vacancy
  vacancies = sum_out (length fs) (live_at fs)

  -- as many different ones as there are: each of them
  chained : Frees fs (length fs - lives fs) xs → FreeChain fs xs
  chained v = record {
    within = v.within;
    off = λ x b l. each x b ∙ no_vacancy x l;
    once = λ x b l. each x b ∙ a_vacancy x l;
    empty = λ x b l. (free_is fs x).fact (v.passes x b (omega (arith, each x b, a_vacancy x l)));
  }
    where
      each : (x : ℕ) → x < length fs → count x xs ≡ vacancy x
      each = listed_all (length fs) (empty_at fs) (length fs - lives fs) xs vacancy (λ x t. a_vacancy x (free_dead fs x ((free_is fs x).fact t))) (enough (length fs) (lives fs) (sum (length fs) vacancy) vacancies) v

  frees : FreeChain fs xs → Frees fs (length fs - lives fs) xs
  frees p = record {
    within = p.within;
    size = long_as (length fs) (lives fs) (sum (length fs) vacancy) (sum (length fs) (λ i. count i xs)) (length xs) vacancies (count-sum (length fs) xs p.within) (sum_cong (length fs) (λ i. count i xs) vacancy each);
    passes = λ x b o. (free_is fs x).test (elim (ℕ_discrete (frame_at fs x).live 1) [ yes l ↦ absurd (omega (arith, p.off x b l)) | no l ↦ p.empty x b l ]);
    once = λ x b. elim (ℕ_discrete (frame_at fs x).live 1) [ yes l ↦ omega (arith, p.off x b l) | no l ↦ omega (arith, p.once x b l) ];
  }
    where
      each : (x : ℕ) → x < length fs → count x xs ≡ vacancy x
      each x b = elim (ℕ_discrete (frame_at fs x).live 1) [ yes l ↦ p.off x b l ∙ sym (no_vacancy x l) | no l ↦ p.once x b l ∙ sym (a_vacancy x l) ]

pub chain_is : (fs : List Frame) (first : ℕ) → length fs ≤ max_places → Is (chain_from fs (length fs - lives fs) first) (FreeChain fs (free_places fs first))
chain_is fs first few =
    let c = minus_le (length fs) (lives fs) in
    record {
      fact = λ e. chained fs (free_places fs first) (chain_sound fs few (length fs - lives fs) (length fs) first c e);
      test = λ p. chain_complete fs few (length fs - lives fs) (length fs) first c (frees fs (free_places fs first) p);
    }
