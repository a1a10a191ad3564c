-- Laws of a memory: what a worker remembers after it remembers one more leaf, and after its memory is emptied.
use Rattle.std.specs.Prelude.{◌≡◌, refl, ◌≢◌, ◌⊎◌, List, ℕ, zero, suc, ◌+◌, ◌≤◌, ◌<◌, length, set}
use Rattle.std.proofs.Math.Path.{ap}
use Rattle.std.proofs.Common.{◌∙◌, ⊎_elim, le-leb}
use Rattle.std.proofs.Math.Logic.{inl, inr}
use native.Mathlib.Omega.{arith}
use Rattle.std.proofs.Math.Decide.{ℕ_discrete, dec_le}
use Rattle.std.proofs.Math.ListN.{get_or, length-set}
use Rattle.std.proofs.lemmas.List.{length-replicate, get_or-replicate}
use Rattle.std.proofs.Math.Seq.{get_or-set_same, get_or-set_other, set-get_or}
use Rattle.std.proofs.lemmas.Bool.{lt-leb}
use Rattle.words.specs.Basics.{plus}
use Rattle.frames.specs.Widths.{max_workers}
use Rattle.memory.specs.Memory.{max_splitters, row_at, base_at, memory_words, max_nodes, last_base, base, entry, remembered, no_memory, remember, zeroed_from, emptied}

-- ---- a run of zeros

length_zeroed : (c : ℕ) (ms : List ℕ) (i : ℕ) → length (zeroed_from c ms i) ≡ length ms
unfolding zeroed_from
length_zeroed zero ms i = refl
length_zeroed (suc c) ms i = length_zeroed c (set ms i 0) (suc i) ∙ length-set ms i 0

zeroed_out : (c : ℕ) (ms : List ℕ) (i j : ℕ) → (j < i) ⊎ (i + c ≤ j) → get_or (zeroed_from c ms i) j 0 ≡ get_or ms j 0
unfolding zeroed_from
zeroed_out zero ms i j o = refl
zeroed_out (suc c) ms i j o =
    zeroed_out c (set ms i 0) (suc i) j (⊎_elim (λ a. inl (omega arith)) (λ a. inr (omega arith)) o)
    ∙ get_or-set_other ms i j 0 0 (⊎_elim (λ a. omega arith) (λ a. omega arith) o)

zeroed_in : (c : ℕ) (ms : List ℕ) (i j : ℕ) → i ≤ j → j < i + c → i + c ≤ length ms → get_or (zeroed_from c ms i) j 0 ≡ 0
unfolding zeroed_from
zeroed_in zero ms i j a b l = absurd (omega arith)
zeroed_in (suc c) ms i j a b l = elim (ℕ_discrete j i) [
  | yes e ↦ zeroed_out c (set ms i 0) (suc i) j (inl (omega arith)) ∙ rw e (get_or-set_same ms i 0 0 (omega arith))
  | no e ↦ zeroed_in c (set ms i 0) (suc i) j (omega arith) (omega arith) (omega (arith, length-set ms i 0))
]

-- ---- one more leaf

-- the word for leaf a above a base
leaf_word : (b a : ℕ) → b ≤ last_base → a < max_nodes → plus b (plus a 1) ≡ b + suc a
leaf_word b a h k = omega arith

pub length-remember : (ms : List ℕ) (w x a : ℕ) → length (remember ms w x a) ≡ length ms
unfolding remember
length-remember ms w x a = length-set ms (row_at w + x) (plus (base ms w) (plus a 1))

module _ (ms : List ℕ) (long : length ms ≡ memory_words) where
  module _ (w x a : ℕ) (inside : w < max_workers) (one : x < max_splitters) where
    pub base-remember : (u : ℕ) → base (remember ms w x a) u ≡ base ms u
    unfolding remember base
    base-remember u = get_or-set_other ms (row_at w + x) (base_at u) _ 0 (omega arith)

    entry-same : entry (remember ms w x a) w x ≡ plus (base ms w) (plus a 1)
    unfolding remember entry
    entry-same = get_or-set_same ms (row_at w + x) _ 0 (omega arith)

    entry_other : (u y : ℕ) → y < max_splitters → (u ≢ w) ⊎ (y ≢ x) → entry (remember ms w x a) u y ≡ entry ms u y
    unfolding remember entry
    entry_other u y h d = get_or-set_other ms (row_at w + x) (row_at u + y) _ 0 (⊎_elim (λ e. omega arith) (λ e. omega arith) d)

    pub remembered-same : a < max_nodes → base ms w ≤ last_base → remembered (remember ms w x a) w x ≡ suc a
    remembered-same h b = omega (arith, entry-same, base-remember w, leaf_word (base ms w) a b h)

    pub remembered_other : (u y : ℕ) → y < max_splitters → (u ≢ w) ⊎ (y ≢ x) → remembered (remember ms w x a) u y ≡ remembered ms u y
    remembered_other u y h d = omega (arith, entry_other u y h d, base-remember u)

    -- a leaf that is remembered already
    pub remember_again : base ms w ≤ last_base → a < max_nodes → remembered ms w x ≡ suc a → remember ms w x a ≡ ms
    unfolding remember entry
    remember_again b h e =
        let i = row_at w + x in
        let is : plus (base ms w) (plus a 1) ≡ get_or ms i 0 = leaf_word (base ms w) a b h ∙ omega arith in
        ap (set ms i) is ∙ set-get_or ms i 0

-- ---- a memory emptied

-- the base goes up, or the row is zeroed
abbrev raised : List ℕ → ℕ → List ℕ
raised ms w = set ms (base_at w) (base ms w + max_nodes)

abbrev cleared : List ℕ → ℕ → List ℕ
cleared ms w = zeroed_from max_splitters (set ms (base_at w) 0) (row_at w)

emptied_either : (ms : List ℕ) (w : ℕ) → ((base ms w + max_nodes ≤ last_base) × (emptied ms w ≡ raised ms w)) ⊎ (emptied ms w ≡ cleared ms w)
unfolding emptied
emptied_either ms w = elim (dec_le (base ms w + max_nodes) last_base) [
  | yes p ↦ inl (p, rw (le-leb (base ms w + max_nodes) last_base p))
  | no p ↦ inr (rw (lt-leb (base ms w + max_nodes) last_base (omega arith)))
]

pub length-emptied : (ms : List ℕ) (w : ℕ) → length (emptied ms w) ≡ length ms
length-emptied ms w = elim (emptied_either ms w) [
  | inl e ↦ ap length e.1 ∙ length-set ms (base_at w) (base ms w + max_nodes)
  | inr e ↦ ap length e ∙ length_zeroed max_splitters (set ms (base_at w) 0) (row_at w) ∙ length-set ms (base_at w) 0
]

module _ (ms : List ℕ) (long : length ms ≡ memory_words) (w : ℕ) (inside : w < max_workers) where
  -- its own row
  raised_base : base (raised ms w) w ≡ base ms w + max_nodes
  unfolding base
  raised_base = get_or-set_same ms (base_at w) (get_or ms (base_at w) 0 + max_nodes) 0 (omega arith)

  raised_entry : (u y : ℕ) → u < max_workers → y < max_splitters → entry (raised ms w) u y ≡ entry ms u y
  unfolding entry
  raised_entry u y g h = get_or-set_other ms (base_at w) (row_at u + y) (base ms w + max_nodes) 0 (omega arith)

  cleared-base : base (cleared ms w) w ≡ 0
  unfolding base
  cleared-base = zeroed_out max_splitters (set ms (base_at w) 0) (row_at w) (base_at w) (inr (omega arith)) ∙ get_or-set_same ms (base_at w) 0 0 (omega arith)

  cleared-entry : (y : ℕ) → y < max_splitters → entry (cleared ms w) w y ≡ 0
  unfolding entry
  cleared-entry y h = zeroed_in max_splitters (set ms (base_at w) 0) (row_at w) (row_at w + y) (omega arith) (omega arith) (omega (arith, length-set ms (base_at w) 0))

  -- the others'
  raised_base_other : (u : ℕ) → u ≢ w → base (raised ms w) u ≡ base ms u
  unfolding base
  raised_base_other u d = get_or-set_other ms (base_at w) (base_at u) (get_or ms (base_at w) 0 + max_nodes) 0 (omega arith)

  cleared-base_other : (u : ℕ) → u ≢ w → base (cleared ms w) u ≡ base ms u
  unfolding base
  cleared-base_other u d = zeroed_out max_splitters (set ms (base_at w) 0) (row_at w) (base_at u) (inr (omega arith)) ∙ get_or-set_other ms (base_at w) (base_at u) 0 0 (omega arith)

  cleared-entry_other : (u y : ℕ) → u < max_workers → u ≢ w → y < max_splitters → entry (cleared ms w) u y ≡ entry ms u y
  unfolding entry
  cleared-entry_other u y g d h =
      zeroed_out max_splitters (set ms (base_at w) 0) (row_at w) (row_at u + y) (elim (dec_le u w) [ yes p ↦ inl (omega arith) | no p ↦ inr (omega arith) ])
      ∙ get_or-set_other ms (base_at w) (row_at u + y) 0 0 (omega arith)

  base_other : (u : ℕ) → u ≢ w → base (emptied ms w) u ≡ base ms u
  base_other u d = elim (emptied_either ms w) [
    | inl e ↦ rw e.1 (raised_base_other u d)
    | inr e ↦ rw e (cleared-base_other u d)
  ]

  pub emptied-none : ((y : ℕ) → y < max_splitters → remembered ms w y ≤ max_nodes) → (y : ℕ) → y < max_splitters → remembered (emptied ms w) w y ≡ 0
  emptied-none low y h = elim (emptied_either ms w) [
    | inl e ↦ rw e.1 (omega (arith, low y h, raised_base, raised_entry w y inside h))
    | inr e ↦ rw e (omega (arith, cleared-entry y h))
  ]

  pub emptied_other : (u y : ℕ) → u < max_workers → y < max_splitters → u ≢ w → remembered (emptied ms w) u y ≡ remembered ms u y
  emptied_other u y g h d = elim (emptied_either ms w) [
    | inl e ↦ rw e.1 (omega (arith, raised_entry u y g h, raised_base_other u d))
    | inr e ↦ rw e (omega (arith, cleared-entry_other u y g d h, cleared-base_other u d))
  ]

  pub base-emptied : ((v : ℕ) → v < max_workers → base ms v ≤ last_base) → (u : ℕ) → u < max_workers → base (emptied ms w) u ≤ last_base
  base-emptied low u h = elim (ℕ_discrete u w) [
    | yes z ↦ rw z (elim (emptied_either ms w) [ inl e ↦ rw e.1 (omega (arith, e.0, raised_base)) | inr e ↦ rw e (omega (arith, cleared-base)) ])
    | no d ↦ omega (arith, base_other u d, low u h)
  ]

-- ---- nothing remembered

pub base-none : (w : ℕ) → w < max_workers → base no_memory w ≡ 0
unfolding base
base-none w h = get_or-replicate memory_words (base_at w) 0 0 (omega arith)

entry-none : (w x : ℕ) → w < max_workers → x < max_splitters → entry no_memory w x ≡ 0
unfolding entry
entry-none w x h k = get_or-replicate memory_words (row_at w + x) 0 0 (omega arith)

pub remembered-none : (w x : ℕ) → w < max_workers → x < max_splitters → remembered no_memory w x ≡ 0
remembered-none w x h k = omega (arith, entry-none w x h k)

pub length_none : length no_memory ≡ memory_words
length_none = length-replicate {A = ℕ} memory_words 0
