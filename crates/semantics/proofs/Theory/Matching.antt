-- R-8: sound pools that match: soundness of one is soundness of the other.
use Rattle.std.specs.Prelude.{◌≡◌, true, List, ℕ, ◌*◌, ◌≤◌, length, get_or, drop}
use Rattle.std.proofs.Common.{sym, ap, ◌∙◌, arith, get_or-take}
use Rattle.words.specs.Basics.{none}
use Rattle.sizes.specs.Sizes.{height}
use Rattle.sizes.specs.Heights.{height_covers}
use Rattle.pool.specs.Theory.Elsewhere as FourElsewhere
use Rattle.pool.specs.Theory.Elsewhere.{live_elsewhere}
use Rattle.pool.specs.Theory.Operations.{Live}
use Rattle.pool.specs.Theory.Soundness.{link_level, link_size, sound-live, live-sound}
use Rattle.packed.proofs.Theory.Unpacks.{Unpacks}
use Rattle.packed.proofs.Theory.Elsewhere.{unpacks_nodes}
use Rattle.frames.specs.declared.Frame.{Frame}
use Rattle.soundness.specs.declared.Numbers.{Numbers}
use Rattle.soundness.specs.Layout.{Layout, four_words, two_words, pool_sound}
use Rattle.soundness.specs.Soundness.{live_roots}
use Rattle.soundness.specs.Trees.{free_nodes}
use Rattle.soundness.proofs.Theory.Facts.{NumbersFacts, SoundFacts}
use Rattle.soundness.proofs.Theory.Sentences.{sound_facts, facts_sound}
use Rattle.soundness.proofs.Theory.PoolSentences.{pool_fact, fact_pool}
use Rattle.soundness.proofs.Theory.PackedSound.{packed_four, four_packed}
use Rattle.soundness.proofs.Theory.Unpacked.{unpacked-live}
use Rattle.semantics.specs.Entries.{State, numbers_of, totals_of, is_sound, chain_free}
use Rattle.semantics.specs.Matching.{unpacked_pool, Matches, SoundMatch, MatchesSound, UnpackedMatches}

-- ---- soundness in one layout and in the other

-- nothing but the pool's room speaks of the layout
other_room : (L L' : Layout) {s : Numbers} {fs : List Frame} {ws ws' : List ℕ} → L'.words * s.nodes ≤ length ws' → NumbersFacts L s fs ws → NumbersFacts L' s fs ws'
other_room L L' room N = record {
  workers_positive = N.workers_positive;
  workers_le = N.workers_le;
  splitters_positive = N.splitters_positive;
  splitters_le = N.splitters_le;
  enough = N.enough;
  nodes_le = N.nodes_le;
  room = room;
  places_positive = N.places_positive;
  places_le = N.places_le;
  table = N.table;
}

module _ (s : State) where
  abbrev n : ℕ
  n = (numbers_of s).splitters

  abbrev N : ℕ
  N = (numbers_of s).nodes

  abbrev first : ℕ
  first = (numbers_of s).free_node

  abbrev rs : List ℕ
  rs = live_roots s.frames

  module _ (L L' : Layout) (ws ws' : List ℕ) where
    -- with a sound pool in the other layout
    other_sound : is_sound L s ws ≡ true → L'.words * N ≤ length ws' → pool_sound L' n N ws' first rs ≡ true → is_sound L' s ws' ≡ true
    other_sound e room p =
        let S = sound_facts L (numbers_of s) (totals_of s) s.deques s.frames ws e in
        facts_sound L' (numbers_of s) (totals_of s) s.deques s.frames ws' (record { numbers = other_room L L' room S.numbers; totals = S.totals; frames = S.frames; pool = p })

  -- ---- a sound old pool, to which the new one unpacks

  module _ (ws₄ : List ℕ) (e : is_sound four_words s ws₄ ≡ true) where
    S₄ : SoundFacts four_words (numbers_of s) (totals_of s) s.deques s.frames ws₄
    S₄ = sound_facts four_words (numbers_of s) (totals_of s) s.deques s.frames ws₄ e

    pub live₄ : Live N (height n) n (link_level (height n) ws₄) (link_size (height n) ws₄) ws₄ first (free_nodes N ws₄ first) rs
    live₄ = sound-live N (height n) n (omega (arith, S₄.numbers.nodes_le)) S₄.numbers.splitters_positive (height_covers n) (pool_fact n N ws₄ first rs S₄.numbers.room S₄.pool)

  module _ (ws₂ ws₄ : List ℕ) (tail : List ℕ) (e : is_sound four_words s ws₄ ≡ true) (U : Unpacks N tail ws₂ ws₄) where
    pub unpacks_match : SoundMatch s ws₂ ws₄
    unpacks_match =
        let S = S₄ ws₄ e in
        record {
          matches = unpacked-live n N S.numbers.splitters_positive S.numbers.nodes_le (live₄ ws₄ e) U;
          two_sound = other_sound four_words two_words ws₄ ws₂ e (omega (arith, U.long)) (four_packed n N S.numbers.splitters_positive S.numbers.nodes_le first rs U S.pool).0;
          four_sound = e;
        }

    -- with as many free nodes
    pub same_free : chain_free two_words s ws₂ ≡ chain_free four_words s ws₄
    same_free = (let S = S₄ ws₄ e in ap length (four_packed n N S.numbers.splitters_positive S.numbers.nodes_le first rs U S.pool).1)

  -- ---- a sound new pool, and the old ones that match

  module _ (ws₂ : List ℕ) (e : is_sound two_words s ws₂ ≡ true) where
    S₂ : SoundFacts two_words (numbers_of s) (totals_of s) s.deques s.frames ws₂
    S₂ = sound_facts two_words (numbers_of s) (totals_of s) s.deques s.frames ws₂ e

    unpacks_own : Unpacks N (drop (2 * N) ws₂) ws₂ (unpacked_pool s ws₂)
    unpacks_own = (packed_four n N S₂.numbers.splitters_positive S₂.numbers.nodes_le ws₂ first rs S₂.numbers.room S₂.pool).0

    own_sound : pool_sound four_words n N (unpacked_pool s ws₂) first rs ≡ true
    own_sound = (packed_four n N S₂.numbers.splitters_positive S₂.numbers.nodes_le ws₂ first rs S₂.numbers.room S₂.pool).1

    -- there is one: what it unpacks to
    own_match : SoundMatch s ws₂ (unpacked_pool s ws₂)
    own_match = unpacks_match ws₂ (unpacked_pool s ws₂) (drop (2 * N) ws₂) (other_sound two_words four_words ws₂ (unpacked_pool s ws₂) e unpacks_own.room own_sound) unpacks_own

    module _ (ws₄ : List ℕ) (room : 4 * N ≤ length ws₄) (m : Matches s ws₂ ws₄) where
      same_nodes : FourElsewhere.SameNodes N (unpacked_pool s ws₂) ws₄
      same_nodes = record { room = room; same = λ i b. sym (get_or-take (4 * N) ws₄ i 0 b) ∙ ap (λ (l : List ℕ). get_or l i 0) (sym m) }

      pub match_unpacks : Unpacks N (drop (2 * N) ws₂) ws₂ ws₄
      match_unpacks = unpacks_nodes same_nodes unpacks_own

      -- it is sound
      match_four : is_sound four_words s ws₄ ≡ true
      match_four =
          let few : N ≤ none = omega (arith, S₂.numbers.nodes_le) in
          let some = S₂.numbers.splitters_positive in
          let L = sound-live N (height n) n few some (height_covers n) (pool_fact n N (unpacked_pool s ws₂) first rs unpacks_own.room own_sound) in
          let F = fact_pool n N ws₄ first rs few (free_nodes N (unpacked_pool s ws₂) first) (live-sound N (height n) n few some (height_covers n) (live_elsewhere L same_nodes)) in
          other_sound two_words four_words ws₂ ws₄ e room F.0

pub matches_sound : (s : State) (ws₂ ws₄ : List ℕ) → MatchesSound s ws₂ ws₄
matches_sound s ws₂ ws₄ e room m = match_four s ws₂ e ws₄ room m

pub unpacked_matches : (s : State) (ws₂ : List ℕ) → UnpackedMatches s ws₂
unpacked_matches s ws₂ e = own_match s ws₂ e
