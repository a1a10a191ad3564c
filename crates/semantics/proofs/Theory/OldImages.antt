-- R-9: an image that the library saved with four-word nodes is refused by 17: R-3, "Each later change of the image adds 256 again and reads only its own form."
use Rattle.image.specs.declared.ImageError.TheVariants.{WrongLength}
use Rattle.std.specs.Prelude.{◌≡◌, refl, true, List, [], ◌∷◌, ◌++◌, ℕ, suc, ◌-◌, ◌*◌, ◌<◌, length, get_or, take, replicate, Err}
use Rattle.std.proofs.Common.{sym, ap, ◌∙◌, subst, arith}
use Rattle.words.specs.Basics.{plus}
use Rattle.words.specs.Below.{plus_word}
use Rattle.frames.specs.declared.Frame.{Frame}
use Rattle.soundness.specs.Layout.{four_words, two_words}
use Rattle.image.specs.Widths.{data_words, version, version_step}
use Rattle.image.specs.Image.{node_count, place_count, deques_for, table_words, bytes_of, words_of, blocks_of, blocks_for, filled, as_blocks, image_of, first_in, image_check}
use Rattle.image.proofs.Theory.Bytes.{word_back}
use Rattle.image.proofs.Theory.Promises.{refused_before}
use Rattle.semantics.specs.Entries.{State, fits}
use Rattle.semantics.specs.Images.{saved_image, load_with, load_on}
use Rattle.semantics.specs.Calls.{StateAndPool}
use Rattle.semantics.specs.ConvertDemands.{OldImageRefused}
use Rattle.semantics.proofs.Theory.FourPools.{four_pools}
use Rattle.semantics.proofs.Theory.TwoPools.{two_pools}
use Rattle.semantics.proofs.Theory.Images.{save_taken, accepted_save, sound_few}

-- the first word of blocks is the first that was written
blocks_first : (n w : ℕ) (rest : List ℕ) → w < 4294967296 → first_in (blocks_of (suc n) (bytes_of (w ∷ rest))) ≡ w
unfolding blocks_of bytes_of words_of
blocks_first n w rest b = word_back w b

words-first : (w : ℕ) (rest : List ℕ) → w < 4294967296 → first_in (as_blocks (w ∷ rest)) ≡ w
unfolding as_blocks
words-first w rest b =
    let n = blocks_for (length (w ∷ rest)) in
    let e : n ≡ suc (n - 1) = omega arith in
    ap (λ (k : ℕ). first_in (blocks_of k (bytes_of (filled n (w ∷ rest))))) e ∙ blocks_first (n - 1) w (rest ++ replicate (data_words * n - length (w ∷ rest)) 0) b

-- of an old image it is below the new version
saved_first : (ns ds : List ℕ) (fs : List Frame) (ws : List ℕ) → 0 < length ns → get_or ns 0 0 < version_step → first_in (image_of four_words ns ds fs ws) < version two_words
saved_first [] ds fs ws l few = absurd (omega arith)
saved_first (n ∷ ns) ds fs ws l few =
    omega (arith, few, words-first (plus n (version four_words)) (ns ++ deques_for (place_count (n ∷ ns)) ds ++ table_words fs ++ take (4 * node_count (n ∷ ns)) ws) (plus_word n (version four_words)))

pub old_image_refused : (s : State) (ws image : List ℕ) (parts : State) (lent work : List ℕ) → fits parts ≡ true → OldImageRefused s ws image parts lent work
unfolding load_on load_with
old_image_refused s ws image parts lent work f I =
    let h : StateAndPool = record { state = s; pool = ws } in
    let T = save_taken four_words h I.work I.target I.accepted in
    let is : image ≡ saved_image four_words s ws = I.written ∙ (accepted_save four_words four_pools h I.work I.target I.accepted).image in
    let low : first_in image < version two_words =
    subst (λ (b : List ℕ). first_in b < version two_words) (sym is) (saved_first s.numbers s.deques s.frames ws (omega (arith, T.parts.numbers)) (sound_few four_words s ws T.still)) in
    let e : image_check two_words image ≡ (Err WrongLength) = refused_before two_words two_pools.version_le image low in
    rw (f, e) refl
