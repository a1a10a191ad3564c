-- The answer words of a tape's records.
use Rattle.semantics.specs.Answers.{Answer}
use Rattle.model.specs.Record.{Decoded}
use Rattle.std.specs.Prelude.{◌≡◌, refl, List, [], ◌∷◌, ℕ, zero, suc, ◌+◌, ◌<◌, length, get_or, set}
use Rattle.std.proofs.Common.{ap, ◌∙◌, arith, length-set, get_or-set_same, get_or-set_other}
use Rattle.semantics.specs.Answers.{answer_words}
use Rattle.semantics.specs.Entries.{records_from, put_answer}
use Rattle.semantics.specs.Calls.{exchanges_from, records_in}

pub length_records : (k : ℕ) (bytes : List ℕ) (at : ℕ) → length (records_from k bytes at) ≡ k
unfolding records_from
length_records zero bytes at = refl
length_records (suc k) bytes at = ap suc (length_records k bytes (at + 8))

pub put_long : (as' : List ℕ) (k : ℕ) (a : Answer) → length (put_answer as' k a) ≡ length as'
put_long as' k a = simp length-set

pub records_from_lem : (as' : List ℕ) (k : ℕ) (ds : List Decoded) → records_in (exchanges_from as' k ds) ≡ ds
records_from_lem as' k [] = refl
records_from_lem as' k (d ∷ ds) = ap (λ z. d ∷ z) (records_from_lem as' (k + 2) ds)

pub put_before : (as' : List ℕ) (k j : ℕ) (a : Answer) → j < k → get_or (put_answer as' k a) j 0 ≡ get_or as' j 0
put_before as' k j a h = get_or-set_other (set as' k (answer_words a).0) (suc k) j (answer_words a).1 0 (omega arith) ∙ get_or-set_other as' k j (answer_words a).0 0 (omega arith)

pub put_first : (as' : List ℕ) (k : ℕ) (a : Answer) → suc k < length as' → get_or (put_answer as' k a) k 0 ≡ (answer_words a).0
put_first as' k a h = get_or-set_other (set as' k (answer_words a).0) (suc k) k (answer_words a).1 0 (omega arith) ∙ get_or-set_same as' k (answer_words a).0 0 (omega arith)

pub put_second : (as' : List ℕ) (k : ℕ) (a : Answer) → suc k < length as' → get_or (put_answer as' k a) (suc k) 0 ≡ (answer_words a).1
put_second as' k a h = get_or-set_same (set as' k (answer_words a).0) (suc k) (answer_words a).1 0 (omega (arith, length-set as' k (answer_words a).0))
