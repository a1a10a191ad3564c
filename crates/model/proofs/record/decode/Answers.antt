-- The record's 8 bytes are in the tape.
use Rattle.std.proofs.Common.{◌≡◌, ◌∙◌, ℕ, ◌+◌, length, arith}
use borrow.Author.Tests.{le-ltb}
use Rattle.model.specs.Record.{record_of, decode_at}
use Rattle.model.proofs.record.decode.Goals as goal

same_fields : {k k' w w' f f' v v' : ℕ} → k ≡ k' → w ≡ w' → f ≡ f' → v ≡ v' → record_of k w f v ≡ record_of k' w' f' v'
same_fields ek ew ef ev = λ i. record_of (ek i) (ew i) (ef i) (ev i)

pub returns : goal.returns
unfolding decode_at
returns c =
    rw (le-ltb (length c.args.tape.now) (c.args.at + 8) (omega arith)) (c.step_of.ensures ∙ same_fields c.from.ensures c.from-2.ensures (omega arith) (omega arith))
