-- Demand 3 of document 01's tape.
use Rattle.model.specs.Demand3.{Demand3}
use Rattle.model.specs.Examples.Tape.{tape, values, returned}
use Rattle.model.proofs.Theory.Demand3Proof.{demand3}

demanded : Demand3 2 values 20 64 tape
demanded = demand3 2 values 20 64 tape returned
