-- What the proofs of several functions use: Laws (a turn of the loop), Ways (the ways out of the change-over).
mod Laws
mod Ways
