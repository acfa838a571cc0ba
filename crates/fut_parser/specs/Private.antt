-- Words for the clauses of private functions, for the clauses `reads` and `refuses` of `parse`, which speak of the reader,
-- and for proofs. Nothing here need be read to believe what the other clauses of `parse` say.
pub mod ModFound
pub mod ModTie
pub mod Answers
pub mod Decs
