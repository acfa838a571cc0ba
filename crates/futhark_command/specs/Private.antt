-- Words for the clauses of private functions. Nothing here need be read to believe what the public call says.
pub mod Gathered
