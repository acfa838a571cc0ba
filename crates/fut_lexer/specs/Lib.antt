pub mod Words
pub mod Numbers
pub mod Rules
pub mod Positions
pub mod Scanned
pub mod Lexing
pub mod Spans
pub mod Private
