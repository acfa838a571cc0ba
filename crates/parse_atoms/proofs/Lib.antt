pub mod BehindLaws
pub mod ClosingLaws
pub mod ItemLaws
pub mod LetLaws
pub mod LoopLaws
pub mod PartLaws
pub mod RowLaws
pub mod SuffixLaws
