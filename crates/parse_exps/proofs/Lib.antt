pub mod InsideLaws
pub mod NodeLaws
pub mod SuffixLaws
