pub mod ReadLaws
mod SortLaws
