pub mod GatheredLaws
pub mod CallLaws
