pub mod FieldLaws
pub mod IndexLaws
pub mod JoinLaws
pub mod ListLaws
pub mod NamedLaws
pub mod PatLaws
pub mod TokenLaws
