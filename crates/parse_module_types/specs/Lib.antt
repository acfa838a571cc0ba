pub mod MtypeFound
pub mod MtypeTie
