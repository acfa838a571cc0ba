pub mod Trees
pub mod Tests
pub mod Components
