pub mod Steps
pub mod Loops
mod GivenLaws
mod SeenLaws
mod TypeLaws
mod RefinedLaws
