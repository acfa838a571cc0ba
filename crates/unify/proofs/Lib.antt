mod Outcomes
mod Trees
mod Putting
mod Loading
mod Reading
mod Meaning
mod Solving
mod General
