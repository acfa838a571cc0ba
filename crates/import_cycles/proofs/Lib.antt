mod Marking
mod Cycles
