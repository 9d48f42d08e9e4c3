-- What the code relies on: laws of the definitions in crates/protocol, in the form of its needs.
pub mod MarksLaw
pub mod CallsLaw
pub mod Steps
