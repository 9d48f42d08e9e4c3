-- What the code relies on: laws of the definitions in crates/protocol, in the form of its needs.
pub mod Answered
pub mod FrameLaw
pub mod Steps
