-- What the code relies on: laws of the definitions in crates/protocol, in the form of its needs.
pub mod Admitted
pub mod AdmitLaw
pub mod Steps
