-- That what a line leaves fits the program, and what its answer's last digits name: laws of the definitions in crates/protocol.
pub mod Lent
pub mod Stays
pub mod ReadOff
