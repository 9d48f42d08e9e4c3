pub mod Graver
