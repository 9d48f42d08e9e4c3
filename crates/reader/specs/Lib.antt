-- The code of the reader, tied to the definitions of `pieces`.
pub mod Values
pub mod Within
pub mod ReaderLaw
pub mod Steps
