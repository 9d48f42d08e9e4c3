-- Document 01, 'The line program', as definitions. Read crates/text/specs (Digits, Lines), then Frames and Program; then the texts that
-- are computed, and the sentences of 01 and 02 that are theorems.
pub mod Kinds
pub mod Frames
pub mod Program
pub mod Worked
