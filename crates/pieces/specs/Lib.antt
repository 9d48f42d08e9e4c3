-- Request W4, lines that arrive in pieces. Read Reader, what each call of the reader answers; then Turns and `however-cut` (HoweverCut): what is had
-- of a text, however it was cut, is what documents 01 and 02 say of the whole text.
pub mod Reader
pub mod Fits
pub mod Refused
pub mod OneOutcome
pub mod Turns
pub mod WholeText
pub mod LineBuffer
pub mod Cuts
