-- Document 01, 'The line program': the text of a line. Read Digits and Lines; the rest are laws in the form in which the code uses them.
pub mod Digits
pub mod Lines
pub mod LinesAre
pub mod DigitsLaw
pub mod Writing
pub mod HexLaw
pub mod LinesLaw
pub mod Out
pub mod Steps
