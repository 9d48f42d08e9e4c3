pub mod Round
pub mod Needs
pub mod NotesLaw
pub mod RoundLaw
pub mod Pair
pub mod PairLaw
pub mod Steps
