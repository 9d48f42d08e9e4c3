pub mod Notes
pub mod NotesLaw
pub mod AgreeLaw
pub mod Met
pub mod MetLaw
pub mod Steps
