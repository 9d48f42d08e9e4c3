pub mod Asking
pub mod AskingLaw
pub mod WorkLaw
pub mod Steps
