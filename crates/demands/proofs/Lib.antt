pub mod Demand3
pub mod AskAgain
pub mod RedAwayHeld
pub mod Demand3CallsShown
