pub mod Sign
pub mod SignLaw
pub mod Rival
pub mod RivalLaw
pub mod WalkLaw
pub mod Steps
