pub mod BisectedDissects
pub mod ProperLaw
pub mod RedDissects
pub mod Check
pub mod FlawlessLaw
