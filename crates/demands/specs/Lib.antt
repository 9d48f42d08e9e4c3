-- What the calls promise, in one statement for each demand: the theorems of the product, and examples that meet their premises.
pub mod InFour
pub mod AskCall
pub mod Demand2Calls
pub mod Demand3Calls
pub mod ProperCalls
pub mod PointCalls
pub mod Demand3CallsExample
pub mod RedAway
