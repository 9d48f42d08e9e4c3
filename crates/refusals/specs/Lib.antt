-- A refusal's number and culprit, and what a call says.
pub mod Refusals
