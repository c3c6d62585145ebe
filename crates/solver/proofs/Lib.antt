pub mod Attraction
pub mod Stages
pub mod Decisions
pub mod Records
pub mod Bytes
mod Parts
mod Rounds
mod Ranks
mod Cores
mod Searching
mod Dividing
mod Choosing
mod Laid
mod Solving
pub mod Accepting
