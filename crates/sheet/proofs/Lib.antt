pub mod Fitting
pub mod Keeping
pub mod Pasting
pub mod Trips
pub mod Successions
pub mod Seeking
