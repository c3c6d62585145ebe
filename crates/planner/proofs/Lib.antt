pub mod Opened
pub mod Closed
pub mod Front
pub mod Solved
pub mod Answered
pub mod Keeping
pub mod Promised
