pub mod Answer
pub mod Solving
pub mod Promise
pub mod Plants
