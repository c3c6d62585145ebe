pub mod Basics
pub mod Laws
pub mod Strategies
pub mod Loops
pub mod Within
pub mod Chains
