pub mod Accept
pub mod Clauses
pub mod Run
pub mod Promise
pub mod Answers
pub mod Calls
