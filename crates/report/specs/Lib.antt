pub mod Text
pub mod Plan
