pub mod Strip
pub mod Writing
pub mod RoundTrip
pub mod Refusals
pub mod Faults
pub mod Laws
pub mod Parts
pub mod Reading
