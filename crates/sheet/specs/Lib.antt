pub mod Sheets
pub mod Fits
pub mod Seats
pub mod Slots
pub mod Laws
pub mod SheetModel
pub mod Outcomes
pub mod Succession
