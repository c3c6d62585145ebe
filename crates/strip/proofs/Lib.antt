pub mod Passing
pub mod InRecords
pub mod Strips
pub mod Written
pub mod ReadBack
pub mod Cut
