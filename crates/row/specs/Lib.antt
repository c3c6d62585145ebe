pub mod Rows
pub mod Drafts
pub mod Records
pub mod RowModel
pub mod Refusals
