pub mod Distinct
pub mod Exchange
pub mod Indexes
pub mod Grouped
pub mod Laws
pub mod Right
