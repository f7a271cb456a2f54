pub mod Order
pub mod Scan
