pub mod Times
pub mod Rows
pub mod Dense
pub mod Tables
pub mod Found
pub mod Counted
pub mod Accepted
pub mod Crossing
