pub mod Seats
pub mod Law
pub mod Table
