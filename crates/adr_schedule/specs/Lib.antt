pub mod Draft
pub mod Moves
pub mod Place
pub mod Seating
pub mod Shift
pub mod Slots
pub mod Tally
pub mod Resolved
