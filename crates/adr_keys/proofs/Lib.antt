pub mod Bits
pub mod Words
pub mod Covered
pub mod Listing
pub mod Held
pub mod Indexed
pub mod Renewed
