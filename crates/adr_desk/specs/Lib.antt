pub mod Applied
pub mod Accepted
pub mod Desk
pub mod Edited
pub mod Ranks
pub mod Bulk
pub mod Loaded
