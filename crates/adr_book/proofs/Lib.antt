pub mod Refused
pub mod Verdict
pub mod Joined
pub mod Bounds
pub mod Crossing
