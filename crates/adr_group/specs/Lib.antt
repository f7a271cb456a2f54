pub mod Governed
pub mod Group
pub mod Jobs
pub mod Laid
pub mod Repair
pub mod Writes
