pub mod Parts
pub mod Opened
pub mod Heights
pub mod Edited
pub mod Leaned
pub mod LookUps
pub mod Last
pub mod Crossing
pub mod Leads
mod Path
