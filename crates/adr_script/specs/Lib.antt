pub mod Lines
pub mod Script
pub mod Begun
pub mod Waiting
pub mod Ending
pub mod Logs
pub mod Text
