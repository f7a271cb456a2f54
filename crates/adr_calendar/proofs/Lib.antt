pub mod Numbered
pub mod Segments
pub mod States
pub mod Walked
pub mod Tabled
mod Days
mod Digits
mod Places
