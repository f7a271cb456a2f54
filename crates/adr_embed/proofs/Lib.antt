pub mod Answered
pub mod Crossing
pub mod InStep
