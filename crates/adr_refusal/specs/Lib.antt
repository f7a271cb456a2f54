pub mod Agreeing
pub mod Answer
pub mod Copy
pub mod Faults
pub mod Refusal
