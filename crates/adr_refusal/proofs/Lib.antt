pub mod Agreeing
pub mod Judged
pub mod Refusals
