pub mod Judged
pub mod Ledger
