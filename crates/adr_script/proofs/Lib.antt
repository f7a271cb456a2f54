pub mod Cutting
pub mod Telling
pub mod Sending
pub mod Pieces
pub mod ReadsLemmas
pub mod TextLemmas
