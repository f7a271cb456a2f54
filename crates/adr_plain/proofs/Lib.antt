mod Applied
mod Governed
mod InOrder
mod Placing
mod Scanning
mod Moments
mod Windows
