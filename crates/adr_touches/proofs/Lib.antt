mod Added
mod Concerned
mod Laid
mod Listed
mod Places
mod Resources
mod Types
