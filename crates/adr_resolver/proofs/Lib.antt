pub mod Crossing
mod Digits
mod Editing
mod Fans
mod Headline
mod Inside
mod Journals
mod Larger
mod Outcomes
mod Parts
mod Printed
mod Reached
pub mod Timely
mod Words
