-- Laws that belong to no one function.
pub mod Keeping
pub mod Placing
pub mod Admitting
pub mod Meeting
pub mod Closing
pub mod Popping
mod Opening
