-- From what `search` leaves to the bytes that are printed.
pub mod Nearby
pub mod Lines
pub mod Lent
pub mod Small
pub mod Calls
pub mod Texts
