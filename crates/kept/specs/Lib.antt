-- Work with what is open of it, in keys; what each function does to them; and the laws that callers cite.
pub mod Kept
pub mod Keyed
pub mod Says
pub mod Reading
pub mod Cases
pub mod Laws
