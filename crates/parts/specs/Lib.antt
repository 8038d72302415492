pub mod Indexed
pub mod Packed
