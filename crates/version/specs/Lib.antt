pub mod Kinds
pub mod Lists
pub mod Meaning
pub mod Order
