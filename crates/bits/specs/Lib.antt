pub mod Fields
pub mod Signed
