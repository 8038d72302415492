pub mod Numbers
pub mod Writes
pub mod Spelled
pub mod Twos
