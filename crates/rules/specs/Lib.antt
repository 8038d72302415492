pub mod Books
pub mod Codes
pub mod Worked
