pub mod Gaps
pub mod Links
pub mod Puts
