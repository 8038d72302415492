pub mod Answered
pub mod Firsts
pub mod Sorts
pub mod Takings
