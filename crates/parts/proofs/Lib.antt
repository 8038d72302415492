pub mod Cuts
pub mod Records
pub mod Seats
