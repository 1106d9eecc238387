pub mod Codes
pub mod Flights
pub mod Slots
