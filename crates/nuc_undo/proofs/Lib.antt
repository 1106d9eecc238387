pub mod Laid
mod Leads
mod Search
mod Slots
mod Stocks
mod Undoing
mod Views
