mod Rows
mod Search
mod Views
