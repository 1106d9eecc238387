mod Lines
mod SeenClients
mod Statuses
mod Walk
