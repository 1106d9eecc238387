mod AnyOrder
pub mod Bringing
pub mod Counted
pub mod Ends
pub mod Fitting
pub mod Flying
pub mod Kept
mod Keyed
pub mod Landed
pub mod Lasting
pub mod Laying
pub mod Leading
pub mod LocalAfter
pub mod Notes
pub mod Noticed
pub mod Observes
pub mod Outcomes
mod Ready
pub mod ReadyPlans
pub mod ScanBrings
pub mod StaysReady
pub mod Steady
mod Swaps
mod Trials
pub mod Turned
pub mod Versions
pub mod WatchBrings
pub mod Written
