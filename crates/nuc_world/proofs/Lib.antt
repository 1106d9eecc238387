pub mod Accounted
mod AccountedDones
mod AccountedEvents
mod AccountedForm
mod AccountedGrown
mod AccountedJournal
mod AccountedLands
mod AccountedPlans
mod AccountedQuiet
mod AccountedScanned
mod AccountedTaken
mod AccountedWatched
mod AccountedWeb
mod AccountedWishes
mod Counted
mod Dones
mod Entered
mod FolderPlaces
mod FoldersDiffer
mod Keeping
mod Kept
mod Later
mod Marked
mod Members
mod Mended
mod Observed
mod OneJudge
mod OnePlanned
mod OneRun
mod OneScan
mod OneStart
pub mod OneStep
mod OneTaken
mod OneTurn
mod OneUser
mod OneWatch
mod Plans
mod Quiet
mod Ran
mod Refused
mod Scanned
mod Seen
mod TakeTurns
mod Takes
mod Watched
mod Web
mod Wished
mod Worlds
pub mod Beside
pub mod Folders
pub mod Grown
pub mod Items
pub mod LastRead
pub mod News
pub mod Nothing
pub mod Opened
pub mod Reached
pub mod Ready
pub mod Uploads
