mod Entries
mod RecordsTaken
pub mod Readings
pub mod Rooms
mod Writes
pub mod Outcomes
