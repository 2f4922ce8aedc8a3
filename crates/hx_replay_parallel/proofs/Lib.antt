pub mod Reading
pub mod Turning
pub mod AfterTurns
pub mod TurnLists
pub mod TurnsOfPlayer
pub mod Sending
pub mod TurnEnds
