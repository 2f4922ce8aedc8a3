-- That quiet chains leave no trace.
pub mod RetainedViews
pub mod RetainedChoices
pub mod QuietBefore
pub mod OneChain
pub mod RetainedWords
pub mod Alike
pub mod AlikeArrivals
pub mod QuietArrivals
pub mod SeenLines
pub mod SameArrivals
pub mod SameEvents
pub mod UnseenEvents
pub mod StruckRuns
pub mod StruckChoices
pub mod StruckOfAll
pub mod Partitions
