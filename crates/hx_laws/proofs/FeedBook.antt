-- That the book of the feed is the shown live orders.
pub mod ShownShares
pub mod ShownExecutions
pub mod ShownLeaving
pub mod ShownEnding
pub mod ShownArrivals
pub mod ShownSteps
pub mod ShownReplaces
pub mod ShownRuns
