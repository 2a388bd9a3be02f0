pub mod Accepted
pub mod Changes
pub mod Ends
pub mod Judged
pub mod Moved
pub mod Opened
pub mod Proper
pub mod Reopened
