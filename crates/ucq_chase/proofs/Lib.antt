pub mod Rewritten
pub mod Labelled
mod Groups
pub mod Joined
pub mod Choice
pub mod PullBack
pub mod Steps
pub mod Closure
pub mod Covers
pub mod Firing
pub mod Replay
mod Meetings
pub mod Soundness
pub mod Cores
pub mod Unions
pub mod Names
pub mod Kept
