pub mod Forms
pub mod Checks
pub mod FrameState
pub mod Walks
pub mod PartMatches
pub mod Effects
pub mod CodeRuns
pub mod CodeLaws
