pub mod Again
pub mod ClaimErrors
pub mod Claims
pub mod Logged
pub mod Onward
pub mod Sharing
