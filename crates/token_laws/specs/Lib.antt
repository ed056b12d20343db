pub mod FaultOrder
pub mod Laws
pub mod HeaderNames
