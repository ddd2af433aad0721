pub mod Adding
pub mod Taking
pub mod Moving
pub mod Opening
