pub mod Faults
pub mod Tickets
pub mod Lanes
pub mod Stamps
pub mod Items
pub mod StampNumbers
pub mod LaneBits
