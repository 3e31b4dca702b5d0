pub mod Files
pub mod Ports
pub mod PortStates
pub mod Images
pub mod Faults
pub mod PortCalls
