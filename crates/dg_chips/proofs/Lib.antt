pub mod VectorLaws
pub mod FlowLaws
pub mod DriftLaws
pub mod OneLending
pub mod Applying
mod LightLaws
pub mod SetLending
pub mod Lanes
pub mod Common
