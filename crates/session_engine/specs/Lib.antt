pub mod Finishing
pub mod Plans
pub mod Seen
pub mod States
pub mod Driving
