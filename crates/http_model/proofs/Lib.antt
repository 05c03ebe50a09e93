pub mod Targets
pub mod Heads
pub mod Blanks
pub mod Requests
pub mod HopelessLaw
pub mod BodiesLaw
pub mod Growth
pub mod RestsLaw
pub mod ExchangesLaw
pub mod ServedLaw
mod Examples
mod SessionExamples
pub mod TasksLaw
