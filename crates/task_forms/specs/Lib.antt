pub mod Desks
pub mod Fit
pub mod Meaning
pub mod MeaningLaws
pub mod Queries
pub mod DesksAlone
