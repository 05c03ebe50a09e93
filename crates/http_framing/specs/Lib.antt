pub mod Rooms
pub mod Fills
pub mod Fronts
pub mod Taken
pub mod FillLaws
pub mod Sections
