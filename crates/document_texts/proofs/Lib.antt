mod FieldSets
mod Items
mod ObjectTexts
pub mod PageTexts
mod Shown
