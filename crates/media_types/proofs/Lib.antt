mod TokenTexts
mod Cuts
mod Extensions
mod Joins
mod Quoted
