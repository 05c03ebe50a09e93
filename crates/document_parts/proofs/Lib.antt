mod PointerTexts
mod Texts
