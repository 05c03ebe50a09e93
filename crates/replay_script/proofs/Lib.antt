mod Fits
mod Items
mod Placed
mod ReportTexts
