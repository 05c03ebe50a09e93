mod Exact
mod Floats
mod PlaceSteps
