mod Escapes
mod Lanes
mod Runs
