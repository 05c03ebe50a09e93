mod Items
mod Stops
