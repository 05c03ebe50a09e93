mod Interleavings
mod Legal
mod RunLaws
