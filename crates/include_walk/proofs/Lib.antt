mod Adding
mod Linking
mod Stepping
mod Along
mod Kept
mod Finding
mod KeyLooks
mod Walking
