mod Histories
mod Passing
mod Keeping
mod Opening
mod Parting
mod Dealing
mod Joining
mod Closing
