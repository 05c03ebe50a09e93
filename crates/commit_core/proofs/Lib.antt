mod Grown
mod Kept
mod Numbers
