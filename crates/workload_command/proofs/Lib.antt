mod Joined
mod Sessions
mod OnLiterals
mod BlogRead
mod Examples
