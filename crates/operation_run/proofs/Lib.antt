mod Drafts
mod Reached
mod KeyReach
mod Steps
mod Listed
mod Single
