mod Aged
mod Agreement
mod CommitExamples
mod CommitLaws
mod Examples
mod LogLaws
