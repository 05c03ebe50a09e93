mod Unworn
mod OneOutput
mod OneCount
