mod AtRest
mod Costs
mod Leaving
mod Reading
mod Steps
