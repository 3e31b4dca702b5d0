mod Doings
mod Meanings
mod Outcomes
mod Refusals
mod ScriptLaws
mod Spendings
