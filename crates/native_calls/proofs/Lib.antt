mod Rows
mod Refusals
mod Calls
mod Counts
