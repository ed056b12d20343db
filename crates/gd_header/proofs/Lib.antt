mod Fronts
mod Globals
mod Seams
mod Skips
