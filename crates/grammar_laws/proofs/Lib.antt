pub mod Exists
pub mod ExistsTypes
pub mod ExistsPatterns
pub mod ExistsExprs
pub mod ExistsDeclarations
pub mod ExistsStatements
pub mod ExistsMembers
pub mod ExistsScripts
mod Gives
mod LevelsOfExprs
mod PatternForms
mod LevelsOfPatterns
mod LimitForms
mod BlocksOfStatements
mod LimitsOfMembers
mod LimitsOfScripts
mod NamesOfScripts
