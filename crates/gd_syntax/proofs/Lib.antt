pub mod Crossing
mod Segments
mod Turns
mod Texts
pub mod Only
pub mod OnlyTypes
pub mod OnlyPatterns
pub mod OnlyExprs
pub mod Levels
pub mod Steps
pub mod TypeSteps
pub mod ExprSteps
pub mod PatternSteps
pub mod OnlyDeclarations
pub mod OnlyStatements
pub mod OnlyMembers
pub mod OnlyScripts
pub mod StatementSteps
pub mod DeclarationSteps
pub mod MemberSteps
pub mod Targets
