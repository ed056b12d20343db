mod Clear
mod ClearExprs
mod ClearStatements
mod ClearScripts
mod CutNames
mod LaidTokens
mod LinesOfPieces
mod HeadersOfTrees
