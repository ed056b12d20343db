mod Texts
mod ValueTurns
mod LineTurns
mod Quotes
