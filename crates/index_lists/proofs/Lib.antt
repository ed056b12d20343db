pub mod Nodes
pub mod RowLaws
mod ChainLemmas
pub mod Crossing
mod SpellLemmas
mod TableLemmas
mod SoundLemmas
mod PlainLemmas
