pub mod CopyWeights
pub mod DeepCopies
