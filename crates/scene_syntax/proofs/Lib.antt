pub mod Compute
pub mod ProjectRowsProved
pub mod SceneRowsProved
