pub mod SumLaws
pub mod WeighLaws
pub mod TriedAll
pub mod PartWeights
pub mod Vectors
pub mod CountedParts
pub mod Bounds
pub mod Theorems
