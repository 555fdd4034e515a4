pub mod StateSets
pub mod inner
