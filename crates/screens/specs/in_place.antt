pub mod OnStructs
pub mod LoadAll
pub mod ScreensInPlace
