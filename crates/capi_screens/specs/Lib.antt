pub mod RunLayout
pub mod ScreensExported
pub mod DecodedScreens
