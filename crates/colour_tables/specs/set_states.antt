pub mod StatesAbove
pub mod Down
pub mod SetPass
