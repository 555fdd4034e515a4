pub mod CallsInPlace
