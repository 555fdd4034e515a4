pub mod PassedControls
