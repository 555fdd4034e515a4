pub mod CountExported
