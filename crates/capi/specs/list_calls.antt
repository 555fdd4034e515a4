pub mod ListsExported
