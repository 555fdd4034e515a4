pub mod DescentExported
