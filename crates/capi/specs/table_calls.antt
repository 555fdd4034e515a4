pub mod RunExported
