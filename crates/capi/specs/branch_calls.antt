pub mod BranchExported
