pub mod ProductRuns
pub mod PlanParts
pub mod RulePairs
pub mod Theorems
