pub mod RuleExported
