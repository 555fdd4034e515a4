-- The counts of all parts for any inputs (document 02, S-10): definitions (specs/) and what they are on tables as built
-- (proofs/).
pub mod PartOn
pub mod PartsOn
pub mod CountOn
