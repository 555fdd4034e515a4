-- The highest marked node on a path, as definitions (specs/) and their laws (proofs/). No code of the program is here.
pub mod Marks
pub mod NextMarks
