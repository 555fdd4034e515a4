pub mod RecordLaws
pub mod FrontLaws
pub mod LabelsLoop
pub mod MarksLoop
pub mod LinesLoop
pub mod SearchLoop
pub mod LeavesLoop
