pub mod RecordAnswers
pub mod RecordWritten
pub mod ReadTests
