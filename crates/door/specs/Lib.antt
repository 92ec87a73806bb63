pub mod DoorAnswers
pub mod Exactly
