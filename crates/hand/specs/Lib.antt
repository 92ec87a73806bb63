pub mod HandAnswers
pub mod OnceRound
