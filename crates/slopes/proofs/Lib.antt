pub mod SlopeWords
