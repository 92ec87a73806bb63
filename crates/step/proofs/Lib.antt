mod SignedWords
mod Passing
mod Cutting
mod Halving
mod StepParts
