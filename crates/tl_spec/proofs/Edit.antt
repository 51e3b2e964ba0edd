-- Lemmas of edits.
pub mod Shape
pub mod Spelling
pub mod StepForms
