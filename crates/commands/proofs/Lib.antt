pub mod AcceptedLemmas
pub mod CheckLemmas
pub mod ClientLemmas
pub mod CoreLemmas
pub mod ExplainLemmas
mod FoundLemmas
mod ForLemmas
pub mod GivenLemmas
pub mod HeadlineLemmas
pub mod LineLemmas
pub mod MeaningLemmas
mod ModelLemmas
pub mod NumberLemmas
pub mod ObeyLemmas
pub mod OutcomeLemmas
pub mod ReportLemmas
mod RunLemmas
pub mod ScanLemmas
mod StepLemmas
mod Texts
pub mod UnitLemmas
pub mod WholeLemmas
mod WritingLemmas
