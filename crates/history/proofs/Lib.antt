pub mod MoreNumbers
pub mod StepsOver
pub mod LinesTold
pub mod Places
pub mod LinesAfter
