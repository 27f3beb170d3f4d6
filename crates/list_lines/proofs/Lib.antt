pub mod ConditionLaws
mod Examples
pub mod LineLaws
pub mod OptionLaws
pub mod PartLaws
pub mod NestingLaws
