pub mod EndingLaws
pub mod MaskLaws
pub mod OrderLaws
pub mod PlayLaws
pub mod StretchLaws
pub mod WalkLaws
