pub mod AppendLaws
pub mod DigitLaws
pub mod TextLaws
pub mod PrintedLaws
pub mod FigureLaws
pub mod LateLaws
