pub mod PairLaws
pub mod AskedLaws
