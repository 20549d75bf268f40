pub mod TableLaws
pub mod CountLaws
pub mod LoadLaws
pub mod RankLaws
