pub mod RecordLaws
pub mod AlongLaws
