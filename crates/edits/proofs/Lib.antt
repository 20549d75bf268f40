pub mod ScanLaws
pub mod StrokeLaws
pub mod StateLaws
