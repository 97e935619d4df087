pub mod Bytes
pub mod Marking
pub mod Rightful
pub mod Judged
pub mod Covering
pub mod Verdicts
pub mod WorkedImage
