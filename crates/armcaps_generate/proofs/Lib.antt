pub mod Drawing
pub mod Laying
pub mod LaidBytes
pub mod MovedWords
pub mod DrawnWords
pub mod LaidImage
pub mod OnlineSteps
