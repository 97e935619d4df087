-- Lemmas, by subject.
mod Covering
mod Files
mod FirstKind
mod Flat
mod Holding
mod Loading
mod Names
mod OwnImage
mod Sharing
mod Written
