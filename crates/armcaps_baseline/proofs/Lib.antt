pub mod Firsts
pub mod Folds
pub mod Baselines
pub mod Machines
pub mod Limiting
pub mod GroupLimits
mod Worked
