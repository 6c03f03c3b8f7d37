pub mod Admitted
mod Alike
mod Answers
mod Budgets
pub mod Changes
mod Counted
pub mod Demands
pub mod Exactly
mod Keys
mod Known
pub mod Meters
mod Moved
pub mod Numbers
pub mod Prepared
pub mod Rounds
mod Said
mod Sums
pub mod Ways
