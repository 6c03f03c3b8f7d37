pub mod Budget
pub mod Calls
pub mod Demands
pub mod Keys
pub mod Numbers
pub mod RoundFigures
