mod CompleteStatements
pub mod Fronts
mod Parsing
mod SoundStatements
mod SoundWhole
pub mod Steady
mod SteadyConditions
mod SteadyExpressions
mod SteadyLists
mod SteadySettings
mod SteadyStatements
mod SteadyTables
mod Trees
mod TreesOfStatements
