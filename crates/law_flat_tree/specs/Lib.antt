pub mod Levels
pub mod Leaves
pub mod Descents
pub mod Pages
pub mod Trees
pub mod PageSplits
pub mod PageMerges
pub mod PageRaises
