pub mod Complete
pub mod Descended
pub mod Exact
pub mod Leaf
pub mod Nodes
pub mod Walking
