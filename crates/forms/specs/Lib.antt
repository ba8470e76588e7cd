pub mod Form
pub mod Grammar
pub mod Table
pub mod Tail
pub mod Row
pub mod Spot
