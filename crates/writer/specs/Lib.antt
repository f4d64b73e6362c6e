-- What the writer's contracts speak of.
pub mod Run
pub mod Row
pub mod Write
