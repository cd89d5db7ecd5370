pub mod Characters
pub mod Reflections
pub mod Items
pub mod Reports
