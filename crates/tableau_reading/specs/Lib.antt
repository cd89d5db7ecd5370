pub mod Shapes
pub mod Readings
pub mod Fillings
pub mod Texts
pub mod Tokens
pub mod Laws
pub mod ShapeFields
