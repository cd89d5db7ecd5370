pub mod History
pub mod Laws
pub mod Fronts
pub mod Desks
pub mod Notes
pub mod ArrowRows
pub mod Plain
pub mod Views
