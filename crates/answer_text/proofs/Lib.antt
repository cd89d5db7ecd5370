pub mod Arrows
mod Loops
mod Printed
mod Wholes
mod Spacing
pub mod OneAnswer
