mod Worked
pub mod WideCodes
pub mod WideActing
pub mod WideSound
pub mod Rising
pub mod WideCounting
