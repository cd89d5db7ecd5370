pub mod Rows
pub mod Running
pub mod Apart
pub mod JobScripts
pub mod Worked
pub mod AllRunning
pub mod Owing
