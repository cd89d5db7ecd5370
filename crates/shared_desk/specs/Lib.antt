pub mod SharedDesks
