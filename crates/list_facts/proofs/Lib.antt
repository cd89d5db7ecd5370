pub mod Lists
pub mod Numbers
pub mod Rising
pub mod Truth
