pub mod Asked
pub mod Eaches
pub mod LineLists
pub mod Numbers
pub mod OneTrace
pub mod Replies
pub mod Told
