pub mod Accounts
pub mod Dumping
pub mod Numbers
pub mod Playing
pub mod Sessions
pub mod Writers
