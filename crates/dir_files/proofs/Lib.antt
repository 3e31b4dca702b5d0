pub mod PortLaws
pub mod JoinLaws
