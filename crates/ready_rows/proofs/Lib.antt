pub mod Ordered
pub mod FollowLaws
