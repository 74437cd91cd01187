pub mod Lists
pub mod RunLaws
pub mod StartedLaws
pub mod SettleLaws
pub mod FirstLaws
pub mod EventLaws
pub mod LongerLaws
pub mod StepLaws
pub mod PointLaws
pub mod CommitLaws
pub mod GiveLaws
pub mod RestLaws
pub mod OrderLaws
pub mod ResetLaws
pub mod WorldLaws
pub mod WorkLaws
pub mod PickLaws
pub mod HomeLaws
pub mod AfterLaws
pub mod StoreLaws
pub mod IdleLaws
pub mod DrainLaws
pub mod Programs
pub mod OriginLaws
pub mod KeepLaws
pub mod GateLaws
pub mod RunEvents
pub mod UntilLaws
pub mod StayLaws
pub mod GuardLaws
mod WrongRules
mod Leads
mod WorkedConflicts
mod WorkedLists
mod WorkedSurvivor
mod WorkedReads
mod WorkedOrders
