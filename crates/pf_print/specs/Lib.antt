pub mod SetText
pub mod HostText
pub mod RuleText
pub mod TableText
pub mod QueueText
