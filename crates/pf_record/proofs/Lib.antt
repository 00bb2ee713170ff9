pub mod FaultLemmas
pub mod GivenLemmas
pub mod JoinLemmas
pub mod KeyLemmas
pub mod OneReading
pub mod ReadLemmas
pub mod SaidLemmas
pub mod WordLemmas
