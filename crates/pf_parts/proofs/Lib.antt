pub mod BracketLemmas
pub mod CallBack
pub mod CallGrammar
pub mod CallPrints
pub mod CallReads
pub mod CallTargets
pub mod JoinLemmas
