mod ByClap
mod Examples
