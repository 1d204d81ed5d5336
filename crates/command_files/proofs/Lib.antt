mod FaultLemmas
mod LinkLemmas
mod SourceLemmas
