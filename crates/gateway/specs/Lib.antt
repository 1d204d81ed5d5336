pub mod event_core
pub mod served
pub mod poller
pub mod WorkedRequests
pub mod Laws
