pub mod ReleaseSteps
pub mod RefundSteps
