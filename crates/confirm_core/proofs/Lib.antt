pub mod Terms
pub mod ConfirmSteps
pub mod FulfilSteps
pub mod Seeing
pub mod Deciding
pub mod Finishing
