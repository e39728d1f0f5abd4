-- Why a run fails, and what fault 21 says.
pub mod LossCounts
pub mod LossAccounts
pub mod LossLists
pub mod Refused
