-- What the contracts say of shared queues.
pub mod PacketLists
pub mod Rooms
pub mod Account
pub mod Rule
pub mod Queue
pub mod Settle
pub mod Closing
pub mod Laws
pub mod Examples
pub mod SettleExamples
pub mod inside
