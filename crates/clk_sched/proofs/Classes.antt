-- Each class of scheduler: its orders, and what its state tells from turn to turn.
pub mod Orders
pub mod Enumerated
pub mod Table
pub mod Bucket
pub mod BusyTurns
pub mod RoundRobinTurns
pub mod Deficits
pub mod RankBehind
pub mod RankFirst
pub mod RankLemmas
pub mod RankLess
pub mod RankMerge
pub mod StridePasses
