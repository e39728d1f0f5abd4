-- That no packet is lost: where those come from that a node passes or holds.
pub mod RowHeads
pub mod Origins
pub mod Conserved
pub mod CameFrom
pub mod Counted
pub mod FewHeads
