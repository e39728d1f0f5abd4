-- What was written, piece by piece.
pub use Rattle.clk_packet.proofs.BytesLemmas.{Appends-none, Appends-append, HasWritten, Wrote-then, Wrote-cut, flat_map_at}
