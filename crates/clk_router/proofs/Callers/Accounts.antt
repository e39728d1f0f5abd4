-- What callers conclude of accounts.
pub use Rattle.clk_router.proofs.AccountLemmas.{accounts-senders, course-few}
