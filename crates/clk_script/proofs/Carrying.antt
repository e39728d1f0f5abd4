-- What carrying out a script comes to and writes.
pub mod ScriptRouterLemmas
pub mod AnswerLemmas
pub mod DrainLemmas
pub mod HeldLemmas
pub mod RowLemmas
pub mod CarriedLemmas
pub mod ReplayLemmas
pub mod ReportLemmas
