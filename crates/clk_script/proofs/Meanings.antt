-- What a script means, that it means one thing, and why it is refused.
pub mod Alike
pub mod Apart
pub mod OneTree
pub mod OneMeaning
pub mod OneDevice
pub mod ScriptLemmas
pub mod RefusalLemmas
