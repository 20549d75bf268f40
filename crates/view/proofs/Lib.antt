pub mod RefusalLaws
pub mod HeldLaws
