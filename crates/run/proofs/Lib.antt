pub mod PlanLaws
pub mod StartLaws
pub mod RunLaws
