pub mod WrongReports
pub mod WrongDeadlines
pub mod WrongRemovals
pub mod UrgentClaims
pub mod UrgentCases
pub mod MorePages
pub mod GangsAsBefore
pub mod GangRules
