pub mod PlanBytes
pub mod RowSeconds
